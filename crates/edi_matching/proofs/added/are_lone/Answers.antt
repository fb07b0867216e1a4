use Rattle.std.proofs.Common.{◌∙◌, sym, true≢false}
use Rattle.edi_matching.proofs.added.are_lone.Goals as goal

pub returns-then-not-has_key : goal.returns-then-not-has_key
returns-then-not-has_key g c = (λ e. absurd (true≢false (sym e)), λ lone. sym c.if-not-has_key.true ∙ c.has_key.ensures.1 (lone.same c.index-objects-index.result))
