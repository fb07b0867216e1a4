use Rattle.std.proofs.Common.{◌∙◌, ◌-◌, Bor, List, ℕ, ap, length, sym, take}
use Rattle.edi_outcome.specs.Words.{texts}
use Rattle.edi_json_answers.specs.inner.Told.{ends_empty}
use Rattle.edi_json_answers.proofs.Pieces.{kept, popped}
use Rattle.edi_json_answers.proofs.told.drop_empty_end.Goals as goal

pub returns-then-ends_empty : goal.returns-then-ends_empty
returns-then-ends_empty c =
    let old = c.args.pieces.now.items in
    let count = sym c.deref.ensures.len ∙ ap (λ (ps : List (Bor (List ℕ))). length ps) c.deref.ensures.value in
    let ends = ap (λ (ps : List (Bor (List ℕ))). ends_empty (texts ps)) (sym c.deref.ensures.value) ∙ (sym c.ends_empty.ensures ∙ c.if-ends_empty.true) in
    ap texts c.pop.ensures.rest ∙ (ap (λ n. texts (take (n - 1) old)) count ∙ popped old ends)

pub returns-else-ends_empty : goal.returns-else-ends_empty
returns-else-ends_empty c =
    kept (texts c.args.pieces.now.items)
    (ap (λ (ps : List (Bor (List ℕ))). ends_empty (texts ps)) (sym c.deref.ensures.value) ∙ (sym c.ends_empty.ensures ∙ c.if-ends_empty.false))
