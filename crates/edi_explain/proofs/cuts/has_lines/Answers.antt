use Rattle.std.proofs.Common.{◌≡◌, ◌∙◌, suc, eqb, length, sym, ap, ap₂, arith}
use Rattle.std.proofs.lemmas.Bool.{ne_eqb}
use Rattle.edi_line.specs.inner.Lines.{lines_in}
use Rattle.edi_explain.proofs.cuts.has_lines.Goals as goal

pub returns-then-left-eq0 : goal.returns-then-left-eq0
returns-then-left-eq0 c =
    let none : c.loop-rest.left ≡ 0 = omega (arith, c.if-left-eq0.true) in
    let more = length (lines_in c.first_line.result.1.now) in
    sym (c.loop-rest.invariant ∙ ap₂ eqb none (ap length c.first_line.ensures.lines) ∙ ne_eqb 0 (suc more) (λ e. omega (arith, e)))
