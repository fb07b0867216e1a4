use Rattle.std.proofs.Common.{◌≡◌, ◌∙◌, ◌∷◌, List, [], ℕ, true, None, length, nat_eq, refl, sym, ap, arith, rules}
use Rattle.std.specs.List.{starts_with}
use Rattle.edi_line.specs.inner.Lines.{lines_in}
use Rattle.edi_explain.specs.Hints.{type_head}
use Rattle.edi_explain.proofs.Parts.{head_found, part_found, part_in}
use Rattle.edi_explain.proofs.hints.part_of.Goals as goal

pub returns-then-starts_with : goal.returns-then-starts_with
returns-then-starts_with c =
    let line = c.first_line.result.0.now in
    let begins : starts_with nat_eq line type_head ≡ true = sym c.starts_with.ensures.value ∙ c.if-starts_with.true in
    part_found c.args.bytes.now c.part_of_line.result
    (c.part_of_line.ensures ∙ (sym (head_found line (lines_in c.first_line.result.1.now) begins) ∙ (ap part_in (sym c.first_line.ensures.lines) ∙ sym c.loop-rest.invariant)))

no_lines : (bytes : List ℕ) → length bytes ≡ 0 → None ≡ part_in (lines_in bytes)
no_lines [] e = refl
no_lines (x ∷ xs) e = absurd (omega (arith, e))

pub returns : goal.returns
returns c = part_found c.args.bytes.now None (no_lines c.loop-rest.rest.now (search rules) ∙ sym c.loop-rest.invariant)
