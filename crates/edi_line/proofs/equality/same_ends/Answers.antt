use Rattle.std.proofs.Common.{◌∙◌, nat_eq, sym, ap₂}
use Rattle.std.specs.Cmp.Lexicographic.{pointwise}
use Rattle.edi_line.proofs.SameFront.{ends_decide}
use Rattle.edi_line.proofs.equality.same_ends.Goals as goal

pub returns-then-eq : goal.returns-then-eq
returns-then-eq g c =
    let front = ap₂ (pointwise nat_eq) (sym c.bytes_at.ensures) (sym c.bytes_at-2.ensures) ∙ sym c.eq.ensures ∙ c.if-eq.true in
    c.eq-then-eq.ensures ∙ ap₂ (pointwise nat_eq) c.bytes_at-then-eq.ensures c.bytes_at-then-eq-2.ensures
    ∙ ends_decide g.row.N c.args.first.now c.args.second.now c.requires.as_long c.requires.enough c.requires.all front
