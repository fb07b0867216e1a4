use Rattle.std.proofs.Common.{◌∙◌, sym, subst, ap, length, ◌+◌}
use Rattle.edi_record.specs.inner.SharedParts.{parts_of_start, IsStartAt}
use Rattle.edi_record.proofs.SharedParts.{start_at, start_parts}
use Rattle.edi_record.proofs.shared_parts.PointerStartSharedPart.of.Goals as goal

pub invariant_of-result : goal.invariant_of-result
invariant_of-result c =
    let p = c.args.pointer.now.parts in
    subst (λ bytes. IsStartAt bytes (length p.lot.now) (length p.lot.now + 1 + length p.subset.now)) (sym c.in_ok-from_slice.ensures)
    (start_at c.start-start.result.now p.lot.now p.subset.now p.rty.now c.start-start.ensures)

pub returns : goal.returns
returns c =
    let p = c.args.pointer.now.parts in
    let same =
    ap (λ bytes. parts_of_start bytes (length p.lot.now) (length p.lot.now + 1 + length p.subset.now)) c.in_ok-from_slice.ensures
    ∙ start_parts c.start-start.result.now p.lot.now p.subset.now p.rty.now c.start-start.ensures in
    (ap (λ s. s.lot) same, ap (λ s. s.subset) same, ap (λ s. s.rty) same)
