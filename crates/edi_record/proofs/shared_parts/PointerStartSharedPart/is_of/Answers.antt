use Rattle.std.proofs.Common.{sym, subst, ◌∙◌}
use Rattle.std.proofs.lemmas.Slice.Eq.{bytes_eq-Decides}
use Rattle.edi_record.specs.inner.SharedParts.{IsStart, StartParts, parts_of_start}
use Rattle.edi_record.proofs.SharedParts.{one_start}
use Rattle.edi_record.proofs.shared_parts.PointerStartSharedPart.is_of.Goals as goal

pub returns : goal.returns
returns c = λ e.
    let s = c.self.inside in
    let p = parts_of_start s.bytes s.lot_end s.subset_end in
    let same = (bytes_eq-Decides c.as_slice.result.now c.start.result.now).0 (sym c.same_bytes.ensures ∙ e) in
    let here = subst (λ bytes. IsStart bytes p.lot p.subset p.rty) (sym c.as_slice.ensures ∙ same) c.self.invariant.is in
    one_start c.start.result.now _ _ _ _ _ _ (subst (λ (q : StartParts). IsStart c.start.result.now q.lot q.subset q.rty) c.self.view_is here) c.start.ensures
