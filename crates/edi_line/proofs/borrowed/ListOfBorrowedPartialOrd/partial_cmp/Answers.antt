use Rattle.std.proofs.Common.{◌∙◌, sym}
use Rattle.std.specs.Cmp.Lexicographic.{slice_partial_cmp}
use Rattle.std.specs.Cmp.Derive.Mapped.{slice_partial_cmp-map}
use Rattle.edi_line.proofs.borrowed.ListOfBorrowedPartialOrd.partial_cmp.Goals as goal

pub returns : goal.returns
returns g c =
    c.partial_cmp.ensures ∙ ((λ i. slice_partial_cmp (λ a b. g.T.PartialOrd.partial_cmp a.now b.now) (c.as_slice.ensures.value i) (c.as_slice-2.ensures.value i))
    ∙ (sym (slice_partial_cmp-map (λ r. r.now) g.T.PartialOrd.partial_cmp c.self.inside.vec.items c.other.inside.vec.items)
    ∙ (λ i. slice_partial_cmp g.T.PartialOrd.partial_cmp (c.self.view_is i) (c.other.view_is i))))
