use Rattle.std.proofs.Common.{◌∙◌, sym}
use Rattle.std.specs.Cmp.Lexicographic.{pointwise}
use Rattle.std.specs.Cmp.Derive.Mapped.{pointwise-map}
use Rattle.edi_line.proofs.borrowed.ListOfBorrowedPartialEq.eq.Goals as goal

pub returns : goal.returns
returns g c =
    c.eq.ensures ∙ ((λ i. pointwise (λ a b. g.T.PartialEq.eq a.now b.now) (c.as_slice.ensures.value i) (c.as_slice-2.ensures.value i))
    ∙ (sym (pointwise-map (λ r. r.now) g.T.PartialEq.eq c.self.inside.vec.items c.other.inside.vec.items)
    ∙ (λ i. pointwise g.T.PartialEq.eq (c.self.view_is i) (c.other.view_is i))))
