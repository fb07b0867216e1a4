use Rattle.std.proofs.Common.{◌∙◌, sym}
use Rattle.std.specs.Cmp.Lexicographic.{slice_cmp}
use Rattle.std.specs.Cmp.Derive.Mapped.{lex_map}
use Rattle.edi_line.proofs.borrowed.ListOfBorrowedOrd.cmp.Goals as goal

pub returns : goal.returns
returns g c =
    c.cmp.ensures ∙ ((λ i. slice_cmp (λ a b. g.T.Ord.cmp a.now b.now) (c.as_slice.ensures.value i) (c.as_slice-2.ensures.value i))
    ∙ (sym (lex_map (λ r. r.now) g.T.Ord.cmp c.self.inside.vec.items c.other.inside.vec.items)
    ∙ (λ i. slice_cmp g.T.Ord.cmp (c.self.view_is i) (c.other.view_is i))))
