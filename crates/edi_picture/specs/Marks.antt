-- How records are told apart.
use Rattle.std.specs.Prelude.{ℕ, Bool, ◌||◌, List, [], codes}
use Rattle.edi_picture.specs.contracts.mark.MarkPartialEq.TheImpl.{ghosts as marks}
use Rattle.edi_picture.specs.declared.mark.Ink.{Ink}
use Rattle.edi_picture.specs.declared.mark.Ink.TheVariants.{Grey, Old, New}
use Rattle.edi_picture.specs.declared.mark.Mark.{Mark}
use Rattle.edi_picture.specs.declared.mark.Mark.TheVariants.{Plain, OnlyFirst, OnlySecond, Before, After, Hidden}

-- ---- marks

-- two marks are one
abbrev pub same_mark : Mark → Mark → Bool
same_mark a b = marks.eq a b

-- what a mark says of a record, behind its title
abbrev pub mark_words : Mark → List ℕ
mark_words Plain = []
mark_words OnlyFirst = codes ", only in A"
mark_words OnlySecond = codes ", only in B"
mark_words Before = codes ", as it was in A"
mark_words After = codes ", as it is in B"
mark_words Hidden = []

-- ---- inks

-- The records of this mark are drawn in this ink: what only the first sheet has, or had so, is old, and what only the
-- second has, or has so, is new.
abbrev pub is_drawn_in : Ink → Mark → Bool
is_drawn_in Grey mark = same_mark Plain mark
is_drawn_in Old mark = same_mark OnlyFirst mark || same_mark Before mark
is_drawn_in New mark = same_mark OnlySecond mark || same_mark After mark

-- grey, and vermilion and blue, which are told apart by those who don't see all colours
abbrev pub colour : Ink → List ℕ
colour Grey = codes "#777777"
colour Old = codes "#D55E00"
colour New = codes "#0072B2"

-- how nodes are filled: those of the first sheet are rings
abbrev pub filling : Ink → List ℕ
filling Grey = codes "#777777"
filling Old = codes "white"
filling New = codes "#0072B2"

-- how many pixels lines are wide, and how many it is from the middle of a node to its rim
abbrev pub stroke_width : Ink → ℕ
stroke_width Grey = 1
stroke_width Old = 2
stroke_width New = 2

abbrev pub node_radius : Ink → ℕ
node_radius Grey = 2
node_radius Old = 5
node_radius New = 3
