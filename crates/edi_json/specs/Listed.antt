-- Which records the text of what differs lists, in its order.
use Rattle.std.specs.Prelude.{ℕ, List, [], ◌∷◌, ◌++◌, Option, Some, None, codes, slice_index_or, if◌then◌else◌}
use Rattle.std.specs.List.{flat_map}
use Rattle.edi_record.specs.declared.record.Kind.{Kind}
use Rattle.edi_record.specs.declared.record.Kind.TheVariants.{Pno, Par, Pfe, Fea, Lnk}
use Rattle.edi_plan.specs.Places.{places_of}
use Rattle.edi_report.specs.Lines.{changed_line, is_reached, lone_line}
use Rattle.edi_report.specs.Reports.{Report}

-- A record that is listed: one of the first sheet that is gone; one, and that of the second which it became; or one of
-- the second that is new.
pub data Listed : Type 0 where
  gone : ℕ → Listed
  changed : ℕ → ℕ → Listed
  added : ℕ → Listed

-- a record of the first sheet is listed unless it is one of the second: by that, and by the one that it became
abbrev pub listed_by : ℕ → Option ℕ → Option ℕ → List Listed
listed_by i (Some k) became = []
listed_by i None (Some j) = changed i j ∷ []
listed_by i None None = gone i ∷ []

abbrev pub first_listed : Report → ℕ → List Listed
first_listed r i = listed_by i (slice_index_or r.unchanged i None) (slice_index_or r.became i None)

-- a record of the second sheet is listed unless it is one of the first, or one of these became it
abbrev pub second_listed : Report → ℕ → List Listed
second_listed r j = if is_reached r.became j then [] else added j ∷ []

-- the records of a type: those of the first sheet, and those of the second
abbrev pub listed_of : Report → Kind → List Listed
listed_of r kind =
    flat_map (first_listed r) (places_of kind r.first.accepted)
    ++ flat_map (second_listed r) (places_of kind r.second.accepted)

-- the objects, the faces, the arcs, the nodes and the links
abbrev pub listed : Report → List Listed
listed r = listed_of r Fea ++ listed_of r Pfe ++ listed_of r Par ++ listed_of r Pno ++ listed_of r Lnk

-- the line that the text has of one
abbrev pub listed_line : Report → Listed → List ℕ
listed_line r (gone i) = lone_line (codes "- ") r.first i
listed_line r (changed i j) = changed_line r i j
listed_line r (added j) = lone_line (codes "+ ") r.second j
