-- A sheet with what is noted of its records.
use Rattle.std.specs.Prelude.{◌≡◌, ℕ, Bool, false, List, drop, length, slice_index_or}
use Rattle.std.specs.List.{list_any}
use Rattle.edi_plan.specs.Plans.{PlanData, IsPlace, record_at}
use Rattle.edi_plan.specs.Sides.{targets}
use Rattle.edi_report.specs.Reports.{Report}
use Rattle.edi_objects.specs.Bounds.{bounds_count, is_bent, is_lost}
use Rattle.edi_objects.specs.Differing.{arrives, outline_differs}
use Rattle.edi_objects.specs.Elements.{most_named}
use Rattle.edi_objects.specs.LinksOf.{index_of}
use Rattle.edi_objects.specs.Objects.{has_further_outline, has_other_outline}
use Rattle.edi_objects.specs.declared.account.Notes.{Notes}
use Rattle.edi_objects.specs.declared.bounds.BoundCounts.{BoundCounts}

-- whether a place is marked
abbrev pub is_marked_place : List Bool → ℕ → Bool
is_marked_place marks place = slice_index_or marks place false

-- so many places are marked where the test holds, and it holds of no other
pub record AreTested (test : ℕ → Bool) (count : ℕ) (marks : List Bool) : Type 0 where
  pub long : length marks ≡ count
  pub each : (i : ℕ) → is_marked_place marks i ≡ test i

-- the places whose outlines differ are marked
abbrev pub AreOutlined : (ℕ → Bool) → PlanData → List Bool → Type 0
AreOutlined test p outlines = (i : ℕ) → IsPlace p i → is_marked_place outlines i ≡ outline_differs test p i

-- the records of the first sheet are marked of which the outline differs in either sheet
abbrev pub AreOthers : Report → List Bool → Type 0
AreOthers r others = (i : ℕ) → IsPlace r.first.accepted i → is_marked_place others i ≡ has_other_outline r i

-- and those that name one behind the first four
abbrev pub AreFurther : Report → List Bool → Type 0
AreFurther r further = (i : ℕ) → IsPlace r.first.accepted i → is_marked_place further i ≡ has_further_outline r i

-- a test holds of one of the records that the one at a place names behind the first four
abbrev pub names_further : (ℕ → Bool) → PlanData → ℕ → Bool
names_further test p place = list_any test (drop most_named (targets (record_at p place)))

-- the index of the plan; the records of which the test holds, and those whose outlines differ
pub record AreNotes (test : ℕ → Bool) (p : PlanData) (notes : Notes) : Type 0 where
  pub indexed : notes.index.items ≡ index_of p
  pub marked : AreTested test (length p.list) notes.marks.items
  pub outlined : AreOutlined test p notes.outlines.items

-- so many links that bound each record are counted, of which the test holds
abbrev pub AreCounted : (ℕ → Bool) → PlanData → List ℕ → Type 0
AreCounted test p counts = (i : ℕ) → IsPlace p i → slice_index_or counts i 0 ≡ bounds_count test p i

-- how many links that bound the records of the first sheet are gone or changed, and how many that bound those of the
-- second are new
pub record AreBoundCounts (r : Report) (counts : BoundCounts) : Type 0 where
  pub all_gone : AreCounted (is_lost r) r.first.accepted counts.gone.items
  pub all_new : AreCounted (arrives r) r.second.accepted counts.new.items
  pub all_changed : AreCounted (is_bent r) r.first.accepted counts.changed.items
