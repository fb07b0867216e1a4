-- Which records differ between two sheets.
use Rattle.std.specs.Prelude.{◌&&◌, ◌||◌, ℕ, Bool, true, false, not, Option, Some, None, length, nat_lt, slice_index_or, if◌then◌else◌}
use Rattle.std.specs.List.{list_any, range_with_len}
use Rattle.edi_record.specs.declared.record.Kind.{Kind}
use Rattle.edi_record.specs.declared.record.Kind.TheVariants.{Pno, Par, Pfe, Fea, Lnk}
use Rattle.edi_schema.specs.declared.role.Role.{Role}
use Rattle.edi_schema.specs.declared.role.Role.TheVariants.{Initial, Final, Left, Right, Plain}
use Rattle.edi_plan.specs.Plans.{PlanData, record_at}
use Rattle.edi_plan.specs.Sides.{targets}
use Rattle.edi_report.specs.Lines.{is_reached, some_differ, went_to}
use Rattle.edi_report.specs.Reports.{Report, parts_at}
use Rattle.edi_report.specs.declared.parts.DifferingParts.{DifferingParts}
use Rattle.edi_objects.specs.LinksOf.{links_of}

-- which record of the second sheet the one of the first at a place is, if any; and which one it is or became
abbrev pub same_of : Report → ℕ → Option ℕ
same_of r i = slice_index_or r.unchanged i None

abbrev pub became_of : Report → ℕ → Option ℕ
became_of r i = slice_index_or r.became i None

-- a record that isn't one of the second sheet differs if it is gone, or if a part of its own differs
abbrev pub differs_by : Option ℕ → Option ℕ → DifferingParts → Bool
differs_by (Some k) became parts = false
differs_by None None parts = true
differs_by None (Some j) parts = some_differ parts

-- the record of the first sheet at this place differs
abbrev pub is_differing : Report → ℕ → Bool
is_differing r i =
    nat_lt i (length r.first.accepted.list) && differs_by (same_of r i) (became_of r i) (parts_at r.parts i)

-- the record of the second sheet that one of the first became, if it had other ends
abbrev pub moved_by : Option ℕ → Option ℕ → DifferingParts → Option ℕ
moved_by (Some k) became parts = None
moved_by None became parts = if parts.ends then became else None

abbrev pub moved_to : Report → ℕ → Option ℕ
moved_to r i = moved_by (same_of r i) (became_of r i) (parts_at r.parts i)

-- the record of the second sheet at this place is new, or one became it that had other ends
abbrev pub arrives : Report → ℕ → Bool
arrives r j =
    nat_lt j (length r.second.accepted.list)
    && (not (is_reached r.became j) || list_any (λ i. went_to j (moved_to r i)) (range_with_len 0 (length r.became)))

-- a link of this kind bounds a record of this type: a face by arcs, an arc by nodes
abbrev pub is_left_or_right : Role → Bool
is_left_or_right Initial = false
is_left_or_right Final = false
is_left_or_right Left = true
is_left_or_right Right = true
is_left_or_right Plain = false

abbrev pub is_initial_or_final : Role → Bool
is_initial_or_final Initial = true
is_initial_or_final Final = true
is_initial_or_final Left = false
is_initial_or_final Right = false
is_initial_or_final Plain = false

abbrev pub bounds_type : Role → Kind → Bool
bounds_type role Pno = false
bounds_type role Par = is_initial_or_final role
bounds_type role Pfe = is_left_or_right role
bounds_type role Fea = false
bounds_type role Lnk = false

-- a link bounds the record at a place, and the test holds of the link or of a record that it names
abbrev pub bounds_anew : (ℕ → Bool) → PlanData → ℕ → ℕ → Bool
bounds_anew test p place link =
    bounds_type (record_at p link).role (record_at p place).kind
    && (test link || list_any test (targets (record_at p link)))

-- the outline of the record at a place differs: the record itself, a link that bounds it, or what such a link names
abbrev pub outline_differs : (ℕ → Bool) → PlanData → ℕ → Bool
outline_differs test p place = test place || list_any (bounds_anew test p place) (links_of p place)
