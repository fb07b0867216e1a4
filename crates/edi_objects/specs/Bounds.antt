-- How many of the links that bound a face or an arc are gone, new or changed.
use Rattle.std.specs.Prelude.{ℕ, ◌&&◌, ◌||◌, Bool, true, false, not, List, [], ◌++◌, Option, Some, None, codes, count_by, decimal}
use Rattle.std.specs.List.{list_any}
use Rattle.edi_record.specs.declared.record.Kind.{Kind}
use Rattle.edi_record.specs.declared.record.Kind.TheVariants.{Pno, Par, Pfe, Fea, Lnk}
use Rattle.edi_schema.specs.declared.role.Role.{Role}
use Rattle.edi_plan.specs.Plans.{PlanData, record_at}
use Rattle.edi_plan.specs.Sides.{targets}
use Rattle.edi_report.specs.Reports.{Report, parts_at}
use Rattle.edi_report.specs.declared.parts.DifferingParts.{DifferingParts}
use Rattle.edi_objects.specs.Differing.{arrives, became_of, bounds_type, is_differing, is_initial_or_final, is_left_or_right}
use Rattle.edi_objects.specs.LinksOf.{entries_of, index_of}

-- a link bounds the record at a place, and the test holds of the link
abbrev pub bounds_and : (ℕ → Bool) → PlanData → ℕ → ℕ → Bool
bounds_and test p place link = bounds_type (record_at p link).role (record_at p place).kind && test link

-- of how many links that bound the record at a place the test holds
abbrev pub bounds_count : (ℕ → Bool) → PlanData → ℕ → ℕ
bounds_count test p place = count_by (λ named. bounds_and test p place named.1) (entries_of (index_of p) place)

-- a link of the first sheet is gone, or got other ends
abbrev pub is_lost_by : Option ℕ → DifferingParts → Bool
is_lost_by None parts = true
is_lost_by (Some j) parts = parts.ends

abbrev pub is_lost : Report → ℕ → Bool
is_lost r link = is_differing r link && is_lost_by (became_of r link) (parts_at r.parts link)

-- a link of this kind bounds by a record of this type: a face by arcs, an arc by nodes
abbrev pub bounds_with : Role → Kind → Bool
bounds_with role Pno = is_initial_or_final role
bounds_with role Par = is_left_or_right role
bounds_with role Pfe = false
bounds_with role Fea = false
bounds_with role Lnk = false

-- a link of the first sheet is not lost, and it differs, or a record by which it bounds
abbrev pub bends : (ℕ → Bool) → PlanData → ℕ → ℕ → Bool
bends test p link k = bounds_with (record_at p link).role (record_at p k).kind && test k

abbrev pub is_bent : Report → ℕ → Bool
is_bent r link = not (is_lost r link) && (is_differing r link
    || list_any (bends (is_differing r) r.first.accepted link) (targets (record_at r.first.accepted link)))

-- how many links that bound what a record became are new
abbrev pub new_bounds_count : Report → Option ℕ → ℕ
new_bounds_count r None = 0
new_bounds_count r (Some j) = bounds_count (arrives r) r.second.accepted j

-- so many gone, so many new, so many changed
abbrev pub bounds_text : ℕ → ℕ → ℕ → List ℕ
bounds_text gone new changed =
    decimal gone ++ codes " gone, " ++ decimal new ++ codes " new, " ++ decimal changed ++ codes " changed"

-- how many arcs of a face, or nodes of an arc, are gone, new and changed
abbrev pub outline_counts_by : Kind → List ℕ → List ℕ
outline_counts_by Pno counts = []
outline_counts_by Par counts = codes ": nodes " ++ counts
outline_counts_by Pfe counts = codes ": arcs " ++ counts
outline_counts_by Fea counts = []
outline_counts_by Lnk counts = []

unfoldable pub outline_counts : Report → ℕ → List ℕ
outline_counts r k = outline_counts_by (record_at r.first.accepted k).kind
    (bounds_text (bounds_count (is_lost r) r.first.accepted k) (new_bounds_count r (became_of r k))
    (bounds_count (is_bent r) r.first.accepted k))
