-- Links of a plan, as they are looked for by a side of an arc.
use Rattle.std.specs.Prelude.{◌≡◌, ℕ, Bool, true, List, slice_get, Option, Some}
use Rattle.std.specs.List.{list_any}
use Rattle.edi_record.specs.declared.record.Kind.TheVariants.{Lnk}
use Rattle.edi_schema.specs.declared.role.Role.{Role}
use Rattle.edi_plan.specs.inner.Findings.{is_arc_at}
use Rattle.edi_plan.specs.declared.record.PlanEnd.{PlanEnd}
use Rattle.edi_plan.specs.declared.record.PlanRecord.{PlanRecord}
use Rattle.edi_plan.specs.declared.targets.Target.{Target}

-- whether one of these ends leads to an arc that is this target
abbrev pub ends_at_place : List PlanEnd → Option Target → Bool
ends_at_place ends target = list_any (λ e. is_arc_at e.target target) ends

-- a link of a role, of which an end leads to an arc among these targets
abbrev pub IsOfSide : Role → List (Option Target) → PlanRecord → Type 0
IsOfSide role own p = (p.kind ≡ Lnk) × (p.role ≡ role) × (list_any (ends_at_place p.ends) own ≡ true)

-- the record at a place is such a link
abbrev pub IsOfSideAt : List PlanRecord → Role → List (Option Target) → ℕ → Type 0
IsOfSideAt list role own place = (p : PlanRecord) × (slice_get list place ≡ Some p) × IsOfSide role own p
