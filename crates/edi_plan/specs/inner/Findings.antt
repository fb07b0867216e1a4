-- What is found out of each record before its rules are asked for.
use Rattle.std.specs.Prelude.{◌≡◌, ◌↔◌, ℕ, suc, ◌<◌, Bool, false, IsTrue, nat_eq, List, length, Option, Some, None, is_some, if◌then◌else◌, slice_get, Any}
use Rattle.edi_record.specs.declared.record.Record.{Record}
use Rattle.edi_record.specs.declared.record.Kind.TheVariants.{Par}
use Rattle.edi_schema.specs.Classes.{Classes}
use Rattle.edi_schema.specs.Roles.{is_plain}
use Rattle.edi_schema.specs.declared.role.Role.{Role}
use Rattle.edi_schema.specs.declared.by_role.ByRole.{ByRole}
use Rattle.edi_plan.specs.Plans.{same_kind}
use Rattle.edi_plan.specs.ReferenceRules.{IsLinkOfRole, JoinsWrong, Names, NamesNothing, RepeatsRecordName, RepeatsSide}
use Rattle.edi_plan.specs.inner.SideTable.{side_at}
use Rattle.edi_plan.specs.declared.targets.Target.{Target}
use Rattle.edi_plan.specs.declared.link_findings.LinkFindings.{LinkFindings}

-- this holds of each element and its place
abbrev pub EachAt : {X : Type 0} → (ℕ → X → Type 0) → List X → Type 0
EachAt {X} P xs = (k : ℕ) (x : X) → slice_get xs k ≡ Some x → P k x

-- for each record, whether it has the name of an earlier one
pub record AreRepeats (s : Classes) (list : List Record) (found : List Bool) : Type 0 where
  pub long : length found ≡ length list
  pub each : EachAt (λ k b. IsTrue b ↔ RepeatsRecordName s list (suc k)) found

-- whether the record at a place breaks the rules 305 to 307
pub record IsLinkFinding (s : Classes) (list : List Record) (k : ℕ) (f : LinkFindings) : Type 0 where
  pub nothing : IsTrue f.names_nothing ↔ NamesNothing s list (suc k)
  pub wrong : IsTrue f.joins_wrong ↔ JoinsWrong s list (suc k)
  pub repeats : IsTrue f.repeats_side ↔ RepeatsSide s list (suc k)

-- the same for each record
pub record AreLinkFindings (s : Classes) (list : List Record) (found : List LinkFindings) : Type 0 where
  pub long : length found ≡ length list
  pub each : EachAt (IsLinkFinding s list) found

-- the place of an arc
abbrev pub arc_place : Option Target → Option ℕ
arc_place None = None
arc_place (Some t) = if same_kind t.kind Par then Some t.place else None

-- whether this is the arc at a place
abbrev pub is_arc_at : ℕ → Option Target → Bool
is_arc_at a None = false
is_arc_at a (Some t) = if same_kind t.kind Par then nat_eq a t.place else false

-- whether this is an arc that has something by a role
abbrev pub is_sided : List (ByRole (Option ℕ)) → Role → Option Target → Bool
is_sided table role None = false
is_sided table role (Some t) = if same_kind t.kind Par then is_some (side_at table t.place role) else false

-- a link of a role before the place names the arc
abbrev pub NamesArcBefore : Classes → List Record → ℕ → ℕ → Role → Type 0
NamesArcBefore s list n a role =
    (m : ℕ) × (q : Record) × (m < n) × (slice_get list m ≡ Some q) × IsLinkOfRole s list q role
    × Any (λ e. Names s list e a Par) q.ends

-- the table has something for an arc and a role exactly if a link of that role before the place names the arc
pub record AreSided (s : Classes) (list : List Record) (n : ℕ) (table : List (ByRole (Option ℕ))) : Type 0 where
  pub long : length table ≡ length list
  pub each : (a : ℕ) (o : Role) → is_plain o ≡ false → IsTrue (is_some (side_at table a o)) ↔ NamesArcBefore s list n a o
