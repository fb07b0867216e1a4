-- What a record is in a plan, and what keeps it from one.
use Rattle.std.specs.Prelude.{◌≡◌, ◌≢◌, ◌⊎◌, ℕ, Bool, false, not, ◌||◌, List, [], ◌∷◌, flat_map, Option, None, Some, is_none, option_map, unwrap_or, codes, ⊤, if◌then◌else◌}
use Rattle.std.specs.Str.{bytes_eq}
use Rattle.std.specs.List.{AllZip, list_any}
use Rattle.edi_line.specs.Refusal.{Test, test}
use Rattle.edi_record.specs.declared.record.Attribute.{Attribute}
use Rattle.edi_record.specs.LinkEnds.{EndData}
use Rattle.edi_record.specs.declared.record.Record.{Record}
use Rattle.edi_schema.specs.Classes.{Classes, place_of, role_named}
use Rattle.edi_schema.specs.declared.role.Role.{Role}
use Rattle.edi_schema.specs.declared.role.Role.TheVariants.{Plain}
use Rattle.edi_plan.specs.inner.Names.{IsFirstRepeatedNameIfAny}
use Rattle.edi_plan.specs.PlanOf.{StatesPlanAttribute}
use Rattle.edi_record.specs.Records.{is_link}
use Rattle.edi_plan.specs.Plans.{first_of}
use Rattle.edi_plan.specs.inner.SideTable.{link_tests}
use Rattle.edi_plan.specs.inner.Targets.{AreTargets}
use Rattle.edi_plan.specs.declared.fault.Unresolved.{Unresolved}
use Rattle.edi_plan.specs.declared.fault.Unresolved.TheVariants.{Memory, Broken}
use Rattle.edi_plan.specs.declared.record.PlanAttribute.{PlanAttribute}
use Rattle.edi_plan.specs.declared.record.PlanEnd.{PlanEnd}
use Rattle.edi_plan.specs.declared.planned.PlannedRecord.{PlannedRecord}
use Rattle.edi_plan.specs.declared.references.References.{References}
use Rattle.edi_plan.specs.declared.references.Subset.{Subset}
use Rattle.edi_schema.specs.declared.by_role.ByRole.{ByRole}
use Rattle.edi_plan.specs.declared.targets.Target.{Target}

-- a fault other than lack of memory names such a rule
abbrev pub IsUnresolved : (ℕ → Type 0) → Unresolved → Type 0
IsUnresolved breaks (Memory e) = ⊤
IsUnresolved breaks (Broken rule) = breaks rule

-- the class of an attribute isn't of type ATT, or is none of the schema's
abbrev pub HasNoAttributeClass : Classes → Attribute → Type 0
HasNoAttributeClass s a = (a.atp.rty ≢ codes "ATT") ⊎ (place_of s a.atp ≡ None)

abbrev pub lacks_class : Classes → Attribute → Bool
lacks_class s a = not (bytes_eq a.atp.rty (codes "ATT")) || is_none (place_of s a.atp)

-- an attribute of a class of type ATT, as the plan has it
pub record Resolves (s : Classes) (a : Attribute) (p : PlanAttribute) : Type 0 where
  pub type : a.atp.rty ≡ codes "ATT"
  pub states : StatesPlanAttribute s a p

-- an end of another lot or subset
unfoldable pub is_elsewhere : Subset → EndData → Bool
is_elsewhere x e = not (bytes_eq e.lot x.lot) || not (bytes_eq e.subset x.subset)

abbrev pub leaves : Option Subset → List EndData → Bool
leaves None ends = false
leaves (Some x) ends = list_any (is_elsewhere x) ends

-- the lot and the subset of the first end of all records
abbrev pub first_subset : List Record → Option Subset
first_subset list = option_map (λ e. record { lot = e.lot; subset = e.subset }) (first_of (flat_map (λ r. r.ends) list))

-- an end with its target, as the plan has it
abbrev pub GivesEnd : Option Target → EndData → PlanEnd → Type 0
GivesEnd None e p = ⊥
GivesEnd (Some t) e p = (p.target ≡ t.place) × (p.sns ≡ e.sns)

abbrev pub AreGiven : List (Option Target) → List EndData → List PlanEnd → Type 0
AreGiven [] [] [] = ⊤
AreGiven [] [] (p ∷ ps) = ⊥
AreGiven [] (e ∷ es) ps = ⊥
AreGiven (t ∷ ts) [] ps = ⊥
AreGiven (t ∷ ts) (e ∷ es) [] = ⊥
AreGiven (t ∷ ts) (e ∷ es) (p ∷ ps) = GivesEnd t e p × AreGiven ts es ps

-- the role of a link, and none of the four for what is no link
abbrev pub role_of_link : Classes → Record → Role
role_of_link s r = if is_link r.kind then unwrap_or (role_named s r.scp) Plain else Plain

-- 302 to 307, for a record whose ends have these targets, over the table of the links before it
abbrev pub reference_tests : Classes → Option Subset → List (Option Target) → List (ByRole (Option ℕ)) → Record
    → List Test
reference_tests s subset targets table r =
    test 302 (is_none (place_of s r.scp))
    ∷ test 303 (list_any (lacks_class s) r.attributes)
    ∷ test 304 (leaves subset r.ends)
    ∷ test 305 (list_any is_none targets)
    ∷ link_tests table (role_of_link s r) targets

-- a record as the plan has it, but for its points and its extra zones
pub record IsPlanned (s : Classes) (targets : List (Option Target)) (r : Record) (p : PlannedRecord) : Type 0 where
  pub kind : p.head.kind ≡ r.kind
  pub class : place_of s r.scp ≡ Some p.head.class
  pub role : role_named s r.scp ≡ Some p.head.role
  pub attributes : AllZip (StatesPlanAttribute s) r.attributes p.attributes.items
  pub ends : AreGiven targets r.ends p.ends.items

-- the first repeat of a name, the targets of all ends, and the lot and the subset of the first
pub record AreReferences (list : List Record) (r : References) : Type 0 where
  pub repeat : IsFirstRepeatedNameIfAny list r.repeat
  pub targets : AreTargets list list r.targets.items
  pub subset : r.subset ≡ first_subset list
