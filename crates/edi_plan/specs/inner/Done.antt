-- What is known of the records of a sheet up to a place.
use Rattle.std.specs.Prelude.{◌≡◌, ◌⊎◌, ℕ, suc, ◌<◌, false, List, [], ◌∷◌, slice_get, Option, Some, MatchOption, length}
use Rattle.edi_record.specs.LinkEnds.{EndData}
use Rattle.edi_record.specs.declared.record.Kind.TheVariants.{Par}
use Rattle.edi_record.specs.declared.record.Record.{Record}
use Rattle.edi_schema.specs.Classes.{Classes}
use Rattle.edi_schema.specs.Roles.{is_plain}
use Rattle.edi_schema.specs.declared.role.Role.{Role}
use Rattle.edi_plan.specs.Joined.{beside}
use Rattle.edi_plan.specs.ReferenceRules.{BreaksReferenceRule, IsLinkOfRole, Names}
use Rattle.edi_plan.specs.inner.SideTable.{side_at}
use Rattle.edi_schema.specs.declared.by_role.ByRole.{ByRole}

module _ (s : Classes) (list : List Record) where
  -- the two ends of a link name an arc and what is beside it by a role
  pub record JoinsIn (r : Record) (role : Role) (a x : ℕ) : Type 0 where
    pub to_arc : EndData
    pub to_other : EndData
    pub ends : (r.ends ≡ to_arc ∷ to_other ∷ []) ⊎ (r.ends ≡ to_other ∷ to_arc ∷ [])
    pub arc : Names s list to_arc a Par
    pub other : Names s list to_other x (beside role)

  -- a link of one of the four kinds, at a place from 0
  pub record IsLinkAt (k : ℕ) (r : Record) (role : Role) : Type 0 where
    pub here : slice_get list k ≡ Some r
    pub has_role : IsLinkOfRole s list r role
    pub not_plain : is_plain role ≡ false

  -- a link before the place joins the arc with x by the role
  pub record JoinsBefore (place a : ℕ) (role : Role) (x : ℕ) : Type 0 where
    pub at : ℕ
    pub link : Record
    pub before : at < place
    pub is_link : IsLinkAt at link role
    pub joins : JoinsIn link role a x

  -- the table has what the links before the place join
  abbrev pub IsJoinIfAny : ℕ → ℕ → Role → Option ℕ → Type 0
  IsJoinIfAny place a role found =
      MatchOption found ((x : ℕ) → ¬ (JoinsBefore place a role x)) (JoinsBefore place a role)

  -- no record before the place breaks a rule, and the table has what the links before it join
  pub record IsDone (place : ℕ) (table : List (ByRole (Option ℕ))) : Type 0 where
    pub long : length table ≡ length list
    pub unbroken : (k rule : ℕ) → k < place → ¬ (BreaksReferenceRule s list rule (suc k))
    pub joined : (k : ℕ) (r : Record) (role : Role) → k < place → IsLinkAt k r role
        → (a : ℕ) × (x : ℕ) × JoinsIn r role a x
    pub noted : (a : ℕ) (role : Role) → is_plain role ≡ false → IsJoinIfAny place a role (side_at table a role)
