-- The links of the four kinds, as the rules of references leave them.
use Rattle.std.specs.Prelude.{◌≡◌, ◌⊎◌, ℕ, false, [], ◌∷◌}
use Rattle.edi_record.specs.declared.record.Kind.{Kind}
use Rattle.edi_record.specs.declared.record.Kind.TheVariants.{Pno, Par, Pfe, Lnk}
use Rattle.edi_schema.specs.Roles.{is_plain}
use Rattle.edi_schema.specs.declared.role.Role.{Role}
use Rattle.edi_schema.specs.declared.role.Role.TheVariants.{Initial, Final, Left, Right, Plain}
use Rattle.edi_plan.specs.Plans.{PlanData, IsPlace, record_at}
use Rattle.edi_plan.specs.Sides.{targets}

-- what a link of a role joins with an arc: a node or a face
abbrev pub beside : Role → Kind
beside Initial = Pno
beside Final = Pno
beside Left = Pfe
beside Right = Pfe
beside Plain = Lnk

-- the link has the two ends, in either order
abbrev pub HasEnds : PlanData → ℕ → ℕ → ℕ → Type 0
HasEnds p link a x = (targets (record_at p link) ≡ a ∷ x ∷ []) ⊎ (targets (record_at p link) ≡ x ∷ a ∷ [])

-- the link joins an arc with what is beside it by its role
pub record JoinsArc (p : PlanData) (link : ℕ) : Type 0 where
  pub arc : ℕ
  pub other : ℕ
  pub ends : HasEnds p link arc other
  pub is_arc : (record_at p arc).kind ≡ Par
  pub is_beside : (record_at p other).kind ≡ beside (record_at p link).role

-- a link at the place, of one of the four kinds
pub record IsJoin (p : PlanData) (link : ℕ) : Type 0 where
  pub there : IsPlace p link
  pub is_link : (record_at p link).kind ≡ Lnk
  pub not_plain : is_plain (record_at p link).role ≡ false

-- a link of one of the four kinds joins an arc with a node or a face, and of one role an arc has one such link at most
pub record IsJoined (p : PlanData) : Type 0 where
  pub joins : (k : ℕ) → IsJoin p k → JoinsArc p k
  pub one_side : (j k a x y : ℕ) → IsJoin p j → IsJoin p k → (record_at p j).role ≡ (record_at p k).role
      → (record_at p a).kind ≡ Par
      → HasEnds p j a x → HasEnds p k a y → j ≡ k
