-- The keys of the four layers: what carries one plan onto another preserves them, and no two members of a layer have
-- one.
use Rattle.std.specs.Prelude.{◌≡◌, ℕ, Bool}
use Rattle.edi_line.specs.Refusal.{IsUnbroken}
use Rattle.edi_record.specs.declared.record.Kind.{Kind}
use Rattle.edi_record.specs.declared.record.Kind.TheVariants.{Pno, Par, Pfe, Fea}
use Rattle.edi_schema.specs.Classes.{Classes}
use Rattle.edi_plan.specs.Plans.{PlanData, IsPlace, record_at}
use Rattle.edi_plan.specs.Joined.{IsJoined}
use Rattle.edi_plan.specs.Whole.{IsWholePlan}
use Rattle.edi_topo.specs.Directions.{forward}
use Rattle.edi_topo.specs.NodeKeys.{node_key}
use Rattle.edi_topo.specs.TopologyRules.{BreaksTopologyRule}
use Rattle.edi_rank.specs.EqualObjects.{BreaksObjectRule}
use Rattle.edi_rank.specs.Keys.{least_side, object_key}
use Rattle.edi_rank.specs.Laws.{IsPlanUnder, TellsApart}
use Rattle.edi_rank.specs.Layers.{forward_plan}
use Rattle.edi_rank.specs.Same.{Carries}

-- a rule of topology is broken nowhere
abbrev pub IsNowhereBroken : PlanData → ℕ → Type 0
IsNowhereBroken p rule = (at : ℕ) → ¬ (BreaksTopologyRule p rule at)

-- the key of each record of a type in the one plan is that of its image in the other
abbrev pub IsPreserved : {K : Type 0} → PlanData → Kind → (ℕ → ℕ) → (ℕ → K) → (ℕ → K) → Type 0
IsPreserved p kind to key key_there = (i : ℕ) → IsPlace p i → (record_at p i).kind ≡ kind → key_there (to i) ≡ key i

-- no two records of a type have the same key
abbrev pub TellsTypeApart : {K : Type 0} → PlanData → Kind → (ℕ → K) → Type 0
TellsTypeApart p kind key =
    (i k : ℕ) → IsPlace p i → IsPlace p k → (record_at p i).kind ≡ kind → (record_at p k).kind ≡ kind → key i ≡ key k
    → i ≡ k

-- what carries one plan onto another preserves the keys of its nodes
abbrev pub NodeKeysArePreserved : Type 0
NodeKeysArePreserved =
    (s : Classes) (p q : PlanData) → IsWholePlan p → (to : ℕ → ℕ) (turned : ℕ → Bool) → Carries s to turned p q
    → IsPreserved p Pno to (λ n. node_key (record_at p n)) (λ n. node_key (record_at q n))

-- and the points of its arcs in the forward direction
abbrev pub ArcKeysArePreserved : Type 0
ArcKeysArePreserved = (s : Classes) (p q : PlanData) (to : ℕ → ℕ) (turned : ℕ → Bool) → Carries s to turned p q
    → IsPreserved p Par to (λ a. forward (record_at p a).points) (λ a. forward (record_at q a).points)

-- and the least sides of its faces, where it preserves the numbers of arcs, and no arc equals its reverse
abbrev pub FaceKeysArePreserved : Type 0
FaceKeysArePreserved =
    (s : Classes) (p q : PlanData) → IsPlanUnder s p → IsPlanUnder s q → IsNowhereBroken p 404
    → (to : ℕ → ℕ) (turned : ℕ → Bool) → Carries s to turned p q
    → (number number_there : ℕ → ℕ) → IsPreserved p Par to number number_there
    → IsPreserved p Pfe to (least_side (forward_plan p) number) (least_side (forward_plan q) number_there)

-- and the keys of its objects, where it preserves the numbers of nodes, arcs and faces, and the links of the four kinds
-- are joins
abbrev pub ObjectKeysArePreserved : Type 0
ObjectKeysArePreserved =
    (s : Classes) (p q : PlanData) → IsWholePlan p → IsJoined p → (to : ℕ → ℕ) (turned : ℕ → Bool)
    → Carries s to turned p q
    → (number number_there : ℕ → ℕ) → IsPreserved p Pno to number number_there
    → IsPreserved p Par to number number_there → IsPreserved p Pfe to number number_there
    → IsPreserved p Fea to (object_key p number) (object_key q number_there)

-- two nodes with one key are one, where none repeats an earlier one
abbrev pub NodeKeysTellApart : Type 0
NodeKeysTellApart =
    (p : PlanData) → IsWholePlan p → IsNowhereBroken p 403 → TellsTypeApart p Pno (λ n. node_key (record_at p n))

-- two arcs with the same points in the forward direction are one, where none repeats an earlier one
abbrev pub ArcKeysTellApart : Type 0
ArcKeysTellApart = (p : PlanData) → IsNowhereBroken p 405 → TellsTypeApart p Par (λ a. forward (record_at p a).points)

-- two faces with one least side are one, where the numbers tell arcs apart, the links of the four kinds are joins, and
-- each face is on a side
abbrev pub FaceKeysTellApart : Type 0
FaceKeysTellApart =
    (p : PlanData) → IsWholePlan p → IsJoined p → IsNowhereBroken p 406 → (number : ℕ → ℕ) → TellsTypeApart p Par number
    → TellsTypeApart p Pfe (least_side (forward_plan p) number)

-- two objects with one key are one, where the numbers tell nodes, arcs and faces apart, and no two objects are equal
abbrev pub ObjectKeysTellApart : Type 0
ObjectKeysTellApart =
    (p : PlanData) → IsWholePlan p → IsUnbroken (BreaksObjectRule p) → (number : ℕ → ℕ) → TellsApart p number
    → TellsTypeApart p Fea (object_key p number)
