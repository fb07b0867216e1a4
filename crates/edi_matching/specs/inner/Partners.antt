-- Where the partner of a node or an arc is looked for.
use Rattle.std.specs.Prelude.{◌≡◌, ◌≢◌, ℕ, ◌<◌, All, Bool, false, true, List, Option, None, Some, MatchOption, [], length, slice_index_or}
use Rattle.std.specs.declared.cmp.Ordering.{Ordering}
use Rattle.std.specs.declared.cmp.Ordering.TheVariants.{Equal}
use Rattle.edi_record.specs.declared.record.Kind.{Kind}
use Rattle.edi_record.specs.declared.record.Kind.TheVariants.{Par, Pno}
use Rattle.edi_record.specs.declared.record.Point.{Point}
use Rattle.edi_line.specs.Refusal.{IsUnbroken}
use Rattle.edi_plan.specs.Places.{places_of}
use Rattle.edi_plan.specs.Plans.{PlanData, IsPlace}
use Rattle.edi_plan.specs.declared.record.PlanRecord.{PlanRecord}
use Rattle.edi_rank.specs.Same.{directed}
use Rattle.edi_topo.specs.Arcs.{forward_keys}
use Rattle.edi_topo.specs.NodeKeys.{no_node, node_keys}
use Rattle.edi_topo.specs.TopologyRules.{BreaksTopologyRule}
use Rattle.edi_topo.specs.Ranking.{keyed}
use Rattle.edi_topo.specs.declared.node_key.NodeKey.{NodeKey}
use Rattle.edi_matching.specs.Differences.{HoldsSame, ArePartners}

-- two plans that break no rule of topology
pub record TwoPlans : Type 0 where
  pub plan : PlanData
  pub other : PlanData

abbrev pub AreSound : TwoPlans → Type 0
AreSound two = IsUnbroken (BreaksTopologyRule two.plan) × IsUnbroken (BreaksTopologyRule two.other)

-- the record at the place i has a partner at this place at most
abbrev pub IsOnlyAt : TwoPlans → ℕ → Option ℕ → Type 0
IsOnlyAt two i found =
    MatchOption found ((j : ℕ) (turned : Bool) → ¬ (ArePartners two.plan two.other i j turned))
    (λ k. IsPlace two.other k × ((j : ℕ) (turned : Bool) → ArePartners two.plan two.other i j turned → j ≡ k))

-- the direction in which the points of a record of this type are those of another, if there is one
abbrev pub IsDirectionIfAny : Kind → List Point → List Point → Option Bool → Type 0
IsDirectionIfAny kind points others found =
    MatchOption found ((turned : Bool) → (turned ≡ true → kind ≡ Par) → others ≢ directed turned points)
    (λ turned. (others ≡ directed turned points) × (turned ≡ true → kind ≡ Par))

-- the direction in which the one record holds what the other does, if there is one
abbrev pub IsSameIfAny : PlanRecord → PlanRecord → Option Bool → Type 0
IsSameIfAny a b found = MatchOption found ((turned : Bool) → ¬ (HoldsSame a b turned)) (HoldsSame a b)

-- where the partner of the record at the place i is, and in which direction; or it has none
abbrev pub IsPartnerIfAny : TwoPlans → ℕ → Option (ℕ × Bool) → Type 0
IsPartnerIfAny two i found =
    MatchOption found ((j : ℕ) (turned : Bool) → ¬ (ArePartners two.plan two.other i j turned))
    (λ went. ArePartners two.plan two.other i went.0 went.1)

-- a record goes to its partner, in that direction; or it has none and goes nowhere
abbrev pub GoesToPartner : TwoPlans → ℕ → Option ℕ → Bool → Type 0
GoesToPartner two i None turned = (turned ≡ false) × ((j : ℕ) (t : Bool) → ¬ (ArePartners two.plan two.other i j t))
GoesToPartner two i (Some j) turned = ArePartners two.plan two.other i j turned

-- an entry of the list has this key, and this member
abbrev pub IsMemberWith : {K : Type 0} → (K → K → Ordering) → List (K × ℕ) → K → ℕ → Type 0
IsMemberWith {K} cmp pairs key member = (k : ℕ) × (k < length pairs)
    × ((d : K × ℕ) → (cmp (slice_index_or pairs k d).0 key ≡ Equal) × ((slice_index_or pairs k d).1 ≡ member))

-- such a member, or no entry has the key
abbrev pub IsMemberIfAny : {K : Type 0} → (K → K → Ordering) → List (K × ℕ) → K → Option ℕ → Type 0
IsMemberIfAny cmp pairs key found =
    MatchOption found (All (λ pair. cmp pair.0 key ≢ Equal) pairs) (IsMemberWith cmp pairs key)

-- the nodes of a plan, each with its key, and the arcs by their points in their forward direction; in file order
abbrev pub keyed_nodes : PlanData → List (NodeKey × ℕ)
keyed_nodes p = keyed (λ m. slice_index_or (node_keys p) m no_node) (length (places_of Pno p))

abbrev pub keyed_arcs : PlanData → List (List Point × ℕ)
keyed_arcs p = keyed (λ m. slice_index_or (forward_keys p) m []) (length (places_of Par p))
