-- The numbers of nodes, arcs and faces, by place: objects have 0, and they tell these records apart.
use Rattle.std.proofs.Common.{◌≡◌, ◌∙◌, ℕ, true, true≢false, List, [], sym, length, get_or, refl}
use Rattle.edi_record.specs.Orders.{points_cmp}
use Rattle.edi_record.specs.declared.record.Kind.{Kind}
use Rattle.edi_record.specs.declared.record.Kind.TheVariants.{Pno, Par, Pfe, Fea, Lnk}
use Rattle.edi_plan.specs.Places.{places_of, member_of}
use Rattle.edi_plan.specs.Plans.{PlanData, IsPlace, record_at, is_object}
use Rattle.edi_plan.proofs.Orders.{points_total}
use Rattle.edi_topo.specs.NodeKeys.{node_key_cmp, node_keys, no_node, IsNodeRanking}
use Rattle.edi_topo.specs.Arcs.{forward_keys, IsForwardRanking}
use Rattle.edi_topo.proofs.NodeOrders.{node_key_total}
use Rattle.edi_rank.specs.Keys.{face_key_cmp}
use Rattle.edi_rank.specs.Laws.{TellsApart}
use Rattle.edi_rank.specs.Layers.{face_keys, no_side, number_by, ranked}
use Rattle.edi_rank.specs.inner.Layers.{IsFaceRanking}
use Rattle.edi_rank.proofs.Orders.{face_key_total}
use Rattle.edi_rank.proofs.RankedApart.{ranked_apart}
use Rattle.edi_rank.proofs.Rankings.{ranks_each}

-- numbers by place are those of the layers of nodes, arcs and faces
abbrev AreLower : PlanData → List ℕ → List ℕ → List ℕ → List ℕ → Type 0
AreLower p nodes arcs faces numbers = (k : ℕ) → IsPlace p k → get_or numbers k 0 ≡ ranked p nodes arcs faces k

zero_for : (nodes arcs faces : List ℕ) (m : ℕ) (kind : Kind) → is_object kind ≡ true → number_by nodes arcs faces kind m ≡ 0
zero_for nodes arcs faces m Pno f = absurd (true≢false (sym f))
zero_for nodes arcs faces m Par f = absurd (true≢false (sym f))
zero_for nodes arcs faces m Pfe f = absurd (true≢false (sym f))
zero_for nodes arcs faces m Fea f = refl
zero_for nodes arcs faces m Lnk f = absurd (true≢false (sym f))

pub objects_zero : (p : PlanData) (nodes arcs faces numbers : List ℕ) → AreLower p nodes arcs faces numbers
    → (k : ℕ) → IsPlace p k → is_object (record_at p k).kind ≡ true → get_or numbers k 0 ≡ 0
objects_zero p nodes arcs faces numbers lower k h object = lower k h ∙ zero_for nodes arcs faces (member_of p k) (record_at p k).kind object

pub lower_apart : (p : PlanData) (nodes arcs faces numbers : List ℕ) → IsNodeRanking p nodes → IsForwardRanking p arcs → IsFaceRanking p arcs faces
    → AreLower p nodes arcs faces numbers → TellsApart p (λ k. get_or numbers k 0)
lower_apart p nodes arcs faces numbers by_node by_arc by_face lower =
    let ranks = ranked_apart p nodes arcs faces
    (ranks_each node_key_cmp node_key_total (λ m. get_or (node_keys p) m no_node) (length (places_of Pno p)) nodes by_node) by_node.all
    (ranks_each points_cmp points_total (λ m. get_or (forward_keys p) m []) (length (places_of Par p)) arcs by_arc) by_arc.all
    (ranks_each face_key_cmp face_key_total (λ m. get_or (face_keys p arcs) m no_side) (length (places_of Pfe p)) faces by_face) by_face.all in
    record { apart = λ i k h g kinds below e. ranks.apart i k h g kinds below (sym (lower i h) ∙ (e ∙ lower k g)) }
