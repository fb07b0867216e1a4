-- When the records of a plan stand in order.
use Rattle.std.specs.Prelude.{◌≡◌, ℕ, suc, ◌<◌, ◌≤◌, true, false, map}
use Rattle.std.specs.Ordering.{is_gt}
use Rattle.std.specs.Option.{option_cmp}
use Rattle.std.specs.declared.cmp.Ordering.TheVariants.{Less}
use Rattle.edi_record.specs.Orders.{points_cmp}
use Rattle.edi_record.specs.declared.record.Kind.{Kind}
use Rattle.edi_record.specs.declared.record.Kind.TheVariants.{Pno, Par, Pfe, Fea, Lnk}
use Rattle.edi_schema.specs.Sorted.{NeverFalls}
use Rattle.edi_plan.specs.Plans.{PlanData, IsPlace, record_at, others_of, kind_rank}
use Rattle.edi_plan.specs.Orders.{attribute_cmp}
use Rattle.edi_topo.specs.NodeKeys.{node_key, node_key_cmp}
use Rattle.edi_rank.specs.Keys.{end_cmp, link_key_cmp, object_key_cmp, face_key_cmp, numbered, link_key, least_side, object_key}
use Rattle.edi_rank.specs.Turned.{is_forward}

-- the records at i and k are of this type, the first with the lesser number
pub record Both (p : PlanData) (number : ℕ → ℕ) (kind : Kind) (i k : ℕ) : Type 0 where
  pub first : IsPlace p i
  pub second : IsPlace p k
  pub first_kind : (record_at p i).kind ≡ kind
  pub second_kind : (record_at p k).kind ≡ kind
  pub lesser : number i < number k

-- With these numbers the nodes, arcs, faces and objects rise by their keys, and the links never fall.
pub record AllRise (p : PlanData) (number : ℕ → ℕ) : Type 0 where
  pub nodes : (i k : ℕ) → Both p number Pno i k
      → node_key_cmp (node_key (record_at p i)) (node_key (record_at p k)) ≡ Less
  pub arcs : (i k : ℕ) → Both p number Par i k → points_cmp (record_at p i).points (record_at p k).points ≡ Less
  pub faces : (i k : ℕ) → Both p number Pfe i k
      → option_cmp face_key_cmp (least_side p number i) (least_side p number k) ≡ Less
  pub objects : (i k : ℕ) → Both p number Fea i k
      → object_key_cmp (object_key p number i) (object_key p number k) ≡ Less
  pub links : (i k : ℕ) → Both p number Lnk i k
      → is_gt (link_key_cmp (link_key p number (record_at p i)) (link_key p number (record_at p k))) ≡ false

-- The order of a canonical sheet. Within a type a record's number rises with its place, so the place stands for it.
pub record IsInOrder (p : PlanData) : Type 0 where
  pub by_type : (i k : ℕ) → i < k → IsPlace p k → kind_rank (record_at p i).kind ≤ kind_rank (record_at p k).kind
  pub rise : AllRise p suc
  pub forward : (i : ℕ) → IsPlace p i → (record_at p i).kind ≡ Par → is_forward (record_at p i).points ≡ true
  pub attributes : (i : ℕ) → IsPlace p i → NeverFalls attribute_cmp (record_at p i).attributes
  pub others : (i : ℕ) → IsPlace p i → NeverFalls end_cmp (map (numbered p suc) (others_of (record_at p i)))
