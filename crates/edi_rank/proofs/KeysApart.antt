-- No two nodes, no two arcs and no two objects have one key, where none repeats an earlier one.
use Rattle.std.proofs.Common.{◌≡◌, ℕ, suc, ◌<◌, ◌⊎◌, inl, inr, refl, sym, subst, Equal}
use Rattle.std.proofs.lemmas.Bool.{cases_order}
use Rattle.std.proofs.lemmas.Cmp.{tied_itself}
use Rattle.edi_line.specs.Refusal.{IsUnbroken}
use Rattle.edi_record.specs.declared.record.Kind.{Kind}
use Rattle.edi_record.specs.declared.record.Kind.TheVariants.{Pno, Par, Fea}
use Rattle.edi_plan.specs.Plans.{PlanData, IsPlace, record_at}
use Rattle.edi_plan.specs.Whole.{IsWholePlan}
use Rattle.edi_topo.specs.Directions.{forward}
use Rattle.edi_topo.specs.NodeKeys.{node_key, node_key_cmp}
use Rattle.edi_topo.specs.TopologyRules.BreaksTopologyRule.{repeats_node, repeats_arc}
use Rattle.edi_topo.proofs.FirstArcRepeat.{in_one_direction}
use Rattle.edi_topo.proofs.NodeOrders.{node_key_total, equal_from_keys}
use Rattle.edi_rank.specs.EqualObjects.{BreaksObjectRule}
use Rattle.edi_rank.specs.EqualObjects.BreaksObjectRule.{repeats_object}
use Rattle.edi_rank.specs.KeyLaws.{IsNowhereBroken, TellsTypeApart}
use Rattle.edi_rank.specs.Keys.{object_key}
use Rattle.edi_rank.specs.Laws.{TellsApart}
use Rattle.edi_rank.proofs.ObjectKeys.{one_key_equal}

-- what no record shares with an earlier one of its type tells them apart
from_earlier : {K : Type 0} (p : PlanData) (kind : Kind) (key : ℕ → K)
    → ((m n : ℕ) → m < n → IsPlace p m → IsPlace p n → (record_at p m).kind ≡ kind → (record_at p n).kind ≡ kind → key m ≡ key n → ⊥) → TellsTypeApart p kind key
from_earlier p kind key none m n h g is other e = go (cases_order m n)
  where
    go : (m ≡ n) ⊎ ((m < n) ⊎ (n < m)) → m ≡ n
    go (inl same) = same
    go (inr (inl less)) = absurd (none m n less h g is other e)
    go (inr (inr more)) = absurd (none n m more g h other is (sym e))

pub one_node : (p : PlanData) → IsWholePlan p → IsNowhereBroken p 403 → TellsTypeApart p Pno (λ n. node_key (record_at p n))
one_node p whole none = from_earlier p Pno (λ n. node_key (record_at p n)) (λ m n less h g is other e. none (suc n) (repeats_node refl (
  m,
  n,
  refl,
  less,
  equal_from_keys p m n whole h g is other (subst (λ k. node_key_cmp (node_key (record_at p m)) k ≡ Equal) e (tied_itself node_key_total (node_key (record_at p m)))),
)))

pub one_arc : (p : PlanData) → IsNowhereBroken p 405 → TellsTypeApart p Par (λ a. forward (record_at p a).points)
one_arc p none = from_earlier p Par (λ a. forward (record_at p a).points) (λ m n less h g is other e. none (suc n) (repeats_arc refl
    (m, n, (record_at p m).points, (record_at p n).points, refl, less, (h, is, refl), (g, other, refl), in_one_direction (record_at p m).points (record_at p n).points e)))

pub one_object : (p : PlanData) → IsWholePlan p → IsUnbroken (BreaksObjectRule p) → (number : ℕ → ℕ) → TellsApart p number → TellsTypeApart p Fea (object_key p number)
one_object p whole none number apart = from_earlier p Fea (object_key p number) (λ m n less h g is other e. none 501 (suc n) (repeats_object {m = m} {n = n} refl refl less
    (one_key_equal p number whole apart m n h g is other e)))
