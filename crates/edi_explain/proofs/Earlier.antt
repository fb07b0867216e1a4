-- The earlier records that rules speak of.
use Rattle.std.proofs.Common.{◌≡◌, ◌≢◌, ◌-◌, ◌<◌, ℕ, List, Option, None, refl, arith}
use Rattle.edi_record.specs.declared.fault.RecordFault.TheVariants.{Broken}
use Rattle.edi_record.specs.Records.{SheetData}
use Rattle.edi_plan.specs.Plans.{PlanData}
use Rattle.edi_schema.specs.Classes.{Classes}
use Rattle.edi_topo.specs.EarlierRecords.{IsEarlierByRule}
use Rattle.edi_topo.specs.TopologyRules.{BreaksTopologyRule}
use Rattle.edi_topo.specs.TopologyRules.BreaksTopologyRule.{starts_elsewhere, ends_elsewhere, repeats_node, equals_reverse, repeats_arc, bounds_nothing}
use Rattle.edi_rank.specs.EqualObjects.{BreaksObjectRule, IsEqualObject}
use Rattle.edi_rank.specs.EqualObjects.BreaksObjectRule.{repeats_object}
use Rattle.edi_compare.specs.PlanOfFile.{IsPlanOfFile, IsSheetOf}
use Rattle.edi_plan.specs.EarlierLinks.{IsEarlierLinkIfAny, IsLeastIfAny}
use Rattle.edi_explain.specs.EndNodes.{IsEndNodeIfAny}
use Rattle.edi_explain.specs.Refusals.{IsEarlierIfAny}

topology_between : (p : PlanData) (rule at : ℕ) → BreaksTopologyRule p rule at → (400 < rule) × (rule < 407)
topology_between p rule at (starts_elsewhere e h) = (omega (arith, e), omega (arith, e))
topology_between p rule at (ends_elsewhere e h) = (omega (arith, e), omega (arith, e))
topology_between p rule at (repeats_node e h) = (omega (arith, e), omega (arith, e))
topology_between p rule at (equals_reverse e h) = (omega (arith, e), omega (arith, e))
topology_between p rule at (repeats_arc e h) = (omega (arith, e), omega (arith, e))
topology_between p rule at (bounds_nothing e h) = (omega (arith, e), omega (arith, e))

module _ (s : Classes) (b : List ℕ) (p : PlanData) (states : IsPlanOfFile s b p) (rule place : ℕ) where
  -- 403 and 405 speak of an earlier record, the other rules of topology of none
  pub topology_earlier : (at : ℕ) (earlier : Option ℕ) → BreaksTopologyRule p rule at → IsEarlierByRule p rule place earlier → IsEarlierIfAny s b rule place earlier
  topology_earlier at earlier h found =
      let within = topology_between p rule at h in record {
        names = λ e. absurd (omega (arith, e, within.0));
        subsets = λ e. absurd (omega (arith, e, within.0));
        sides = λ e. absurd (omega (arith, e, within.0));
        nodes = λ e. (p, states, found.nodes e);
        arcs = λ e. (p, states, found.arcs e);
        objects = λ e. absurd (omega (arith, e, within.1));
        others = λ a d f g h i. found.others g h;
      }

  pub object_earlier : (earlier : Option ℕ) → rule ≡ 501 → IsLeastIfAny (IsEqualObject p place) earlier → IsEarlierIfAny s b rule place earlier
  object_earlier earlier is found = record {
    names = λ e. absurd (omega (arith, e, is));
    subsets = λ e. absurd (omega (arith, e, is));
    sides = λ e. absurd (omega (arith, e, is));
    nodes = λ e. absurd (omega (arith, e, is));
    arcs = λ e. absurd (omega (arith, e, is));
    objects = λ e. (p, states, found);
    others = λ a d f g h i. absurd (i is);
  }

pub object_rule : (p : PlanData) (rule at : ℕ) → BreaksObjectRule p rule at → rule ≡ 501
object_rule p rule at (repeats_object e there less h) = e

-- a rule that isn't of the ends of arcs speaks of no node
pub no_end_node : (s : Classes) (b : List ℕ) (rule place : ℕ) → rule ≢ 401 → rule ≢ 402 → IsEndNodeIfAny s b rule place None
no_end_node s b rule place initial final = record {
  initial = λ e. absurd (initial e);
  final = λ e. absurd (final e);
  others = λ a d. refl;
}

-- the earlier link by 307, or none by another rule of references that is found so
pub link_earlier : (s : Classes) (b : List ℕ) (sheet : SheetData) → IsSheetOf b sheet → (rule at : ℕ) (earlier : Option ℕ) → rule < 400 → rule ≢ 301 → rule ≢ 304
    → IsEarlierLinkIfAny s sheet.list (Broken rule at) earlier → IsEarlierIfAny s b rule (at - 1) earlier
link_earlier s b sheet states rule at earlier below name subset found = record {
  names = λ e. absurd (name e);
  subsets = λ e. absurd (subset e);
  sides = λ e. (sheet, states, found.0 e);
  nodes = λ e. absurd (omega (arith, e, below));
  arcs = λ e. absurd (omega (arith, e, below));
  objects = λ e. absurd (omega (arith, e, below));
  others = λ a d f g h i. found.1 f;
}

-- a rule of records speaks of no earlier record
pub nothing_earlier : (s : Classes) (b : List ℕ) (rule place : ℕ) → rule < 300 → IsEarlierIfAny s b rule place None
nothing_earlier s b rule place below = record {
  names = λ e. absurd (omega (arith, e, below));
  subsets = λ e. absurd (omega (arith, e, below));
  sides = λ e. absurd (omega (arith, e, below));
  nodes = λ e. absurd (omega (arith, e, below));
  arcs = λ e. absurd (omega (arith, e, below));
  objects = λ e. absurd (omega (arith, e, below));
  others = λ a d f g h i. refl;
}
