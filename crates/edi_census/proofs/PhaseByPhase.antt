-- All that a phase breaks is all that a sheet breaks, where the phases before it hold and it doesn't.
use Rattle.std.proofs.Common.{◌≡◌, ◌∙◌, ◌<◌, ℕ, Bool, false, true≢false, sym, IsTrue, List, [], ◌∷◌, length, refl, subst, arith, Any}
use Rattle.edi_line.specs.ZoneData.{ZoneData}
use Rattle.edi_line.specs.LineRules.{BreaksLineRule, IsZonesOf}
use Rattle.edi_line.specs.Refusal.{IsUnbroken}
use Rattle.edi_line.proofs.ZonesSaid.{zones_of_one}
use Rattle.edi_record.specs.RecordRules.{BreaksRecordRule}
use Rattle.edi_record.specs.Records.{SheetData}
use Rattle.edi_schema.specs.Classes.{Classes}
use Rattle.edi_plan.specs.Plans.{PlanData}
use Rattle.edi_plan.specs.ReferenceRules.{BreaksReferenceRule}
use Rattle.edi_topo.specs.TopologyRules.{BreaksTopologyRule}
use Rattle.edi_rank.specs.EqualObjects.{BreaksObjectRule}
use Rattle.edi_compare.specs.PlanOfFile.{IsSheetOf, IsPlanOfFile}
use Rattle.edi_compare.specs.Rules.{LinesHold, RecordsHold, ReferencesHold, TopologyHolds, Breaks}
use Rattle.edi_compare.specs.Rules.Breaks.{of_lines, of_records, of_references, of_topology, of_objects}
use Rattle.edi_compare.proofs.Phases.{one_plan}
use Rattle.edi_compare.proofs.Reading.{reading_is_one}
use Rattle.edi_line.specs.AllBroken.{AreAllBroken}
use Rattle.edi_line.specs.declared.broken.BrokenRule.{BrokenRule}
use Rattle.edi_census.proofs.NotedRules.{reworded}

-- where nothing is listed nothing is broken
pub none_broken : (B : ℕ → ℕ → Type 0) (list : List BrokenRule) → AreAllBroken B list → list ≡ [] → IsUnbroken B
none_broken B list h none r p b = go (h.all r p b)
  where
    go : Any (λ it. (it.rule ≡ r) × (it.at ≡ p)) list → ⊥
    go (k, _, lt, _, _) = omega (arith, subst (λ (l : List BrokenRule). k < length l) none lt)

module _ (s : Classes) (b : List ℕ) where
  one_list : (sheet other : SheetData) → IsSheetOf b sheet → IsSheetOf b other → sheet.list ≡ other.list
  one_list sheet other h g = (reading_is_one.sheets b sheet other h g).1

  module _ (rule at : ℕ) where
    only_lines : BreaksLineRule b rule at → (r p : ℕ) → Breaks s b r p → BreaksLineRule b r p
    only_lines is r p (of_lines g) = g
    only_lines is r p (of_records zones held z g) = absurd (held rule at is)
    only_lines is r p (of_references sheet held z g) = absurd (held.0 rule at is)
    only_lines is r p (of_topology plan held z g) = absurd (held.0.0 rule at is)
    only_lines is r p (of_objects plan held z g) = absurd (held.0.0.0 rule at is)

    only_records : LinesHold s b → (zones : List ZoneData) → IsZonesOf b zones → BreaksRecordRule zones rule at
        → (r p : ℕ) → Breaks s b r p → BreaksRecordRule zones r p
    only_records lines zones are is r p (of_lines g) = absurd (lines r p g)
    only_records lines zones are is r p (of_records others held z g) = subst (λ zs. BreaksRecordRule zs r p) (zones_of_one b others zones z are) g
    only_records lines zones are is r p (of_references sheet held z g) = absurd (held.1 zones are rule at is)
    only_records lines zones are is r p (of_topology plan held z g) = absurd (held.0.1 zones are rule at is)
    only_records lines zones are is r p (of_objects plan held z g) = absurd (held.0.0.1 zones are rule at is)

    only_references : RecordsHold s b → (sheet : SheetData) → IsSheetOf b sheet → BreaksReferenceRule s sheet.list rule at
        → (r p : ℕ) → Breaks s b r p → BreaksReferenceRule s sheet.list r p
    only_references records sheet states is r p (of_lines g) = absurd (records.0 r p g)
    only_references records sheet states is r p (of_records others held z g) = absurd (records.1 others z r p g)
    only_references records sheet states is r p (of_references other held z g) = subst (λ list. BreaksReferenceRule s list r p) (one_list other sheet z states) g
    only_references records sheet states is r p (of_topology plan held z g) = absurd (held.1 sheet states rule at is)
    only_references records sheet states is r p (of_objects plan held z g) = absurd (held.0.1 sheet states rule at is)

    only_topology : ReferencesHold s b → (plan : PlanData) → IsPlanOfFile s b plan → BreaksTopologyRule plan rule at
        → (r p : ℕ) → Breaks s b r p → BreaksTopologyRule plan r p
    only_topology references plan states is r p (of_lines g) = absurd (references.0.0 r p g)
    only_topology references plan states is r p (of_records others held z g) = absurd (references.0.1 others z r p g)
    only_topology references plan states is r p (of_references other held z g) = absurd (references.1 other z r p g)
    only_topology references plan states is r p (of_topology other held z g) = subst (λ q. BreaksTopologyRule q r p) (one_plan s b other plan z states) g
    only_topology references plan states is r p (of_objects other held z g) = absurd (held.1 plan states rule at is)

  only_objects : TopologyHolds s b → (plan : PlanData) → IsPlanOfFile s b plan
      → (r p : ℕ) → Breaks s b r p → BreaksObjectRule plan r p
  only_objects topology plan states r p (of_lines g) = absurd (topology.0.0.0 r p g)
  only_objects topology plan states r p (of_records others held z g) = absurd (topology.0.0.1 others z r p g)
  only_objects topology plan states r p (of_references other held z g) = absurd (topology.0.1 other z r p g)
  only_objects topology plan states r p (of_topology other held z g) = absurd (topology.1 other z r p g)
  only_objects topology plan states r p (of_objects other held z g) = subst (λ q. BreaksObjectRule q r p) (one_plan s b other plan z states) g

  -- what a phase breaks is all where something of it is listed, and where it breaks something nothing else is broken
  phase : (B : ℕ → ℕ → Type 0) (list : List BrokenRule) → AreAllBroken B list → (list ≡ [] → ⊥)
      → ((r p : ℕ) → B r p → Breaks s b r p)
      → ((rule at : ℕ) → B rule at → (r p : ℕ) → Breaks s b r p → B r p) → AreAllBroken (Breaks s b) list
  phase B [] h some to from = absurd (some refl)
  phase B (it ∷ list) h some to from =
      let first : B it.rule it.at = h.each 0 it (omega arith) in
      reworded B (Breaks s b) (it ∷ list) to (from it.rule it.at first) h

  pub all_of_lines : (list : List BrokenRule) → AreAllBroken (BreaksLineRule b) list → (list ≡ [] → ⊥)
      → AreAllBroken (Breaks s b) list
  all_of_lines list h some = phase (BreaksLineRule b) list h some (λ r p g. of_lines g) (λ rule at is r p g. only_lines rule at is r p g)

  pub all_of_records : (list : List BrokenRule) → IsUnbroken (BreaksLineRule b) → (zones : List ZoneData) → IsZonesOf b zones
      → AreAllBroken (BreaksRecordRule zones) list → (list ≡ [] → ⊥) → AreAllBroken (Breaks s b) list
  all_of_records list lines zones are h some = phase (BreaksRecordRule zones) list h some
      (λ r p g. of_records zones lines are g) (λ rule at is r p g. only_records rule at lines zones are is r p g)

  pub all_of_references : (list : List BrokenRule) → RecordsHold s b → (sheet : SheetData) → IsSheetOf b sheet
      → AreAllBroken (BreaksReferenceRule s sheet.list) list → (list ≡ [] → ⊥) → AreAllBroken (Breaks s b) list
  all_of_references list records sheet states h some = phase (BreaksReferenceRule s sheet.list) list h some
      (λ r p g. of_references sheet records states g) (λ rule at is r p g. only_references rule at records sheet states is r p g)

  pub all_of_topology : (list : List BrokenRule) → ReferencesHold s b → (plan : PlanData) → IsPlanOfFile s b plan
      → AreAllBroken (BreaksTopologyRule plan) list → (list ≡ [] → ⊥) → AreAllBroken (Breaks s b) list
  all_of_topology list references plan states h some = phase (BreaksTopologyRule plan) list h some
      (λ r p g. of_topology plan references states g) (λ rule at is r p g. only_topology rule at references plan states is r p g)

  pub all_of_objects : (list : List BrokenRule) → TopologyHolds s b → (plan : PlanData) → IsPlanOfFile s b plan
      → AreAllBroken (BreaksObjectRule plan) list → AreAllBroken (Breaks s b) list
  all_of_objects list topology plan states h = reworded (BreaksObjectRule plan) (Breaks s b) list
      (λ r p g. of_objects plan topology states g) (only_objects topology plan states) h

-- a list that isn't none, by a test of its elements
pub is_some : (list items : List BrokenRule) (test : Bool) → test ≡ false → (list ≡ [] → IsTrue test) → list ≡ items → items ≡ [] → ⊥
is_some list items test false_is test_is same none = true≢false (sym (test_is (same ∙ none)) ∙ false_is)
