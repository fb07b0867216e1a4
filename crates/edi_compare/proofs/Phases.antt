-- The rules of a sheet, phase by phase: the least of the first broken phase is the least of all.
use Rattle.std.proofs.Common.{◌≡◌, ◌∙◌, subst, ℕ, ◌<◌, ◌≤◌, ◌⊎◌, inl, inr, List, [], ◌∷◌, ◌++◌, map, arith}
use Rattle.edi_line.specs.ZoneData.{ZoneData}
use Rattle.edi_line.specs.LineRules.{BreaksHere, BreaksIn, BreaksLineRule, IsZonesOf}
use Rattle.edi_line.specs.Refusal.{IsUnbroken, IsLeastBroken}
use Rattle.edi_line.specs.Spelling.{Reading}
use Rattle.edi_line.specs.inner.Spelling.{reading_of}
use Rattle.edi_line.specs.inner.Lines.{line_contents}
use Rattle.edi_line.proofs.Heads.{reading_rule_below}
use Rattle.edi_line.specs.inner.Zones.{readings_of}
use Rattle.edi_line.proofs.Readings.{rule_read}
use Rattle.edi_line.proofs.ZonesSaid.{zones_of_one}
use Rattle.edi_record.specs.RecordRules.{BreaksGroupRule, BreaksRecordRule}
use Rattle.edi_record.specs.RecordRules.BreaksGroupRule.{lacks_kind, lacks_identifier, lacks_class as lacks_record_class, bad_attribute, wrong_count, bad_point, bad_end, unknown_pointer}
use Rattle.edi_record.specs.declared.record.Record.{Record}
use Rattle.edi_record.specs.Records.{SheetData}
use Rattle.edi_record.specs.Whole.{IsWholeSheet}
use Rattle.edi_record.proofs.WholeSheets.{whole_sheet}
use Rattle.edi_schema.specs.Classes.{Classes}
use Rattle.edi_plan.specs.Plans.{PlanData}
use Rattle.edi_plan.specs.ReferenceRules.{BreaksReferenceRule}
use Rattle.edi_plan.specs.ReferenceRules.BreaksReferenceRule.{repeats_name, lacks_class, lacks_attribute_class, leaves_subset, names_nothing, joins_wrong, repeats_side}
use Rattle.edi_plan.proofs.Built.{one_plan_of}
use Rattle.edi_topo.specs.TopologyRules.{BreaksTopologyRule}
use Rattle.edi_topo.specs.TopologyRules.BreaksTopologyRule.{starts_elsewhere, ends_elsewhere, repeats_node, equals_reverse, repeats_arc, bounds_nothing}
use Rattle.edi_rank.specs.EqualObjects.{BreaksObjectRule}
use Rattle.edi_rank.specs.EqualObjects.BreaksObjectRule.{repeats_object}
use Rattle.edi_compare.specs.PlanOfFile.{IsSheetOf, IsPlanOfFile}
use Rattle.edi_compare.specs.Rules.{LinesHold, RecordsHold, ReferencesHold, TopologyHolds, Breaks, IsAccepted}
use Rattle.edi_compare.specs.Rules.Breaks.{of_lines, of_records, of_references, of_topology, of_objects}
use Rattle.edi_compare.proofs.Reading.{reading_is_one}

-- ---- the numbers of the rules

-- an element of a mapped list is what some element is mapped to
mapped : {X Y : Type 0} (f : X → Y) (xs : List X) (before : List Y) (y : Y) (after : List Y) → map f xs ≡ before ++ y ∷ after → (x : X) × (f x ≡ y)
mapped f [] [] y after e = cc
mapped f [] (b ∷ before) y after e = cc
mapped f (x ∷ xs) [] y after e = (x, cc)
mapped f (x ∷ xs) (b ∷ before) y after e = mapped f xs before y after cc

here_below : (content : List ℕ) (before : List Reading) (line : Reading) (rule : ℕ) → reading_of content ≡ line → BreaksHere before line rule → rule < 200
here_below content before line rule is (inl h) = reading_rule_below content rule (is ∙ h)
here_below content before line rule is (inr (inl h)) = omega (arith, h.0)
here_below content before line rule is (inr (inr (inl h))) = omega (arith, h.0)
here_below content before line rule is (inr (inr (inr (inl h)))) = omega (arith, h.0)
here_below content before line rule is (inr (inr (inr (inr (inl h))))) = omega (arith, h.0)
here_below content before line rule is (inr (inr (inr (inr (inr (inl h)))))) = omega (arith, h.0)
here_below content before line rule is (inr (inr (inr (inr (inr (inr h)))))) = omega (arith, h.0)

pub line_rule_below : (b : List ℕ) (rule place : ℕ) → BreaksLineRule b rule place → rule < 200
line_rule_below b rule place broken = go (rule_read b rule place broken)
  where
    go : BreaksIn (readings_of b) rule place → rule < 200
    go (inl h) = let c = mapped reading_of (line_contents b) h.before h.line h.after h.cut in here_below c.0 h.before h.line rule c.1 h.breaks
    go (inr h) = omega (arith, h.0)

pub group_above : (group : List ZoneData) (rule : ℕ) → BreaksGroupRule group rule → 200 ≤ rule
group_above group rule (lacks_kind e h) = omega (arith, e)
group_above group rule (lacks_identifier e h) = omega (arith, e)
group_above group rule (lacks_record_class e h) = omega (arith, e)
group_above group rule (bad_attribute e h) = omega (arith, e)
group_above group rule (wrong_count e h) = omega (arith, e)
group_above group rule (bad_point e h) = omega (arith, e)
group_above group rule (bad_end e k h) = omega (arith, e)
group_above group rule (unknown_pointer e h) = omega (arith, e)

pub reference_above : (s : Classes) (list : List Record) (rule place : ℕ) → BreaksReferenceRule s list rule place → 200 ≤ rule
reference_above s list rule place (repeats_name e h) = omega (arith, e)
reference_above s list rule place (lacks_class e h) = omega (arith, e)
reference_above s list rule place (lacks_attribute_class e h) = omega (arith, e)
reference_above s list rule place (leaves_subset e h) = omega (arith, e)
reference_above s list rule place (names_nothing e h) = omega (arith, e)
reference_above s list rule place (joins_wrong e h) = omega (arith, e)
reference_above s list rule place (repeats_side e h) = omega (arith, e)

pub object_above : (p : PlanData) (rule place : ℕ) → BreaksObjectRule p rule place → 200 ≤ rule
object_above p rule place (repeats_object e at less h) = omega (arith, e)

pub topology_above : (p : PlanData) (rule place : ℕ) → BreaksTopologyRule p rule place → 200 ≤ rule
topology_above p rule place (starts_elsewhere e h) = omega (arith, e)
topology_above p rule place (ends_elsewhere e h) = omega (arith, e)
topology_above p rule place (repeats_node e h) = omega (arith, e)
topology_above p rule place (equals_reverse e h) = omega (arith, e)
topology_above p rule place (repeats_arc e h) = omega (arith, e)
topology_above p rule place (bounds_nothing e h) = omega (arith, e)

-- ---- a sheet that is whole

pub sheet_whole : (s : Classes) (b : List ℕ) → RecordsHold s b → (sheet : SheetData) → IsSheetOf b sheet → IsWholeSheet sheet
sheet_whole s b held sheet is = whole_sheet b is.0 sheet is.1 held.0 is.2 (held.1 is.0 is.1)

-- ---- one sheet, one plan

one_list : (b : List ℕ) (sheet other : SheetData) → IsSheetOf b sheet → IsSheetOf b other → sheet.list ≡ other.list
one_list b sheet other h g = (reading_is_one.sheets b sheet other h g).1

pub one_plan : (s : Classes) (b : List ℕ) (p q : PlanData) → IsPlanOfFile s b p → IsPlanOfFile s b q → p ≡ q
one_plan s b p q h g = let e = reading_is_one.sheets b h.0 g.0 h.1 g.1 in one_plan_of s h.0 g.0 p q e.0 e.1 h.2 g.2

-- ---- the least of a phase is the least of all

module _ (s : Classes) (b : List ℕ) where
  module _ (rule at : ℕ) where
    after_lines : BreaksLineRule b rule at → ((r p : ℕ) → BreaksLineRule b r p → (at < p) ⊎ ((at ≡ p) × (rule ≤ r)))
        → (r p : ℕ) → Breaks s b r p → (at < p) ⊎ ((at ≡ p) × (rule ≤ r))
    after_lines is least r p (of_lines g) = least r p g
    after_lines is least r p (of_records zones held z g) = absurd (held rule at is)
    after_lines is least r p (of_references sheet held z g) = absurd (held.0 rule at is)
    after_lines is least r p (of_topology plan held z g) = absurd (held.0.0 rule at is)
    after_lines is least r p (of_objects plan held z g) = absurd (held.0.0.0 rule at is)

    pub line_refusal : IsLeastBroken (BreaksLineRule b) rule at → (rule < 200) × IsLeastBroken (Breaks s b) rule at
    line_refusal h = (line_rule_below b rule at h.is, record { is = of_lines h.is; least = after_lines h.is h.least })

    module _ (lines : LinesHold s b) (zones : List ZoneData) (are : IsZonesOf b zones) where
      after_records : BreaksRecordRule zones rule at → ((r p : ℕ) → BreaksRecordRule zones r p → (at < p) ⊎ ((at ≡ p) × (rule ≤ r)))
          → (r p : ℕ) → Breaks s b r p → (at < p) ⊎ ((at ≡ p) × (rule ≤ r))
      after_records is least r p (of_lines g) = absurd (lines r p g)
      after_records is least r p (of_records others held z g) = least r p (subst (λ zs. BreaksRecordRule zs r p) (zones_of_one b others zones z are) g)
      after_records is least r p (of_references sheet held z g) = absurd (held.1 zones are rule at is)
      after_records is least r p (of_topology plan held z g) = absurd (held.0.1 zones are rule at is)
      after_records is least r p (of_objects plan held z g) = absurd (held.0.0.1 zones are rule at is)

      pub record_refusal : IsLeastBroken (BreaksRecordRule zones) rule at → (200 ≤ rule) × IsLeastBroken (Breaks s b) rule at
      record_refusal h = (group_above h.is.group rule h.is.breaks, record { is = of_records zones lines are h.is; least = after_records h.is h.least })

    module _ (records : RecordsHold s b) (sheet : SheetData) (states : IsSheetOf b sheet) where
      after_references : BreaksReferenceRule s sheet.list rule at → ((r p : ℕ) → BreaksReferenceRule s sheet.list r p → (at < p) ⊎ ((at ≡ p) × (rule ≤ r)))
          → (r p : ℕ) → Breaks s b r p → (at < p) ⊎ ((at ≡ p) × (rule ≤ r))
      after_references is least r p (of_lines g) = absurd (records.0 r p g)
      after_references is least r p (of_records others held z g) = absurd (records.1 others z r p g)
      after_references is least r p (of_references other held z g) = least r p (subst (λ list. BreaksReferenceRule s list r p) (one_list b other sheet z states) g)
      after_references is least r p (of_topology plan held z g) = absurd (held.1 sheet states rule at is)
      after_references is least r p (of_objects plan held z g) = absurd (held.0.1 sheet states rule at is)

      pub reference_refusal : IsLeastBroken (BreaksReferenceRule s sheet.list) rule at → (200 ≤ rule) × IsLeastBroken (Breaks s b) rule at
      reference_refusal h = (reference_above s sheet.list rule at h.is, record { is = of_references sheet records states h.is; least = after_references h.is h.least })

    module _ (references : ReferencesHold s b) (plan : PlanData) (states : IsPlanOfFile s b plan) where
      after_topology : BreaksTopologyRule plan rule at → ((r p : ℕ) → BreaksTopologyRule plan r p → (at < p) ⊎ ((at ≡ p) × (rule ≤ r)))
          → (r p : ℕ) → Breaks s b r p → (at < p) ⊎ ((at ≡ p) × (rule ≤ r))
      after_topology is least r p (of_lines g) = absurd (references.0.0 r p g)
      after_topology is least r p (of_records others held z g) = absurd (references.0.1 others z r p g)
      after_topology is least r p (of_references other held z g) = absurd (references.1 other z r p g)
      after_topology is least r p (of_topology other held z g) = least r p (subst (λ q. BreaksTopologyRule q r p) (one_plan s b other plan z states) g)
      after_topology is least r p (of_objects other held z g) = absurd (held.1 plan states rule at is)

      pub topology_refusal : IsLeastBroken (BreaksTopologyRule plan) rule at → (200 ≤ rule) × IsLeastBroken (Breaks s b) rule at
      topology_refusal h = (topology_above plan rule at h.is, record { is = of_topology plan references states h.is; least = after_topology h.is h.least })

    module _ (topology : TopologyHolds s b) (plan : PlanData) (states : IsPlanOfFile s b plan) where
      after_objects : ((r p : ℕ) → BreaksObjectRule plan r p → (at < p) ⊎ ((at ≡ p) × (rule ≤ r)))
          → (r p : ℕ) → Breaks s b r p → (at < p) ⊎ ((at ≡ p) × (rule ≤ r))
      after_objects least r p (of_lines g) = absurd (topology.0.0.0 r p g)
      after_objects least r p (of_records others held z g) = absurd (topology.0.0.1 others z r p g)
      after_objects least r p (of_references other held z g) = absurd (topology.0.1 other z r p g)
      after_objects least r p (of_topology other held z g) = absurd (topology.1 other z r p g)
      after_objects least r p (of_objects other held z g) = least r p (subst (λ q. BreaksObjectRule q r p) (one_plan s b other plan z states) g)

      pub object_refusal : IsLeastBroken (BreaksObjectRule plan) rule at → (200 ≤ rule) × IsLeastBroken (Breaks s b) rule at
      object_refusal h = (object_above plan rule at h.is, record { is = of_objects plan topology states h.is; least = after_objects h.least })

  -- ---- the phases hold

  pub records_held : LinesHold s b → (zones : List ZoneData) → IsZonesOf b zones → IsUnbroken (BreaksRecordRule zones) → RecordsHold s b
  records_held lines zones are none = (lines, λ others z. subst (λ zs. IsUnbroken (BreaksRecordRule zs)) (zones_of_one b zones others are z) none)

  pub references_held : RecordsHold s b → (sheet : SheetData) → IsSheetOf b sheet → IsUnbroken (BreaksReferenceRule s sheet.list) → ReferencesHold s b
  references_held records sheet states none = (records, λ other z. subst (λ list. IsUnbroken (BreaksReferenceRule s list)) (one_list b sheet other states z) none)

  pub topology_held : ReferencesHold s b → (plan : PlanData) → IsPlanOfFile s b plan → IsUnbroken (BreaksTopologyRule plan) → TopologyHolds s b
  topology_held references plan states none = (references, λ other z. subst (λ q. IsUnbroken (BreaksTopologyRule q)) (one_plan s b plan other states z) none)

  pub all_held : TopologyHolds s b → (plan : PlanData) → IsPlanOfFile s b plan → IsUnbroken (BreaksObjectRule plan) → IsAccepted s b
  all_held held plan states none r p (of_lines g) = held.0.0.0 r p g
  all_held held plan states none r p (of_records others _ z g) = held.0.0.1 others z r p g
  all_held held plan states none r p (of_references other _ z g) = held.0.1 other z r p g
  all_held held plan states none r p (of_topology other _ z g) = held.1 other z r p g
  all_held held plan states none r p (of_objects other _ z g) = none r p (subst (λ q. BreaksObjectRule q r p) (one_plan s b other plan z states) g)
