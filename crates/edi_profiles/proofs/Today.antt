-- At the profile of today the definitions are those of today.
use Rattle.std.proofs.Common.{◌≡◌, ◌≢◌, ◌∙◌, sym, ℕ, List, arith, inl, inr}
use Rattle.edi_line.specs.ZoneData.{ZoneData}
use Rattle.edi_line.specs.Zones.{groups_of}
use Rattle.edi_record.specs.RecordRules.{BreaksRecordRule}
use Rattle.edi_record.specs.RecordRules.BreaksGroupRule.{bad_point}
use Rattle.edi_record.specs.RecordRules.HasBadPoint.{no_position}
use Rattle.edi_record.specs.Records.{States, SheetData}
use Rattle.edi_schema.specs.Classes.{Classes}
use Rattle.edi_plan.specs.Plans.{PlanData}
use Rattle.edi_topo.specs.TopologyRules.{BreaksTopologyRule}
use Rattle.edi_topo.specs.TopologyRules.BreaksTopologyRule.{starts_elsewhere, ends_elsewhere, repeats_node, equals_reverse, repeats_arc, bounds_nothing}
use Rattle.edi_rank.specs.InOrder.{IsInOrder}
use Rattle.edi_rank.specs.Same.{Same}
use Rattle.edi_compare.specs.Canonical.{IsCanonical}
use Rattle.edi_compare.specs.PlanOfFile.{IsPlanOfFile, IsSheetOf}
use Rattle.edi_compare.specs.Rules.{Breaks, IsAccepted, RecordsHold, ReferencesHold, TopologyHolds}
use Rattle.edi_compare.specs.Rules.Breaks.{of_lines as lines_now, of_records as records_broken, of_references as references_broken, of_topology as topology_broken, of_objects as objects_broken}
use Rattle.edi_profiles.specs.Profiles.{BreaksBy, BreaksRecords, BreaksTopology, HasPositions, IsAcceptedBy, IsCanonicalBy, IsFormBy, IsInOrderBy, IsPlanBy, IsSheetBy, RecordsHoldBy, ReferencesHoldBy, TopologyHoldsBy, today}
use Rattle.edi_profiles.specs.Profiles.BreaksBy.{of_lines, of_records, of_references, of_topology, of_objects}
use Rattle.edi_profiles.proofs.Transfer.{zip_map}

records_now : (zones : List ZoneData) (rule at : ℕ) → BreaksRecords today zones rule at → BreaksRecordRule zones rule at
records_now zones rule at (inl h) = h
records_now zones rule at (inr (e, (before, group, after, cut, place, (kind, is, has, any)))) =
    record { before = before; group = group; after = after; cut = cut; place_is = place; breaks = bad_point e (no_position kind is has any) }

pub sheet_now : (b : List ℕ) (sheet : SheetData) → IsSheetBy today b sheet → IsSheetOf b sheet
sheet_now b sheet g = (g.0, g.1, g.2)

pub sheet_then : (b : List ℕ) (sheet : SheetData) → IsSheetOf b sheet → IsSheetBy today b sheet
sheet_then b sheet g = (g.0, g.1, g.2, zip_map States (HasPositions today) (groups_of g.0) sheet.list (λ group r states. states.points) g.2.records)

pub plan_now : (s : Classes) (b : List ℕ) (p : PlanData) → IsPlanBy today s b p → IsPlanOfFile s b p
plan_now s b p g = (g.0, sheet_now b g.0 g.1, g.2)

pub plan_then : (s : Classes) (b : List ℕ) (p : PlanData) → IsPlanOfFile s b p → IsPlanBy today s b p
plan_then s b p g = (g.0, sheet_then b g.0 g.1, g.2)

topology_now : (p : PlanData) (rule at : ℕ) → BreaksTopology today p rule at → BreaksTopologyRule p rule at
topology_now p rule at (inl h) = h.1
topology_now p rule at (inr (e, (m, n, place, less, equal))) = repeats_node e (m, n, place, less, equal)

not_403 : (rule other : ℕ) → rule ≡ other → other ≢ 403 → rule ≢ 403
not_403 rule other e apart f = apart (sym e ∙ f)

pub topology_then : (p : PlanData) (rule at : ℕ) → BreaksTopologyRule p rule at → BreaksTopology today p rule at
topology_then p rule at (starts_elsewhere e h) = inl (not_403 rule 401 e (λ f. omega (arith, f)), starts_elsewhere e h)
topology_then p rule at (ends_elsewhere e h) = inl (not_403 rule 402 e (λ f. omega (arith, f)), ends_elsewhere e h)
topology_then p rule at (repeats_node e h) = inr (e, h)
topology_then p rule at (equals_reverse e h) = inl (not_403 rule 404 e (λ f. omega (arith, f)), equals_reverse e h)
topology_then p rule at (repeats_arc e h) = inl (not_403 rule 405 e (λ f. omega (arith, f)), repeats_arc e h)
topology_then p rule at (bounds_nothing e h) = inl (not_403 rule 406 e (λ f. omega (arith, f)), bounds_nothing e h)

module _ (s : Classes) (b : List ℕ) where
  records_hold : RecordsHoldBy today s b → RecordsHold s b
  records_hold held = (held.0, λ zones z rule at h. held.1 zones z rule at (inl h))

  references_hold : ReferencesHoldBy today s b → ReferencesHold s b
  references_hold held = (records_hold held.0, λ sheet g rule at h. held.1 sheet (sheet_then b sheet g) rule at h)

  topology_holds : TopologyHoldsBy today s b → TopologyHolds s b
  topology_holds held = (references_hold held.0, λ p g rule at h. held.1 p (plan_then s b p g) rule at (topology_then p rule at h))

  records_held : RecordsHold s b → RecordsHoldBy today s b
  records_held held = (held.0, λ zones z rule at h. held.1 zones z rule at (records_now zones rule at h))

  references_held : ReferencesHold s b → ReferencesHoldBy today s b
  references_held held = (records_held held.0, λ sheet g rule at h. held.1 sheet (sheet_now b sheet g) rule at h)

  topology_held : TopologyHolds s b → TopologyHoldsBy today s b
  topology_held held = (references_held held.0, λ p g rule at h. held.1 p (plan_now s b p g) rule at (topology_now p rule at h))

  pub breaks_now : (rule at : ℕ) → BreaksBy today s b rule at → Breaks s b rule at
  breaks_now rule at (of_lines h) = lines_now h
  breaks_now rule at (of_records zones lines z h) = records_broken zones lines z (records_now zones rule at h)
  breaks_now rule at (of_references sheet held g h) = references_broken sheet (records_hold held) (sheet_now b sheet g) h
  breaks_now rule at (of_topology p held g h) = topology_broken p (references_hold held) (plan_now s b p g) (topology_now p rule at h)
  breaks_now rule at (of_objects p held g h) = objects_broken p (topology_holds held) (plan_now s b p g) h

  pub breaks_then : (rule at : ℕ) → Breaks s b rule at → BreaksBy today s b rule at
  breaks_then rule at (lines_now h) = of_lines h
  breaks_then rule at (records_broken zones lines z h) = of_records zones lines z (inl h)
  breaks_then rule at (references_broken sheet held g h) = of_references sheet (records_held held) (sheet_then b sheet g) h
  breaks_then rule at (topology_broken p held g h) = of_topology p (references_held held) (plan_then s b p g) (topology_then p rule at h)
  breaks_then rule at (objects_broken p held g h) = of_objects p (topology_held held) (plan_then s b p g) h

  pub accepted_now : IsAcceptedBy today s b → IsAccepted s b
  accepted_now accepted rule at h = accepted rule at (breaks_then rule at h)

  pub accepted_then : IsAccepted s b → IsAcceptedBy today s b
  accepted_then accepted rule at h = accepted rule at (breaks_now rule at h)

order_now : (p : PlanData) → IsInOrderBy today p → IsInOrder p
order_now p o = record {
  by_type = o.by_type;
  rise = record { nodes = o.nodes; arcs = o.arcs; faces = o.faces; objects = o.objects; links = o.links };
  forward = o.forward;
  attributes = o.attributes;
  others = o.others;
}

order_then : (p : PlanData) → IsInOrder p → IsInOrderBy today p
order_then p o = record {
  by_type = o.by_type;
  nodes = o.rise.nodes;
  arcs = o.rise.arcs;
  faces = o.rise.faces;
  objects = o.rise.objects;
  links = o.rise.links;
  forward = o.forward;
  attributes = o.attributes;
  others = o.others;
}

pub canonical_now : (s : Classes) (c : List ℕ) → IsCanonicalBy today s c → IsCanonical s c
canonical_now s c can = record {
  plan = can.plan;
  bytes = can.bytes;
  accepted = accepted_now s c can.accepted;
  states = plan_now s c can.plan can.states;
  laid_out = can.laid_out;
  in_order = order_now can.plan can.in_order;
}

pub canonical_then : (s : Classes) (c : List ℕ) → IsCanonical s c → IsCanonicalBy today s c
canonical_then s c can = record {
  plan = can.plan;
  bytes = can.bytes;
  accepted = accepted_then s c can.accepted;
  states = plan_then s c can.plan can.states;
  laid_out = can.laid_out;
  in_order = order_then can.plan can.in_order;
}

pub form_then : (s : Classes) (b c : List ℕ) (p : PlanData) → IsAccepted s b → IsPlanOfFile s b p → (can : IsCanonical s c) → Same s p can.plan → IsFormBy today s b c
unfolding canonical_then
form_then s b c p accepted states can same =
    record { plan = p; accepted = accepted_then s b accepted; states = plan_then s b p states; canonical = canonical_then s c can; same = same }
