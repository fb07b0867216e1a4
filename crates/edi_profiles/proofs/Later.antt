-- What was accepted and canonical by earlier rules is so by later ones.
use Rattle.std.proofs.Common.{◌≡◌, ap, ℕ, List, inl, inr}
use Rattle.std.specs.Ordering.{ordering_then}
use Rattle.std.specs.declared.cmp.Ordering.{Ordering}
use Rattle.std.specs.declared.cmp.Ordering.TheVariants.{Less}
use Rattle.edi_schema.specs.Classes.{Classes}
use Rattle.edi_plan.specs.Plans.{PlanData}
use Rattle.edi_topo.specs.TopologyRules.{AreEqualNodes}
use Rattle.edi_compare.specs.Canonical.{IsCanonical}
use Rattle.edi_compare.specs.Headline.{IsFormOf}
use Rattle.edi_compare.specs.Rules.{IsAccepted}
use Rattle.edi_profiles.specs.Laws.{IsFlatFile}
use Rattle.edi_profiles.specs.Profiles.{BreaksBy, BreaksTopology, IsAcceptedBy, IsCanonicalBy, IsFormBy, IsInOrderBy, ShareAPosition, three_coordinates, today, two_coordinates}
use Rattle.edi_profiles.proofs.Flat.{fewer_break, fewer_lack, fewer_sheets, flat_sheets, more_sheets}
use Rattle.edi_profiles.proofs.Today.{accepted_now, canonical_now, plan_now}
use Rattle.edi_profiles.proofs.Transfer.{also_accepted, records_held, transfer}

-- ---- two coordinates and three

same_topology : (p : PlanData) (rule at : ℕ) → BreaksTopology three_coordinates p rule at → BreaksTopology two_coordinates p rule at
same_topology p rule at h = h

topology_same : (p : PlanData) (rule at : ℕ) → BreaksTopology two_coordinates p rule at → BreaksTopology three_coordinates p rule at
topology_same p rule at h = h

pub accepted_by_three : (s : Classes) (b : List ℕ) → IsAcceptedBy two_coordinates s b → IsAcceptedBy three_coordinates s b
accepted_by_three s b accepted =
    also_accepted two_coordinates s b accepted three_coordinates fewer_lack (fewer_sheets s b (records_held two_coordinates s b accepted)) (λ p g. same_topology p)

module _ (s : Classes) (b : List ℕ) (flat : IsFlatFile b) where
  pub breaks_three : (rule at : ℕ) → BreaksBy two_coordinates s b rule at → BreaksBy three_coordinates s b rule at
  breaks_three = transfer two_coordinates three_coordinates s b (fewer_break b flat) (λ zones z. fewer_lack zones) (more_sheets b) (flat_sheets b flat) topology_same same_topology

  pub breaks_two : (rule at : ℕ) → BreaksBy three_coordinates s b rule at → BreaksBy two_coordinates s b rule at
  breaks_two = transfer three_coordinates two_coordinates s b (λ zones z. fewer_lack zones) (fewer_break b flat) (flat_sheets b flat) (more_sheets b) same_topology topology_same

order_three : (p : PlanData) → IsInOrderBy two_coordinates p → IsInOrderBy three_coordinates p
order_three p o = record {
  by_type = o.by_type;
  nodes = o.nodes;
  arcs = o.arcs;
  faces = o.faces;
  objects = o.objects;
  links = o.links;
  forward = o.forward;
  attributes = o.attributes;
  others = o.others;
}

order_two : (p : PlanData) → IsInOrderBy three_coordinates p → IsInOrderBy two_coordinates p
order_two p o = record {
  by_type = o.by_type;
  nodes = o.nodes;
  arcs = o.arcs;
  faces = o.faces;
  objects = o.objects;
  links = o.links;
  forward = o.forward;
  attributes = o.attributes;
  others = o.others;
}

pub canonical_by_three : (s : Classes) (c : List ℕ) → IsCanonicalBy two_coordinates s c → IsCanonicalBy three_coordinates s c
canonical_by_three s c can = record {
  plan = can.plan;
  bytes = can.bytes;
  accepted = accepted_by_three s c can.accepted;
  states = (can.states.0, more_sheets c can.states.0 can.states.1, can.states.2);
  laid_out = can.laid_out;
  in_order = order_three can.plan can.in_order;
}

pub canonical_by_two : (s : Classes) (c : List ℕ) → IsFlatFile c → IsCanonicalBy three_coordinates s c → IsCanonicalBy two_coordinates s c
canonical_by_two s c flat can = record {
  plan = can.plan;
  bytes = can.bytes;
  accepted = λ rule at h. can.accepted rule at (breaks_three s c flat rule at h);
  states = (can.states.0, flat_sheets c flat can.states.0 can.states.1, can.states.2);
  laid_out = can.laid_out;
  in_order = order_two can.plan can.in_order;
}

-- ---- three coordinates and today

shared : (p : PlanData) (m n : ℕ) → AreEqualNodes p m n → ShareAPosition p m n
shared p m n h = record { first = h.first; second = h.second; first_node = h.first_node; second_node = h.second_node; points = h.points }

topology_today : (p : PlanData) (rule at : ℕ) → BreaksTopology today p rule at → BreaksTopology three_coordinates p rule at
topology_today p rule at (inl h) = inl h
topology_today p rule at (inr (e, (m, n, place, less, equal))) = inr (e, (m, n, place, less, shared p m n equal))

accepted_by_today : (s : Classes) (b : List ℕ) → IsAcceptedBy three_coordinates s b → IsAcceptedBy today s b
accepted_by_today s b accepted = also_accepted three_coordinates s b accepted today (λ zones rule at h. h) (λ sheet g. g) (λ p g. topology_today p)

pub accepted_today : (s : Classes) (b : List ℕ) → IsAcceptedBy three_coordinates s b → IsAccepted s b
accepted_today s b accepted = accepted_now s b (accepted_by_today s b accepted)

less_first : (o rest : Ordering) → o ≡ Less → ordering_then o rest ≡ Less
less_first o rest h = ap (λ x. ordering_then x rest) h

order_today : (p : PlanData) → IsInOrderBy three_coordinates p → IsInOrderBy today p
order_today p o = record {
  by_type = o.by_type;
  nodes = λ i k both. less_first _ _ (o.nodes i k both);
  arcs = o.arcs;
  faces = o.faces;
  objects = o.objects;
  links = o.links;
  forward = o.forward;
  attributes = o.attributes;
  others = o.others;
}

pub canonical_today : (s : Classes) (c : List ℕ) → IsCanonicalBy three_coordinates s c → IsCanonical s c
canonical_today s c can = canonical_now s c (record {
  plan = can.plan;
  bytes = can.bytes;
  accepted = accepted_by_today s c can.accepted;
  states = can.states;
  laid_out = can.laid_out;
  in_order = order_today can.plan can.in_order;
})

-- ---- stored files

pub stays : (s : Classes) (b c d : List ℕ) → IsFormBy three_coordinates s b c → IsFormOf s b d → c ≡ d
stays s b c d form now =
    (now.only c (canonical_today s c form.canonical)).0
    (form.plan, form.canonical.plan, plan_now s b form.plan form.states, plan_now s c form.canonical.plan form.canonical.states, form.same)

pub form_by_three : (s : Classes) (b c : List ℕ) → IsFormBy two_coordinates s b c → IsFormBy three_coordinates s b c
unfolding canonical_by_three
form_by_three s b c form = record {
  plan = form.plan;
  accepted = accepted_by_three s b form.accepted;
  states = (form.states.0, more_sheets b form.states.0 form.states.1, form.states.2);
  canonical = canonical_by_three s c form.canonical;
  same = form.same;
}

pub form_by_two : (s : Classes) (b c : List ℕ) → IsFlatFile b → IsFlatFile c → IsFormBy three_coordinates s b c → IsFormBy two_coordinates s b c
unfolding canonical_by_two
form_by_two s b c flat flat' form = record {
  plan = form.plan;
  accepted = λ rule at h. form.accepted rule at (breaks_three s b flat rule at h);
  states = (form.states.0, flat_sheets b flat form.states.0 form.states.1, form.states.2);
  canonical = canonical_by_two s c flat' form.canonical;
  same = form.same;
}
