-- The plan that labels make of a plan: turned, in the order of the numbers, with what is a multiset in order.
use Rattle.std.specs.Prelude.{ℕ, ◌+◌, ◌-◌, List, [], ◌∷◌, ◌++◌, length, map}
use Rattle.std.specs.declared.cmp.Ordering.{Ordering}
use Rattle.edi_record.specs.declared.record.Kind.{Kind}
use Rattle.edi_record.specs.declared.record.Kind.TheVariants.{Pno, Par, Pfe, Fea, Lnk}
use Rattle.edi_schema.specs.Classes.{Classes, partner_of}
use Rattle.edi_schema.specs.Sorted.{sort_by}
use Rattle.edi_plan.specs.Plans.{PlanData, record_at}
use Rattle.edi_plan.specs.declared.record.PlanRecord.{PlanRecord}
use Rattle.edi_plan.specs.declared.record.PlanEnd.{PlanEnd}
use Rattle.edi_rank.specs.Same.{moved, class_after, directed}
use Rattle.edi_rank.specs.Turned.{role_after}
use Rattle.edi_plan.specs.Orders.{attribute_cmp}
use Rattle.edi_rank.specs.Keys.{end_cmp, numbered}
use Rattle.edi_rank.specs.Labelling.{Labelling, number_of, turned_at}

-- how many records stand before those of a kind
abbrev pub offset : Labelling → Kind → ℕ
offset l Pno = 0
offset l Par = length l.nodes
offset l Pfe = length l.nodes + length l.arcs
offset l Fea = length l.nodes + length l.arcs + length l.faces
offset l Lnk = length l.nodes + length l.arcs + length l.faces + length l.objects

-- where a record goes
abbrev pub new_place : Labelling → PlanData → ℕ → ℕ
new_place l p place = offset l (record_at p place).kind + (number_of l place - 1)

-- where the records come from, in their new order
abbrev pub old_places : Labelling → List ℕ
old_places l = l.nodes ++ l.arcs ++ l.faces ++ l.objects ++ l.links

abbrev pub numbered_cmp : PlanData → (ℕ → ℕ) → PlanEnd → PlanEnd → Ordering
numbered_cmp p number d e = end_cmp (numbered p number d) (numbered p number e)

-- the origin, and then the other ends in order
abbrev pub ordered_ends : PlanData → (ℕ → ℕ) → List PlanEnd → List PlanEnd
ordered_ends p number [] = []
ordered_ends p number (origin ∷ others) = origin ∷ sort_by (numbered_cmp p number) others

abbrev pub arranged_record : Classes → Labelling → PlanData → ℕ → PlanRecord
arranged_record s l p place = record {
  kind = (record_at p place).kind;
  class = class_after (partner_of s) (turned_at l.turned) (record_at p place);
  role = role_after (turned_at l.turned) (record_at p place);
  points = directed (turned_at l.turned place) (record_at p place).points;
  attributes = sort_by attribute_cmp (record_at p place).attributes;
  extras = (record_at p place).extras;
  ends = map (moved (new_place l p)) (ordered_ends p (number_of l) (record_at p place).ends);
}

abbrev pub arranged : Classes → Labelling → PlanData → PlanData
arranged s l p = record { cse = p.cse; list = map (arranged_record s l p) (old_places l) }
