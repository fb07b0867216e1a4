-- Two plans are the same exactly if the pairing by types and numbers carries the one onto the other.
use Rattle.std.proofs.Common.{◌≡◌, ◌↔◌, ◌-◌, Bool, false, true≢false, IsTrue, length, sym, ◌∙◌, arith}
use Rattle.std.proofs.lemmas.Option.{slice_get_within}
use Rattle.edi_line.specs.Refusal.{IsUnbroken}
use Rattle.edi_record.specs.declared.record.Kind.{Kind}
use Rattle.edi_record.specs.declared.record.Kind.TheVariants.{Pno, Par, Pfe, Fea, Lnk}
use Rattle.edi_schema.specs.Classes.{Classes, IsSchema}
use Rattle.edi_plan.specs.Agreeing.{HasClasses}
use Rattle.edi_plan.specs.Plans.{PlanData, record_at}
use Rattle.edi_topo.specs.TopologyRules.{BreaksTopologyRule}
use Rattle.edi_rank.specs.Arranged.{arranged, new_place}
use Rattle.edi_rank.specs.Labelling.{Labelling, AreLabels, order_of, number_of, turned_at}
use Rattle.edi_rank.specs.Laws.{IsPlanUnder}
use Rattle.edi_rank.specs.Same.{Same}
use Rattle.edi_rank.proofs.ArrangedRises.{arranged_in_order}
use Rattle.edi_rank.proofs.ArrangedUnder.{under_arranged}
use Rattle.edi_rank.proofs.Arranging.{carries_arranged}
use Rattle.edi_rank.proofs.Offsets.{one_count}
use Rattle.edi_rank.proofs.SameLaws.{same_sym, same_trans}
use Rattle.edi_rank.proofs.Unique.{same_plan}
use Rattle.edi_compare.specs.Laws.{IsAcceptedPlan}
use Rattle.edi_compare.specs.Counterparts.{HasCounterparts, IsNumbered, PairsByNumber}
use Rattle.edi_compare.specs.Pairings.{PairingCarries}
use Rattle.edi_compare.specs.declared.numbered.NumberedRecords.{NumberedRecords}
use Rattle.edi_compare.specs.declared.pairing.Pairing.{Pairing}
use Rattle.edi_compare.proofs.Classed.{classed}
use Rattle.edi_compare.proofs.Headline.{plan_under, topology_hold}
use Rattle.edi_compare.proofs.Pairs.{have_counterparts, pairing_carries}
use Rattle.edi_matching.specs.inner.Same.{AreAsMany}

-- what is known of the plan of an accepted sheet

pub accepted_under : (s : Classes) (p : PlanData) → IsSchema s → IsAcceptedPlan s p → IsPlanUnder s p
accepted_under s p keeps h = plan_under s h.0 p keeps h.1 h.2

pub accepted_classed : (s : Classes) (p : PlanData) → IsSchema s → IsAcceptedPlan s p → HasClasses s p
accepted_classed s p keeps h = classed s p.list (accepted_under s p keeps h).agrees

-- as many records of each type have counterparts

each_many : (l m : Labelling) → AreAsMany l m → (kind : Kind) → length (order_of l kind) ≡ length (order_of m kind)
each_many l m many Pno = many.nodes
each_many l m many Par = many.arcs
each_many l m many Pfe = many.faces
each_many l m many Fea = many.objects
each_many l m many Lnk = many.links

module _ (s : Classes) (p q : PlanData) (l m : Labelling) (labels : AreLabels s p l) (labels' : AreLabels s q m) where
  pub many_have_counterparts : (f : NumberedRecords) → IsNumbered p l f → AreAsMany l m → HasCounterparts f m
  many_have_counterparts f first many =
      have_counterparts s p q l m labels labels' f first
      (λ k h.
      let kind = (record_at p k).kind in
      omega (arith, slice_get_within (order_of l kind) (number_of l k - 1) k (labels.to_count k h), each_many l m many kind, labels.from_one k h))

  module _ (under : IsPlanUnder s p) (under' : IsPlanUnder s q) (sound : IsUnbroken (BreaksTopologyRule p)) (sound' : IsUnbroken (BreaksTopologyRule q)) (same : Same s p q) where
    arranged_same : Same s (arranged s l p) (arranged s m q)
    arranged_same =
        let first : Same s p (arranged s l p) = (new_place l p, turned_at l.turned, carries_arranged s p l labels) in
        let second : Same s q (arranged s m q) = (new_place m q, turned_at m.turned, carries_arranged s q m labels') in
        let made = under_arranged s p l under labels in
        let made' = under_arranged s q m under' labels' in
        same_trans s (arranged s l p) p (arranged s m q) made under made' (same_sym s p (arranged s l p) under made first) (same_trans s p q (arranged s m q) under under' made' same second)

    one_arranged : arranged s l p ≡ arranged s m q
    one_arranged =
        same_plan s (arranged s l p) (arranged s m q) (arranged_in_order s p l labels under.whole sound) (arranged_in_order s q m labels' under'.whole sound')
        (under_arranged s p l under labels) (under_arranged s q m under' labels') arranged_same.0 arranged_same.1 arranged_same.2

    pub same_many : AreAsMany l m
    same_many = let count = one_count s p q l m labels labels' one_arranged in record { nodes = count Pno; arcs = count Par; faces = count Pfe; objects = count Fea; links = count Lnk }

    pub same_carries : (f : NumberedRecords) → IsNumbered p l f → (pairing : Pairing) → PairsByNumber f m pairing → PairingCarries s p q pairing
    same_carries f first pairing by = pairing_carries s p q l m labels labels' one_arranged f first pairing by under under'

-- the same of plans of accepted sheets

module _ (s : Classes) (p q : PlanData) (l m : Labelling) (keeps : IsSchema s) (accepted : IsAcceptedPlan s p) (accepted' : IsAcceptedPlan s q) (labels : AreLabels s p l) (labels' : AreLabels s q m) where
  under : IsPlanUnder s p
  under = accepted_under s p keeps accepted

  under' : IsPlanUnder s q
  under' = accepted_under s q keeps accepted'

  sound : IsUnbroken (BreaksTopologyRule p)
  sound = topology_hold s accepted.0 accepted.1 p accepted.2

  sound' : IsUnbroken (BreaksTopologyRule q)
  sound' = topology_hold s accepted'.0 accepted'.1 q accepted'.2

  pub not_as_many : (answer : Bool) → (IsTrue answer ↔ AreAsMany l m) → answer ≡ false → ¬ (Same s p q)
  not_as_many answer contents e same = true≢false (sym (contents.1 (same_many s p q l m labels labels' under under' sound sound' same)) ∙ e)

  pub not_carried : (f : NumberedRecords) → IsNumbered p l f → (pairing : Pairing) → PairsByNumber f m pairing → (answer : Bool) → (IsTrue answer ↔ PairingCarries s p q pairing) → answer ≡ false → ¬ (Same s p q)
  not_carried f first pairing by answer contents e same = true≢false (sym (contents.1 (same_carries s p q l m labels labels' under under' sound sound' same f first pairing by)) ∙ e)
