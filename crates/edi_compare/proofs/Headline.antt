-- A canonical sheet that states the plan of a sheet is the only one.
use Rattle.std.proofs.Common.{◌≡◌, ◌↔◌, ℕ, Bool, List, sym, ap, ◌∙◌, subst}
use Rattle.edi_line.specs.Refusal.{IsUnbroken}
use Rattle.edi_record.specs.Records.{SheetData}
use Rattle.edi_schema.specs.Classes.{Classes, IsSchema}
use Rattle.edi_schema.proofs.Paired.{paired}
use Rattle.edi_plan.specs.Plans.{PlanData}
use Rattle.edi_plan.specs.ReferenceRules.{BreaksReferenceRule}
use Rattle.edi_plan.specs.Joined.{IsJoined}
use Rattle.edi_plan.proofs.Built.{plans_whole, plans_agreeing, one_plan_of}
use Rattle.edi_plan.proofs.JoinedLemmas.{plans_joined}
use Rattle.edi_topo.specs.TopologyRules.{BreaksTopologyRule}
use Rattle.edi_rank.specs.EqualObjects.{BreaksObjectRule}
use Rattle.edi_rank.specs.Same.{Carries, Same}
use Rattle.edi_rank.specs.Laws.{IsPlanUnder}
use Rattle.edi_rank.proofs.SameLaws.{same_refl, same_sym, same_trans}
use Rattle.edi_rank.proofs.Unique.{same_plan}
use Rattle.edi_write.specs.Layout.{layout}
use Rattle.edi_compare.specs.PlanOfFile.{IsSheetOf, IsPlanOfFile, StateSame}
use Rattle.edi_compare.specs.Rules.{LinesHold, RecordsHold, ReferencesHold, IsAccepted}
use Rattle.edi_compare.specs.Rules.Breaks.{of_lines, of_records, of_references, of_topology, of_objects}
use Rattle.edi_compare.specs.Canonical.{IsCanonical}
use Rattle.edi_compare.specs.Laws.{ReadingIsOne, IsAcceptedPlan, SameIsEquivalence}
use Rattle.edi_compare.proofs.Phases.{sheet_whole}

-- where nothing is broken, each phase holds

module _ (s : Classes) (b : List ℕ) (accepted : IsAccepted s b) where
  lines_hold : LinesHold s b
  lines_hold rule at broken = accepted rule at (of_lines broken)

  pub records_hold : RecordsHold s b
  records_hold = (lines_hold, λ zones z rule at broken. accepted rule at (of_records zones lines_hold z broken))

  pub references_hold : (sheet : SheetData) → IsSheetOf b sheet → IsUnbroken (BreaksReferenceRule s sheet.list)
  references_hold sheet is rule at broken = accepted rule at (of_references sheet records_hold is broken)

  references_hold_all : ReferencesHold s b
  references_hold_all = (records_hold, references_hold)

  pub topology_hold : (p : PlanData) → IsPlanOfFile s b p → IsUnbroken (BreaksTopologyRule p)
  topology_hold p states rule at broken = accepted rule at (of_topology p references_hold_all states broken)

  pub objects_hold : (p : PlanData) → IsPlanOfFile s b p → IsUnbroken (BreaksObjectRule p)
  objects_hold p states rule at broken = accepted rule at (of_objects p (references_hold_all, topology_hold) states broken)

pub plan_joined : (s : Classes) (b : List ℕ) (p : PlanData) → IsAccepted s b → IsPlanOfFile s b p → IsJoined p
plan_joined s b p accepted states = plans_joined s states.0 p states.2 (references_hold s b accepted states.0 states.1)

pub plan_under : (s : Classes) (b : List ℕ) (p : PlanData) → IsSchema s → IsAccepted s b → IsPlanOfFile s b p → IsPlanUnder s p
plan_under s b p keeps accepted states = record {
  paired = paired s keeps;
  whole = plans_whole s states.0 p states.2 (sheet_whole s b (records_hold s b accepted) states.0 states.1) (references_hold s b accepted states.0 states.1);
  agrees = plans_agreeing s states.0 p states.2;
}

pub equivalence : (s : Classes) → IsSchema s → SameIsEquivalence s
equivalence s keeps = record {
  reflexive = λ p. same_refl s p;
  symmetric = λ p q h g same. same_sym s p q (under p h) (under q g) same;
  transitive = λ p q r h g k first second. same_trans s p q r (under p h) (under q g) (under r k) first second;
}
  where
    under : (p : PlanData) → IsAcceptedPlan s p → IsPlanUnder s p
    under p h = plan_under s h.0 p keeps h.1 h.2

module _ (ones : ReadingIsOne) (s : Classes) (keeps : IsSchema s) where
  pub one_plan : (b : List ℕ) (p q : PlanData) → IsPlanOfFile s b p → IsPlanOfFile s b q → p ≡ q
  one_plan b p q h g = let e = ones.sheets b h.0 g.0 h.1 g.1 in one_plan_of s h.0 g.0 p q e.0 e.1 h.2 g.2

  states_sym : (a b : List ℕ) → IsAccepted s a → IsAccepted s b → StateSame s a b → StateSame s b a
  states_sym a b h g same = (same.1, same.0, same.3, same.2, same_sym s same.0 same.1 (plan_under s a same.0 keeps h same.2) (plan_under s b same.1 keeps g same.3) same.4)

  states_trans : (a b c : List ℕ) → IsAccepted s a → IsAccepted s b → IsAccepted s c → StateSame s a b → StateSame s b c → StateSame s a c
  states_trans a b c h g k first second =
      let e : second.0 ≡ first.1 = one_plan b second.0 first.1 second.2 first.3 in (
        first.0,
        second.1,
        first.2,
        second.3,
        same_trans s first.0 first.1 second.1
            (plan_under s a first.0 keeps h first.2) (plan_under s b first.1 keeps g first.3) (plan_under s c second.1 keeps k second.3)
            first.4 (subst (λ p. Same s p second.1) e second.4),
      )

  -- of two canonical sheets with one plan the bytes are the same
  pub unique : (c d : List ℕ) (p q : PlanData) (to : ℕ → ℕ) (turned : ℕ → Bool) → IsCanonical s c → IsCanonical s d → IsPlanOfFile s c p → IsPlanOfFile s d q → Carries s to turned p q → c ≡ d
  unique c d p q to turned h g states states' carries =
      let e : h.plan ≡ p = one_plan c h.plan p h.states states in
      let f : g.plan ≡ q = one_plan d g.plan q g.states states' in
      let here : Carries s to turned h.plan g.plan = subst (λ r. Carries s to turned r g.plan) (sym e) (subst (λ r. Carries s to turned p r) (sym f) carries) in
      let same : h.plan ≡ g.plan = same_plan s h.plan g.plan h.in_order g.in_order (plan_under s c h.plan keeps h.accepted h.states) (plan_under s d g.plan keeps g.accepted g.states) to turned here in
      h.laid_out ∙ (ap (layout s) same ∙ sym g.laid_out)

  pub one_canonical : (c d : List ℕ) → IsCanonical s c → IsCanonical s d → StateSame s c d → c ≡ d
  one_canonical c d h g same = unique c d same.0 same.1 same.4.0 same.4.1 h g same.2 same.3 same.4.2

  pub decide : (b c : List ℕ) → IsAccepted s b → IsCanonical s c → StateSame s b c → (d : List ℕ) → IsCanonical s d → StateSame s b d ↔ (d ≡ c)
  decide b c accepted canonical same d h = (
    λ g. one_canonical d c h canonical (states_trans d b c h.accepted accepted canonical.accepted (states_sym b d accepted h.accepted g) same),
    λ e. subst (StateSame s b) (sym e) same,
  )

  -- the sentence on two sheets
  pub equal_if_same : (a b c d : List ℕ) → IsAccepted s a → IsAccepted s b → IsCanonical s c → StateSame s a c → IsCanonical s d → StateSame s b d → (c ≡ d) ↔ StateSame s a b
  equal_if_same a b c d h g canonical same canonical' same' = (
    λ e. states_trans a c b h canonical.accepted g same (subst (λ x. StateSame s x b) (sym e) (states_sym b d g canonical'.accepted same')),
    λ both. one_canonical c d canonical canonical' (states_trans c a d canonical.accepted h canonical'.accepted (states_sym a c h canonical.accepted same) (states_trans a b d h g canonical'.accepted both same')),
  )
