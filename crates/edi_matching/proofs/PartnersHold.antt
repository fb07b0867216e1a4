-- A matching of nodes and arcs with their partners holds, and matches each that has one.
use Rattle.std.proofs.Common.{◌≡◌, ℕ, suc, ◌+◌, ◌<◌, ◌⊎◌, inl, inr, Bool, true, false, true≢false, List, [], ◌∷◌, ◌++◌, map, length, slice_index, Option, None, Some, option_map, IsPermutation, Result, Ok, Err, IfOk, get_or, refl, sym, ap, ◌∙◌, subst, arith, eqb-true}
use Rattle.std.specs.List.{AllByRecursion, list_any}
use Rattle.std.proofs.lemmas.List.{get_or_append_left, get_or_push}
use Rattle.std.proofs.lemmas.List.Sorted.{IsPermutation-refl}
use borrow.Author.Count.{below_more}
use Rattle.edi_line.specs.Refusal.{IsUnbroken}
use Rattle.edi_record.specs.Shapes.{may_have_ends}
use Rattle.edi_record.specs.declared.record.Kind.{Kind}
use Rattle.edi_record.specs.declared.record.Kind.TheVariants.{Pno, Par}
use Rattle.edi_schema.specs.Classes.{Classes, partner_of}
use Rattle.edi_plan.specs.Plans.{PlanData, IsPlace, record_at, first_of, rest_of, others_of}
use Rattle.edi_plan.specs.Whole.{IsWholePlan}
use Rattle.edi_plan.specs.declared.record.PlanEnd.{PlanEnd}
use Rattle.edi_plan.specs.declared.record.PlanRecord.{PlanRecord}
use Rattle.edi_topo.specs.TopologyRules.{BreaksTopologyRule}
use Rattle.edi_rank.specs.Labelling.{turned_at}
use Rattle.edi_rank.specs.Same.{CarriesRecord, class_after, moved, Same}
use Rattle.edi_rank.proofs.KeysApart.{one_node, one_arc}
use Rattle.edi_rank.proofs.SameLaws.{after, after_none}
use Rattle.edi_matching.specs.Differences.{HoldsSame, ArePartners, MatchesFaces, MatchesLinks, MatchesPartners, IsTotalIfSame}
use Rattle.edi_matching.specs.Laws.{matching_of}
use Rattle.edi_matching.specs.Matchings.{GoesTo, IsMatched, MatchingHolds, targets_of}
use Rattle.edi_matching.specs.declared.matching.Matching.{Matching}
use Rattle.edi_matching.specs.inner.Partners.{TwoPlans, GoesToPartner}
use Rattle.edi_compare.specs.Pairings.{PairingCarries}
use Rattle.edi_compare.specs.declared.pairing.Pairing.{Pairing}
use Rattle.edi_matching.proofs.Found.{node_keys_same, arc_keys_same}
use Rattle.edi_matching.proofs.Totals.{goes_within, total_carries, pairing_holds, pairing_total}

-- records without ends

no_ends : (kind : Kind) (ends : List PlanEnd) → (kind ≡ Pno) ⊎ (kind ≡ Par) → may_have_ends kind (length ends) ≡ true → ends ≡ []
no_ends kind [] is h = refl
no_ends kind (e ∷ ends) (inl is) h = let f : suc (length ends) ≡ 0 = eqb-true _ _ (subst (λ k. may_have_ends k (suc (length ends)) ≡ true) is h) in absurd (omega (arith, f))
no_ends kind (e ∷ ends) (inr is) h = let f : suc (length ends) ≡ 0 = eqb-true _ _ (subst (λ k. may_have_ends k (suc (length ends)) ≡ true) is h) in absurd (omega (arith, f))

kind_too : (a b : Kind) → b ≡ a → (a ≡ Pno) ⊎ (a ≡ Par) → (b ≡ Pno) ⊎ (b ≡ Par)
kind_too a b e (inl is) = inl (e ∙ is)
kind_too a b e (inr is) = inr (e ∙ is)

pub same_class : (s : Classes) (turned : ℕ → Bool) (a : PlanRecord) → a.ends ≡ [] → class_after (partner_of s) turned a ≡ a.class
same_class s turned a none = ap (λ (ends : List PlanEnd). after s a.role (list_any (λ e. turned e.target) ends) a.class) none ∙ after_none s a.role a.class

none_carried : (s : Classes) (to : ℕ → ℕ) (turned : ℕ → Bool) (i : ℕ) (a b : PlanRecord) → a.ends ≡ [] → b.ends ≡ [] → HoldsSame a b (turned i) → CarriesRecord s to turned i a b
none_carried s to turned i a b none none' same = record {
  kind = same.kind;
  attributes = same.attributes;
  extras = same.extras;
  class = same.class ∙ sym (same_class s turned a none);
  points = same.points;
  origin = ap first_of none' ∙ sym (ap (λ (ends : List PlanEnd). option_map (moved to) (first_of ends)) none);
  others = subst (λ (ends : List PlanEnd). IsPermutation (map (moved to) (rest_of ends)) (others_of b)) (sym none)
      (subst (λ (ends : List PlanEnd). IsPermutation [] (rest_of ends)) (sym none') (IsPermutation-refl []));
}

module _ (p q : PlanData) (whole : IsWholePlan p) (whole' : IsWholePlan q) (sound : IsUnbroken (BreaksTopologyRule p)) (m : Matching) (entered : length m.to ≡ length p.list) (directed : length m.turned ≡ length p.list)
    (each : (i : ℕ) → IsPlace p i → GoesToPartner (record { plan = p; other = q }) i (get_or m.to i None) (turned_at m.turned i)) where
  place : (i j : ℕ) → GoesTo m.to i j → IsPlace p i
  place i j e = let less = goes_within m.to i j e in omega (arith, less, entered)

  are : (i j : ℕ) → GoesTo m.to i j → ArePartners p q i j (turned_at m.turned i)
  are i j e = subst (λ o. GoesToPartner (record { plan = p; other = q }) i o (turned_at m.turned i)) e (each i (place i j e))

  kind_from : (i j : ℕ) (t : Bool) (kind : Kind) → ArePartners p q i j t → (record_at q j).kind ≡ kind → (record_at p i).kind ≡ kind
  kind_from i j t kind both is = sym both.same.kind ∙ is

  alone : (i k j : ℕ) (t u : Bool) → ArePartners p q i j t → ArePartners p q k j u → ((record_at p i).kind ≡ Pno) ⊎ ((record_at p i).kind ≡ Par) → i ≡ k
  alone i k j t u one two (inl node) =
      let node' = kind_from k j u Pno two (one.same.kind ∙ node) in
      one_node p whole (λ at. sound 403 at) i k one.here two.here node node'
      (sym (node_keys_same (record_at p i) (record_at q j) t one.same node) ∙ node_keys_same (record_at p k) (record_at q j) u two.same node')
  alone i k j t u one two (inr arc) =
      let arc' = kind_from k j u Par two (one.same.kind ∙ arc) in
      one_arc p (λ at. sound 405 at) i k one.here two.here arc arc' (sym (arc_keys_same (record_at p i) (record_at q j) t one.same) ∙ arc_keys_same (record_at p k) (record_at q j) u two.same)

  arc_matched : (i : ℕ) → IsPlace p i → turned_at m.turned i ≡ true → IsMatched m.to i × ((record_at p i).kind ≡ Par)
  arc_matched i h t = go (get_or m.to i None) refl (each i h)
    where
      go : (o : Option ℕ) → get_or m.to i None ≡ o → GoesToPartner (record { plan = p; other = q }) i o (turned_at m.turned i) → IsMatched m.to i × ((record_at p i).kind ≡ Par)
      go None e goes = absurd (true≢false (sym t ∙ goes.0))
      go (Some j) e goes = ((j, e), goes.same.arc t)

  ends_here : (i j : ℕ) (t : Bool) → ArePartners p q i j t → (record_at p i).ends ≡ []
  ends_here i j t both = no_ends (record_at p i).kind (record_at p i).ends both.kind (whole.ends i both.here)

  ends_there : (i j : ℕ) (t : Bool) → ArePartners p q i j t → (record_at q j).ends ≡ []
  ends_there i j t both = no_ends (record_at q j).kind (record_at q j).ends (kind_too (record_at p i).kind (record_at q j).kind both.same.kind both.kind) (whole'.ends j both.there)

  pub partners_hold : (s : Classes) → MatchingHolds s p q m
  partners_hold s = record {
    all_entered = entered;
    all_directed = directed;
    within = λ i j e. (are i j e).there;
    apart = λ i k j e f. alone i k j (turned_at m.turned i) (turned_at m.turned k) (are i j e) (are k j f) (are i j e).kind;
    arcs = arc_matched;
    ends = λ i j e. subst (AllByRecursion (λ (x : PlanEnd). IsMatched m.to x.target)) (sym (ends_here i j (turned_at m.turned i) (are i j e))) tt;
    each = λ i j e. none_carried s (slice_index (targets_of m.to)) (turned_at m.turned) i (record_at p i) (record_at q j)
        (ends_here i j (turned_at m.turned i) (are i j e)) (ends_there i j (turned_at m.turned i) (are i j e)) (are i j e).same;
  }

  pub partners_matched : MatchesPartners p q m
  partners_matched i j t both = go (get_or m.to i None) refl (each i both.here)
    where
      go : (o : Option ℕ) → get_or m.to i None ≡ o → GoesToPartner (record { plan = p; other = q }) i o (turned_at m.turned i) → IsMatched m.to i
      go None e goes = absurd (goes.1 j t both)
      go (Some k) e goes = (k, e)

-- one record more
pub one_goes_more : (two : TwoPlans) (to to' : List (Option ℕ)) (ts ts' : List Bool) (x : Option ℕ) (t : Bool) (n : ℕ) → to' ≡ to ++ x ∷ [] → ts' ≡ ts ++ t ∷ [] → length to ≡ n → length ts ≡ n
    → ((k : ℕ) → k < n → GoesToPartner two k (get_or to k None) (get_or ts k false)) → GoesToPartner two n x t
    → (k : ℕ) → k < n + 1 → GoesToPartner two k (get_or to' k None) (get_or ts' k false)
one_goes_more two to to' ts ts' x t n e f long long' each more = below_more (λ k. GoesToPartner two k (get_or to' k None) (get_or ts' k false)) n
    (λ k h. along k (get_or to k None) (get_or ts k false) (sym (ap (λ zs. get_or zs k None) e ∙ get_or_append_left to (x ∷ []) None k (omega arith))) (sym (ap (λ zs. get_or zs k false) f ∙ get_or_append_left ts (t ∷ []) false k (omega arith))) (each k h))
    (along n x t (sym (ap (λ zs. get_or zs n None) e ∙ get_or_push to x None n long)) (sym (ap (λ zs. get_or zs n false) f ∙ get_or_push ts t false n long')) more)
  where
    along : (k : ℕ) (o : Option ℕ) (b : Bool) → o ≡ get_or to' k None → b ≡ get_or ts' k false → GoesToPartner two k o b → GoesToPartner two k (get_or to' k None) (get_or ts' k false)
    along k o b g h goes = subst (λ (c : Bool). GoesToPartner two k (get_or to' k None) c) h (subst (λ (r : Option ℕ). GoesToPartner two k r b) g goes)

-- the same of the lists that the code has when each record has been looked at
pub partners_known : (two : TwoPlans) → IsWholePlan two.plan → IsWholePlan two.other → IsUnbroken (BreaksTopologyRule two.plan) → (to : List (Option ℕ)) (ts : List Bool) (to' : List (Option ℕ)) (ts' : List Bool) → to' ≡ to → ts' ≡ ts
    → (n : ℕ) → n ≡ length two.plan.list → length to ≡ n → length ts ≡ n → ((k : ℕ) → k < n → GoesToPartner two k (get_or to k None) (get_or ts k false))
    → ((s : Classes) → MatchingHolds s two.plan two.other (record { to = to'; turned = ts' })) × MatchesPartners two.plan two.other (record { to = to'; turned = ts' })
partners_known two whole whole' sound to ts to' ts' e f n all long long' each =
    subst (λ (m : Matching). ((s : Classes) → MatchingHolds s two.plan two.other m) × MatchesPartners two.plan two.other m) (λ i. record { to = sym e i; turned = sym f i })
    (partners_hold two.plan two.other whole whole' sound (record { to = to; turned = ts }) (long ∙ all) (long' ∙ all) here, partners_matched two.plan two.other whole whole' sound (record { to = to; turned = ts }) (long ∙ all) (long' ∙ all) here)
  where
    here : (i : ℕ) → IsPlace two.plan i → GoesToPartner (record { plan = two.plan; other = two.other }) i (get_or to i None) (turned_at ts i)
    here i h = each i (omega (arith, h, all))

-- a matching is total exactly if the plans are the same

pub pairing_known : {E : Type 0} (s : Classes) (p q : PlanData) (pairing : Pairing) → IsWholePlan p → PairingCarries s p q pairing → (r : Result Matching E) → IfOk r (λ m. m ≡ matching_of pairing)
    → IfOk r (MatchingHolds s p q) × IfOk r (IsTotalIfSame s p q) × IfOk r (MatchesPartners p q) × IfOk r (MatchesFaces s p q) × IfOk r (MatchesLinks s p q)
pairing_known s p q pairing whole c (Err e) is = (tt, tt, tt, tt, tt)
pairing_known s p q pairing whole c (Ok m) is = (
  subst (MatchingHolds s p q) (sym is) (pairing_holds s p q pairing whole c),
  subst (IsTotalIfSame s p q) (sym is) (λ total. (slice_index pairing.to, turned_at pairing.turned, c.carries), λ same. (pairing_total s p q pairing whole c, c.carries.cse)),
  subst (MatchesPartners p q) (sym is) (λ i j t both. (pairing_total s p q pairing whole c).each i both.here),
  subst (MatchesFaces s p q) (sym is) (record {
    on_left = λ arc f g b missed. missed.left ((pairing_total s p q pairing whole c).each f missed.here);
    on_right = λ arc f g b missed. missed.left ((pairing_total s p q pairing whole c).each f missed.here);
  }),
  subst (MatchesLinks s p q) (sym is) (λ i j link missed. missed.left ((pairing_total s p q pairing whole c).each i missed.here)),
)

pub different_known : {E : Type 0} (s : Classes) (p q : PlanData) → ¬ (Same s p q) → (r : Result Matching E) → IfOk r (MatchingHolds s p q) → IfOk r (IsTotalIfSame s p q)
different_known s p q none (Err e) holds = tt
different_known s p q none (Ok m) holds = (
  λ total. let c = total_carries s p q m holds total.0 total.1 in (slice_index (targets_of m.to), turned_at m.turned, c.carries),
  λ same. absurd (none same),
)

-- what matches more matches partners too
pub partners_kept : {E : Type 0} (p q : PlanData) (m : Matching) → MatchesPartners p q m → (r : Result Matching E) → IfOk r (λ n. (i : ℕ) → IsMatched m.to i → IsMatched n.to i) → IfOk r (MatchesPartners p q)
partners_kept p q m matched (Err e) unchanged = tt
partners_kept p q m matched (Ok n) unchanged = λ i j t both. unchanged i (matched i j t both)
