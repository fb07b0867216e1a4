-- What breaks a rule of topology at one record.
use Rattle.std.proofs.Common.{◌≡◌, ℕ, suc, ◌+◌, ◌<◌, ◌≤◌, ◌⊎◌, inl, inr, ◌-◌, Option, Some, None, MatchOption, Result, Ok, Err, IfErr, ⊎_elim, refl, sym, ap, ◌∙◌, subst, arith}
use Rattle.std.proofs.lemmas.Bool.{cases_order}
use Rattle.edi_line.specs.Refusal.{IsUnbroken, IsLeastBroken}
use Rattle.edi_record.specs.declared.record.Kind.{Kind}
use Rattle.edi_record.specs.declared.record.Kind.TheVariants.{Pno, Par, Pfe}
use Rattle.edi_schema.specs.declared.role.Role.TheVariants.{Left, Right}
use Rattle.edi_plan.specs.EarlierLinks.{IsLeast, IsLeastIfAny}
use Rattle.edi_plan.specs.Plans.{PlanData, IsPlace, record_at, kind_rank}
use Rattle.edi_plan.specs.Sides.{Side}
use Rattle.edi_topo.specs.EarlierRecords.{IsEarlierByRule, IsEqualNode, SharesPoints}
use Rattle.edi_topo.specs.inner.Arcs.{RepeatsAnEarlierArc}
use Rattle.edi_topo.specs.inner.AtRecord.{IsUnbrokenAt, IsLeastAt, IsUpTo, AreNotBefore, AreRecordFindings}
use Rattle.edi_topo.specs.inner.Nodes.{RepeatsAnEarlier}
use Rattle.edi_topo.specs.inner.Repeats.{repeat_place, repeated_place}
use Rattle.edi_topo.specs.declared.at_record.RecordFindings.{RecordFindings}
use Rattle.edi_topo.specs.declared.repeat.Repeat.{Repeat}
use Rattle.edi_topo.specs.TopologyRules.{BreaksTopologyRule, StartsElsewhere, EndsElsewhere}
use Rattle.edi_topo.specs.TopologyRules.BreaksTopologyRule.{starts_elsewhere, ends_elsewhere, repeats_node, equals_reverse, repeats_arc, bounds_nothing}

-- the first place with a property, where none before this one has it, is this one if it has it
pub at_first : (R : ℕ → Type 0) (found : Option ℕ) (place : ℕ) → MatchOption found ((n : ℕ) → ¬ (R n)) (λ n. R n × ((k : ℕ) → R k → n ≤ k)) → IsUpTo found place → R place → found ≡ Some place
at_first R None place none up h = absurd (none place h)
at_first R (Some n) place first up h =
    let low = up n refl in
    let high = first.1 place h in
    let same : n ≡ place = omega (arith, low, high) in
    ap Some same

pub has_it : (R : ℕ → Type 0) (found : Option ℕ) (place : ℕ) → found ≡ Some place → MatchOption found ((n : ℕ) → ¬ (R n)) (λ n. R n × ((k : ℕ) → R k → n ≤ k)) → R place
has_it R found place e first = (subst (λ o. MatchOption o ((n : ℕ) → ¬ (R n)) (λ n. R n × ((k : ℕ) → R k → n ≤ k))) e first).0

-- what the first record with a property repeats, where that is at this place
repeated_here : {X : Type 0} (R : ℕ → Type 0) (Is : ℕ → ℕ → Type 0) (found : Result X Repeat) (place : ℕ) → MatchOption (repeat_place found) ((n : ℕ) → ¬ (R n)) (λ n. R n × ((k : ℕ) → R k → n ≤ k))
    → IfErr found (λ r. IsLeast (Is r.place) r.earlier) → R place → ((k : ℕ) → R k → place ≤ k) → IsLeastIfAny (Is place) (repeated_place found)
repeated_here R Is (Ok x) place none earlier h least = absurd (none place h)
repeated_here R Is (Err r) place first earlier h least =
    let same : r.place ≡ place = omega (arith, first.1 place h, least r.place first.0) in
    subst (λ n. IsLeast (Is n) r.earlier) same earlier

module _ (p : PlanData) where
  abbrev kind_at : ℕ → Kind
  kind_at k = (record_at p k).kind

  -- a rule is broken at a record of the plan
  pub broken_place : (rule at : ℕ) → BreaksTopologyRule p rule at → (k : ℕ) × (at ≡ suc k) × IsPlace p k
  broken_place rule at (starts_elsewhere e h) = (h.0, h.5, h.6.0)
  broken_place rule at (ends_elsewhere e h) = (h.0, h.5, h.6.0)
  broken_place rule at (repeats_node e h) = (h.1, h.2, h.4.second)
  broken_place rule at (equals_reverse e h) = (h.0, h.2, h.3.0)
  broken_place rule at (repeats_arc e h) = (h.1, h.4, h.7.0)
  broken_place rule at (bounds_nothing e h) = (h.0, h.2, h.3.0)

  module _ (k : ℕ) where
    same_place : (a : ℕ) → suc k ≡ suc a → a ≡ k
    same_place a e = omega (arith, e)

    -- the record here has one kind
    one_rank : (a : ℕ) (here there : Kind) → suc k ≡ suc a → kind_at k ≡ here → kind_at a ≡ there → kind_rank here ≡ kind_rank there
    one_rank a here there e f g = ap kind_rank (sym f ∙ (sym (ap kind_at (same_place a e)) ∙ g))

    pub breaks_of_node : kind_at k ≡ Pno → (rule : ℕ) → BreaksTopologyRule p rule (suc k) → (rule ≡ 403) × RepeatsAnEarlier p k
    breaks_of_node is rule (starts_elsewhere e h) = absurd (omega (arith, one_rank h.0 Pno Par h.5 is h.6.1))
    breaks_of_node is rule (ends_elsewhere e h) = absurd (omega (arith, one_rank h.0 Pno Par h.5 is h.6.1))
    breaks_of_node is rule (repeats_node e h) = (e, subst (RepeatsAnEarlier p) (same_place h.1 h.2) (h.0, h.3, h.4))
    breaks_of_node is rule (equals_reverse e h) = absurd (omega (arith, one_rank h.0 Pno Par h.2 is h.3.1))
    breaks_of_node is rule (repeats_arc e h) = absurd (omega (arith, one_rank h.1 Pno Par h.4 is h.7.1))
    breaks_of_node is rule (bounds_nothing e h) = absurd (omega (arith, one_rank h.0 Pno Pfe h.2 is h.3.1))

    pub breaks_of_face : kind_at k ≡ Pfe → (rule : ℕ) → BreaksTopologyRule p rule (suc k) → (rule ≡ 406) × ((a : ℕ) → ¬ (Side p a Left k ⊎ Side p a Right k))
    breaks_of_face is rule (starts_elsewhere e h) = absurd (omega (arith, one_rank h.0 Pfe Par h.5 is h.6.1))
    breaks_of_face is rule (ends_elsewhere e h) = absurd (omega (arith, one_rank h.0 Pfe Par h.5 is h.6.1))
    breaks_of_face is rule (repeats_node e h) = absurd (omega (arith, one_rank h.1 Pfe Pno h.2 is h.4.second_node))
    breaks_of_face is rule (equals_reverse e h) = absurd (omega (arith, one_rank h.0 Pfe Par h.2 is h.3.1))
    breaks_of_face is rule (repeats_arc e h) = absurd (omega (arith, one_rank h.1 Pfe Par h.4 is h.7.1))
    breaks_of_face is rule (bounds_nothing e h) = (e, subst (λ x. (a : ℕ) → ¬ (Side p a Left x ⊎ Side p a Right x)) (same_place h.0 h.2) h.4)

    -- the rules that an arc can break
    pub data BreaksOfArc (rule : ℕ) : Type 0 where
      starts : rule ≡ 401 → StartsElsewhere p (suc k) → BreaksOfArc rule
      ends : rule ≡ 402 → EndsElsewhere p (suc k) → BreaksOfArc rule
      reverses : rule ≡ 404 → (record_at p k).points ≡ Rattle.std.proofs.Common.reverse (record_at p k).points → BreaksOfArc rule
      repeats : rule ≡ 405 → RepeatsAnEarlierArc p k → BreaksOfArc rule

    pub breaks_of_arc : kind_at k ≡ Par → (rule : ℕ) → BreaksTopologyRule p rule (suc k) → BreaksOfArc rule
    breaks_of_arc is rule (starts_elsewhere e h) = starts e h
    breaks_of_arc is rule (ends_elsewhere e h) = ends e h
    breaks_of_arc is rule (repeats_node e h) = absurd (omega (arith, one_rank h.1 Par Pno h.2 is h.4.second_node))
    breaks_of_arc is rule (equals_reverse e h) =
        let points : (record_at p k).points ≡ h.1 = sym (ap (λ i. (record_at p i).points) (same_place h.0 h.2)) ∙ h.3.2 in
        reverses e (points ∙ (h.4 ∙ sym (ap Rattle.std.proofs.Common.reverse points)))
    breaks_of_arc is rule (repeats_arc e h) = repeats e (subst (RepeatsAnEarlierArc p) (same_place h.1 h.4) (h.0, h.2, h.3, h.5, h.6, h.7, h.8))
    breaks_of_arc is rule (bounds_nothing e h) = absurd (omega (arith, one_rank h.0 Par Pfe h.2 is h.3.1))

    -- objects and links break none
    pub breaks_of_other : (kind : Kind) → 2 < kind_rank kind → kind_at k ≡ kind → (rule : ℕ) → BreaksTopologyRule p rule (suc k) → ⊥
    breaks_of_other kind high is rule (starts_elsewhere e h) = omega (arith, high, one_rank h.0 kind Par h.5 is h.6.1)
    breaks_of_other kind high is rule (ends_elsewhere e h) = omega (arith, high, one_rank h.0 kind Par h.5 is h.6.1)
    breaks_of_other kind high is rule (repeats_node e h) = omega (arith, high, one_rank h.1 kind Pno h.2 is h.4.second_node)
    breaks_of_other kind high is rule (equals_reverse e h) = omega (arith, high, one_rank h.0 kind Par h.2 is h.3.1)
    breaks_of_other kind high is rule (repeats_arc e h) = omega (arith, high, one_rank h.1 kind Par h.4 is h.7.1)
    breaks_of_other kind high is rule (bounds_nothing e h) = omega (arith, high, one_rank h.0 kind Pfe h.2 is h.3.1)

  -- the least rule at the first record that breaks one is the least of the plan
  pub first_is_least : (place rule : ℕ) → IsLeastAt p place rule → ((k : ℕ) → k < place → IsUnbrokenAt p k) → IsLeastBroken (BreaksTopologyRule p) rule (suc place)
  first_is_least place rule here before = record { is = here.is; least = λ r q h. let k = broken_place r q h in go r q h k.0 k.1 (cases_order place k.0) }
    where
      go : (r q : ℕ) → BreaksTopologyRule p r q → (k : ℕ) → q ≡ suc k → (place ≡ k) ⊎ ((place < k) ⊎ (k < place)) → (suc place < q) ⊎ ((suc place ≡ q) × (rule ≤ r))
      go r q h k e (inl same) = inr (omega (arith, same, e), here.least r (subst (BreaksTopologyRule p r) (e ∙ ap suc (sym same)) h))
      go r q h k e (inr (inl less)) = inl (omega (arith, less, e))
      go r q h k e (inr (inr more)) = absurd (before k more r (subst (BreaksTopologyRule p r) e h))

  pub none_is_broken : (count : ℕ) → ((k : ℕ) → IsPlace p k → k < count) → ((k : ℕ) → k < count → IsUnbrokenAt p k) → IsUnbroken (BreaksTopologyRule p)
  none_is_broken count all none rule at h = let k = broken_place rule at h in none k.0 (all k.0 k.2) rule (subst (BreaksTopologyRule p rule) k.1 h)

  pub node_breaks : (k : ℕ) → RepeatsAnEarlier p k → BreaksTopologyRule p 403 (suc k)
  node_breaks k d = repeats_node refl (d.0, k, refl, d.1, d.2)

  pub arc_breaks : (k : ℕ) → RepeatsAnEarlierArc p k → BreaksTopologyRule p 405 (suc k)
  arc_breaks k d = repeats_arc refl (d.0, k, d.1, d.2, refl, d.3, d.4, d.5, d.6)

  -- the repeats are past a record that breaks no rule
  pub ahead_more : (found : RecordFindings) (place : ℕ) → AreRecordFindings p found → AreNotBefore found place → IsUnbrokenAt p place → AreNotBefore found (place + 1)
  ahead_more found place are ahead none = record {
    node = λ k e. past k (ahead.node k e) (λ same. none 403 (node_breaks place (has_it (RepeatsAnEarlier p) (repeat_place found.nodes) place (e ∙ ap Some same) are.node_repeat))) (cases_order place k);
    arc = λ k e. past k (ahead.arc k e) (λ same. none 405 (arc_breaks place (has_it (RepeatsAnEarlierArc p) (repeat_place found.arcs) place (e ∙ ap Some same) are.arc_repeat))) (cases_order place k);
  }
    where
      past : (k : ℕ) → place ≤ k → (k ≡ place → ⊥) → (place ≡ k) ⊎ ((place < k) ⊎ (k < place)) → place + 1 ≤ k
      past k h apart (inl same) = absurd (apart (sym same))
      past k h apart (inr (inl less)) = omega (arith, less)
      past k h apart (inr (inr more)) = omega (arith, h, more)

  -- the earlier record of what is broken first

  module _ (rule at : ℕ) (first : IsLeastBroken (BreaksTopologyRule p) rule at) where
    repeats_before : rule ≡ 403 → RepeatsAnEarlier p (at - 1)
    repeats_before is = go first.is
      where
        go : BreaksTopologyRule p rule at → RepeatsAnEarlier p (at - 1)
        go (starts_elsewhere e h) = absurd (omega (arith, is, e))
        go (ends_elsewhere e h) = absurd (omega (arith, is, e))
        go (repeats_node e h) = let here : h.1 ≡ at - 1 = omega (arith, h.2) in subst (RepeatsAnEarlier p) here (h.0, h.3, h.4)
        go (equals_reverse e h) = absurd (omega (arith, is, e))
        go (repeats_arc e h) = absurd (omega (arith, is, e))
        go (bounds_nothing e h) = absurd (omega (arith, is, e))

    repeats_arc_before : rule ≡ 405 → RepeatsAnEarlierArc p (at - 1)
    repeats_arc_before is = go first.is
      where
        go : BreaksTopologyRule p rule at → RepeatsAnEarlierArc p (at - 1)
        go (starts_elsewhere e h) = absurd (omega (arith, is, e))
        go (ends_elsewhere e h) = absurd (omega (arith, is, e))
        go (repeats_node e h) = absurd (omega (arith, is, e))
        go (equals_reverse e h) = absurd (omega (arith, is, e))
        go (repeats_arc e h) = let here : h.1 ≡ at - 1 = omega (arith, h.4) in subst (RepeatsAnEarlierArc p) here (h.0, h.2, h.3, h.5, h.6, h.7, h.8)
        go (bounds_nothing e h) = absurd (omega (arith, is, e))

    -- what breaks a rule isn't before
    not_before : (other k : ℕ) → BreaksTopologyRule p other (suc k) → at - 1 ≤ k
    not_before other k h = ⊎_elim (λ less. omega (arith, less)) (λ same. omega (arith, same.0)) (first.least other (suc k) h)

    module _ (found : RecordFindings) (are : AreRecordFindings p found) where
      pub earlier_node : rule ≡ 403 → IsEarlierByRule p rule (at - 1) (repeated_place found.nodes)
      earlier_node is = record {
        nodes = λ e. repeated_here (RepeatsAnEarlier p) (IsEqualNode p) found.nodes (at - 1) are.node_repeat are.node_earlier (repeats_before is) (λ k d. not_before 403 k (node_breaks k d));
        arcs = λ e. absurd (omega (arith, is, e));
        others = λ node arc. absurd (node is);
      }

      pub earlier_arc : rule ≡ 405 → IsEarlierByRule p rule (at - 1) (repeated_place found.arcs)
      earlier_arc is = record {
        nodes = λ e. absurd (omega (arith, is, e));
        arcs = λ e. repeated_here (RepeatsAnEarlierArc p) (SharesPoints p) found.arcs (at - 1) are.arc_repeat are.arc_earlier (repeats_arc_before is) (λ k d. not_before 405 k (arc_breaks k d));
        others = λ node arc. absurd (arc is);
      }
