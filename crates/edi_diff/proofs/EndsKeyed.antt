-- The key of a link, by what is found of it.
use Rattle.std.proofs.Common.{◌≡◌, ◌∙◌, ℕ, ◌<◌, Bool, true, ◌&&◌, cond, List, map, length, Option, Some, None, option_map, sym, ap, subst, lt-ltb}
use Rattle.edi_plan.specs.Plans.{PlanData, IsPlace, record_at}
use Rattle.edi_plan.specs.declared.record.PlanEnd.{PlanEnd}
use Rattle.edi_diff.specs.declared.proposing.LinkClass.{LinkClass}
use Rattle.edi_diff.specs.inner.Codes.{is_of_second, place_by}
use Rattle.edi_diff.specs.inner.Keys.{all_known, named_ends_key, is_there}
use Rattle.edi_record.specs.Records.{is_link}
use Rattle.edi_diff.specs.inner.Joints.{record_by}
use Rattle.edi_diff.specs.inner.Progress.{ChangesSoFar, link_class_at, known_name, plan_of}

module _ (m : ChangesSoFar) (code : ℕ) (p : PlanData) (p_is : p ≡ plan_of m (is_of_second code)) (place : ℕ) (place_is : place ≡ place_by code) (here : place < length p.list) (link : is_link (record_at p place).kind ≡ true) where
  abbrev names_by : List PlanEnd → Option (List ℕ)
  names_by ends = all_known (map (λ end. known_name m (is_of_second code) end.target) ends)

  abbrev with_class : List ℕ → LinkClass × List ℕ
  with_class names = (link_class_at m (is_of_second code) (place_by code), names)

  test_is : (is_there (plan_of m (is_of_second code)) (place_by code) && is_link (record_by m code).kind) ≡ true
  test_is =
      let there : is_there p place ≡ true = lt-ltb place (length p.list) here in
      let back : (is_there (plan_of m (is_of_second code)) (place_by code) && is_link (record_by m code).kind) ≡ (is_there p place && is_link (record_at p place).kind) =
      λ i. is_there (sym p_is i) (sym place_is i) && is_link (record_at (sym p_is i) (sym place_is i)).kind in
      back ∙ (λ i. there i && link i)

  pub ends_key_is : (s t : Bool) → s ≡ is_of_second code → t ≡ is_of_second code → (ends : List PlanEnd) → ends ≡ (record_at p place).ends → (class : LinkClass) (names : List ℕ)
      → (IsPlace (plan_of m t) place → class ≡ link_class_at m t place) → Some names ≡ all_known (map (λ end. known_name m s end.target) ends) → Some (class, names) ≡ named_ends_key m code
  ends_key_is s t s_is t_is ends ends_is class names class_of known =
      let there : IsPlace (plan_of m t) place = subst (λ (b : Bool). IsPlace (plan_of m b) place) (sym t_is) (subst (λ (q : PlanData). IsPlace q place) p_is here) in
      let class_is : class ≡ link_class_at m (is_of_second code) (place_by code) = class_of there ∙ (λ i. link_class_at m (t_is i) (place_is i)) in
      let all_ends : ends ≡ (record_by m code).ends = ends_is ∙ (λ i. (record_at (p_is i) (place_is i)).ends) in
      let all : Some names ≡ names_by (record_by m code).ends = known ∙ ((λ i. all_known (map (λ (end : PlanEnd). known_name m (s_is i) end.target) ends)) ∙ ap names_by all_ends) in
      let first : Some (class, names) ≡ option_map with_class (Some names) = λ i. Some (class_is i, names) in
      first ∙ (ap (option_map with_class) all ∙ sym (ap (λ b. cond b (option_map with_class (names_by (record_by m code).ends)) None) test_is))
