use Rattle.std.proofs.Common.{◌≡◌, ◌∙◌, ℕ, [], arith, ap, sym, subst, length, get_or, true, unwrap_or, None, refl}
use Rattle.std.proofs.lemmas.List.{length-map}
use Rattle.edi_line.proofs.EachElement.{each_from_places}
use Rattle.edi_record.specs.declared.record.Kind.TheVariants.{Pfe}
use Rattle.edi_plan.specs.Joined.{IsJoined}
use Rattle.edi_plan.specs.Places.{places_of, member_of}
use Rattle.edi_plan.specs.Plans.{IsPlace, is_arc, record_at}
use Rattle.edi_plan.specs.Whole.{IsWholePlan}
use Rattle.edi_plan.proofs.PlaceLemmas.{places_few, place_there}
use Rattle.edi_rank.specs.Keys.{least_side}
use Rattle.edi_rank.specs.Layers.{forward_plan, no_side, number_by, ranked, face_keys}
use Rattle.edi_rank.specs.Turned.{is_backward}
use Rattle.edi_rank.proofs.Sided.{arc_is, least_equal}
use Rattle.edi_rank.proofs.SameLaws.{map_alike}
use Rattle.edi_rank.proofs.face_layer.FaceLayer.with_turned_arcs.Goals as goal

pub invariant_of-result : goal.invariant_of-result
invariant_of-result c =
    let p = c.plan-plan.result.now in
    let whole : IsWholePlan p = subst IsWholePlan (sym c.plan-plan.ensures.plan) c.plan-plan.ensures.whole in
    let long : length c.from_vec.result ≡ length (places_of Pfe p) = ap length (c.from_vec.ensures ∙ c.in_ok-keys.ensures) ∙ length-map (places_of Pfe p) (λ k. unwrap_or (get_or c.deref-2.result.now k None) no_side) in
    omega (arith, long, places_few Pfe p, whole.few)

pub returns : goal.returns
returns c =
    let p = c.plan-plan.result.now in
    let arcs = c.args.arcs.now in
    let whole : IsWholePlan p = subst IsWholePlan (sym c.plan-plan.ensures.plan) c.plan-plan.ensures.whole in
    let joined : IsJoined p = subst IsJoined (sym c.plan-plan.ensures.plan) c.plan-plan.ensures.joined in
    let agree : (k : ℕ) → IsPlace p k → is_arc (record_at p k).kind ≡ true → get_or c.deref.result.now k 0 ≡ ranked p [] arcs [] k = λ k h e.
    let par = arc_is (record_at p k).kind e in
    ap (λ xs. get_or xs k 0) c.deref.ensures.value ∙ (c.number_kind-numbers.ensures.each k h par ∙ sym (ap (λ kind. number_by [] arcs [] kind (member_of p k)) par)) in
    c.from_vec.ensures ∙ (c.in_ok-keys.ensures
    ∙ (map_alike (IsPlace p) (λ k. unwrap_or (get_or c.deref-2.result.now k None) no_side) (λ k. unwrap_or (least_side (forward_plan p) (ranked p [] arcs []) k) no_side)
    (λ k h. ap (λ o. unwrap_or o no_side) (ap (λ xs. get_or xs k None) c.deref-2.ensures.value ∙ (c.in_ok-sides.ensures.least k h
    ∙ least_equal p whole joined (λ c. c) (λ c. c) (is_backward p) (is_backward p) (λ k h. refl) (λ k h. refl) (λ k. get_or c.deref.result.now k 0) (ranked p [] arcs []) agree k)))
    (places_of Pfe p) (each_from_places (IsPlace p) (places_of Pfe p) 0 (λ m h. place_there Pfe p m h))
    ∙ ap (λ q. face_keys q arcs) c.plan-plan.ensures.plan))
