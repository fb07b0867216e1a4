use Rattle.std.proofs.Common.{◌≡◌, ◌∙◌, ◌+◌, ℕ, Bool, List, sym, subst, ap, length, get_or}
use Rattle.std.proofs.lemmas.Result.{IfOk-weaker}
use Rattle.edi_record.specs.declared.record.Kind.TheVariants.{Fea}
use Rattle.edi_plan.specs.Places.{places_of}
use Rattle.edi_plan.specs.Plans.{PlanData}
use Rattle.edi_topo.specs.Marks.{AreMarksOf, IsPlaceOfMark}
use Rattle.edi_topo.specs.Ranking.{Ties}
use Rattle.edi_topo.proofs.MarksPlaced.{places_within}
use Rattle.edi_rank.specs.EqualObjects.{BreaksObjectRule}
use Rattle.edi_rank.specs.Keys.{object_key_cmp}
use Rattle.edi_rank.specs.Pieces.{ObjectSource, object_key_at}
use Rattle.edi_rank.specs.declared.keys.ObjectKey.{ObjectKey}
use Rattle.edi_rank.specs.contracts.keys.ObjectKeyOrd.TheImpl.{ghosts as objects}
use Rattle.edi_rank.proofs.KeyOrders.{object_order}
use Rattle.edi_rank.proofs.ObjectTies.{marks_break}
use Rattle.edi_rank.proofs.Rankings.{marks_by}
use Rattle.edi_rank.proofs.repeated.tied_objects.Goals as goal

pub marks_by_place-requires-clause-long : goal.marks_by_place-requires-clause-long
marks_by_place-requires-clause-long c =
    ap length c.deref.ensures.value ∙ (c.in_ok-tied.ensures.all
    ∙ (ap (λ p. length (places_of Fea p)) (c.requires.plan ∙ sym c.plan-plan.ensures.plan) ∙ ap length (sym c.places.ensures)))

pub marks_by_place-requires-clause-within : goal.marks_by_place-requires-clause-within
marks_by_place-requires-clause-within c = places_within Fea c.plan-plan.result.now c.places.result.now c.len.result c.places.ensures c.len.ensures

-- the layer is of this plan
of_plan : (l : ObjectSource) (p : PlanData) → l.plan ≡ p → l ≡ record { plan = p; numbers = l.numbers }
of_plan l p e = λ i. record { plan = e i; numbers = l.numbers }

abbrev key_at : ObjectSource → ℕ → ObjectKey
key_at l m = object_key_at l (get_or (places_of Fea l.plan) m 0)

abbrev AreTied : ObjectSource → List Bool → Type 0
AreTied l marks = AreMarksOf (length (places_of Fea l.plan)) (Ties objects.cmp (key_at l) (length (places_of Fea l.plan))) marks

pub returns : goal.returns
returns c =
    let p = c.args.sound.now in
    let l = c.args.layer.now in
    let marks = c.in_ok-tied.tied.items in
    let tied : AreTied (record { plan = p; numbers = l.numbers }) marks = subst (λ q. AreTied q marks) (of_plan l p c.requires.plan) c.in_ok-tied.ensures in
    let by_written = marks_by objects.cmp object_key_cmp object_order (key_at (record { plan = p; numbers = l.numbers })) (length (places_of Fea p)) marks tied in
    IfOk-weaker c.marks_by_place.result (λ by_place. AreMarksOf c.len.result (IsPlaceOfMark c.places.result.now c.deref.result.now) by_place.items)
    (λ by_place. AreMarksOf (length p.list) (λ k. BreaksObjectRule p 501 (k + 1)) by_place.items)
    (λ by_place placed. marks_break p c.plan-plan.ensures.whole (λ k. get_or l.numbers k 0) c.requires.apart marks c.deref.result.now by_place.items c.places.result.now c.len.result
    c.deref.ensures.value (c.places.ensures ∙ ap (places_of Fea) c.plan-plan.ensures.plan) (c.len.ensures ∙ ap (λ (q : PlanData). length q.list) c.plan-plan.ensures.plan) by_written placed) c.marks_by_place.ensures
