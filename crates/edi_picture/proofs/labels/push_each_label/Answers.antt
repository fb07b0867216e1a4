use Rattle.std.proofs.Common.{◌∙◌, ◌<◌, ℕ, ap, get_or, subst, sym}
use Rattle.edi_plan.specs.Places.{places_of}
use Rattle.edi_record.specs.declared.record.Kind.TheVariants.{Pfe}
use Rattle.edi_picture.proofs.ArcsRound.{list_at}
use Rattle.edi_picture.proofs.Joined.{places_there}
use Rattle.edi_picture.proofs.labels.push_each_label.Goals as goal

pub push_label-requires-clause-place : goal.push_label-requires-clause-place
push_label-requires-clause-place c =
    places_there Pfe c.args.sheet.now.plan c.places-place-items.result.now c.loop-place.place-index (c.places-place-items.ensures ∙ ap (places_of Pfe) c.plan.ensures)
    c.loop-place-test.true

pub bounds-rounds-place : goal.bounds-rounds-place
bounds-rounds-place c =
    subst (λ (n : ℕ). get_or c.places-place-items.result.now c.loop-place.place-index 0 < n) (sym c.requires.rounds.long)
    (places_there Pfe c.args.sheet.now.plan c.places-place-items.result.now c.loop-place.place-index (c.places-place-items.ensures ∙ ap (places_of Pfe) c.plan.ensures)
    c.loop-place-test.true)

pub push_label-requires-clause-arcs : goal.push_label-requires-clause-arcs
push_label-requires-clause-arcs c =
    let place = get_or c.places-place-items.result.now c.loop-place.place-index 0 in
    let there = places_there Pfe c.args.sheet.now.plan c.places-place-items.result.now c.loop-place.place-index (c.places-place-items.ensures ∙ ap (places_of Pfe) c.plan.ensures)
    c.loop-place-test.true in
    c.deref.ensures.value
    ∙ (list_at c.args.rounds.now place c.index-rounds-place.result (subst (λ (n : ℕ). place < n) (sym c.requires.rounds.long) there) c.index-rounds-place.is
    ∙ c.requires.rounds.each place there)
