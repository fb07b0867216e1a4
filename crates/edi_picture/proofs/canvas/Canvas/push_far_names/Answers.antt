use Rattle.std.proofs.Common.{◌∙◌, ap}
use Rattle.edi_plan.specs.Places.{places_of}
use Rattle.edi_record.specs.declared.record.Kind.TheVariants.{Pno}
use Rattle.edi_picture.proofs.Joined.{places_there}
use Rattle.edi_picture.proofs.canvas.Canvas.push_far_names.Goals as goal

pub is_far-requires : goal.is_far-requires
is_far-requires c =
    places_there Pno c.args.sheet.now.plan c.places-place-items.result.now c.loop-place.place-index (c.places-place-items.ensures ∙ ap (places_of Pno) c.plan.ensures) c.loop-place-test.true

pub push_far_name-requires-clause-place : goal.push_far_name-requires-clause-place
push_far_name-requires-clause-place c =
    places_there Pno c.args.sheet.now.plan c.places-place-items.result.now c.loop-place.place-index (c.places-place-items.ensures ∙ ap (places_of Pno) c.plan.ensures) c.loop-place-test.true
