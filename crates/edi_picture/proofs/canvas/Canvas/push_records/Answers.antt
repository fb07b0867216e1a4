use Rattle.std.proofs.Common.{◌∙◌, ap}
use Rattle.edi_plan.specs.Places.{places_of}
use Rattle.edi_picture.proofs.Joined.{places_there}
use Rattle.edi_picture.proofs.canvas.Canvas.push_records.Goals as goal

pub push_record-requires-clause-place : goal.push_record-requires-clause-place
push_record-requires-clause-place c =
    places_there c.args.kind c.args.sheet.now.plan c.places-place-items.result.now c.loop-place.place-index (c.places-place-items.ensures ∙ ap (places_of c.args.kind) c.plan.ensures) c.loop-place-test.true
