use Rattle.std.proofs.Common.{◌∙◌, ap}
use Rattle.edi_plan.specs.Places.{places_of}
use Rattle.edi_report.specs.Reports.{Report}
use Rattle.edi_report.proofs.Reported.{places_there}
use Rattle.edi_json.proofs.differences.push_seconds.Goals as goal

pub push_second-requires : goal.push_second-requires
push_second-requires c =
    places_there c.args.kind c.args.report.now.second.accepted c.places-place-items.result.now c.loop-place.place-index
    (c.places-place-items.ensures ∙ ap (λ (r : Report). places_of c.args.kind r.second.accepted) c.report.view_is) c.loop-place-test.true
