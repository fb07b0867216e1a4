use Rattle.std.proofs.Common.{◌∙◌, ap}
use Rattle.edi_report.specs.declared.sheet.LocatedSheet.{LocatedSheet}
use Rattle.edi_plan.specs.Places.{places_of}
use Rattle.edi_report.proofs.Reported.{places_there}
use Rattle.edi_objects.proofs.account.ObjectReporter.push_second_elements.Goals as goal

pub push_second_element-requires : goal.push_second_element-requires
push_second_element-requires c =
    places_there c.args.kind c.args.self.now.report.second.accepted c.places-place-items.result.now c.loop-place.place-index
    (c.places-place-items.ensures ∙ ap (places_of c.args.kind) (c.plan.ensures ∙ ap (λ (s : LocatedSheet). s.accepted) c.second.ensures.sheet)) c.loop-place-test.true
