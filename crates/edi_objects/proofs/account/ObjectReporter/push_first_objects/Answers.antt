use Rattle.std.proofs.Common.{◌∙◌, ap}
use Rattle.edi_report.specs.declared.sheet.LocatedSheet.{LocatedSheet}
use Rattle.edi_plan.specs.Places.{places_of}
use Rattle.edi_report.proofs.Reported.{places_there}
use Rattle.edi_record.specs.declared.record.Kind.TheVariants.{Fea}
use Rattle.edi_objects.proofs.account.ObjectReporter.push_first_objects.Goals as goal

pub push_first_object-requires : goal.push_first_object-requires
push_first_object-requires c =
    places_there Fea c.args.self.now.report.first.accepted c.places-place-items.result.now c.loop-place.place-index
    (c.places-place-items.ensures ∙ ap (places_of Fea) (c.plan.ensures ∙ ap (λ (s : LocatedSheet). s.accepted) c.first.ensures.sheet)) c.loop-place-test.true
