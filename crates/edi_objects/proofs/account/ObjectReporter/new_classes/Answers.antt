use Rattle.std.proofs.Common.{◌∙◌, ap}
use Rattle.edi_record.specs.declared.record.Kind.TheVariants.{Fea}
use Rattle.edi_plan.specs.Places.{places_of}
use Rattle.edi_report.proofs.Reported.{places_there}
use Rattle.edi_report.specs.declared.sheet.LocatedSheet.{LocatedSheet}
use Rattle.edi_objects.proofs.account.ObjectReporter.new_classes.Goals as goal

pub is_reached-requires : goal.is_reached-requires
is_reached-requires c =
    places_there Fea c.args.self.now.report.second.accepted c.places-place-items.result.now c.loop-place.place-index
    (c.places-place-items.ensures ∙ ap (places_of Fea) (c.plan-plan.ensures ∙ ap (λ (s : LocatedSheet). s.accepted) c.second.ensures.sheet)) c.loop-place-test.true

pub push_class_if-requires : goal.push_class_if-requires
push_class_if-requires c =
    places_there Fea c.plan-plan.result.now c.places-place-items.result.now c.loop-place.place-index c.places-place-items.ensures c.loop-place-test.true
