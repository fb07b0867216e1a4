use Rattle.edi_report.proofs.Reported.{places_there}
use Rattle.edi_record.specs.declared.record.Kind.TheVariants.{Fea}
use Rattle.edi_objects.proofs.account.ObjectReporter.gone_classes.Goals as goal

pub push_class_if-requires : goal.push_class_if-requires
push_class_if-requires c =
    places_there Fea c.plan-plan.result.now c.places-place-items.result.now c.loop-place.place-index c.places-place-items.ensures c.loop-place-test.true
