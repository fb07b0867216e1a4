use Rattle.edi_report.proofs.EachPlace.{one_value_more}
use Rattle.edi_report.proofs.values.values_of_places.Goals as goal

pub loop-place-preserved : goal.loop-place-preserved
loop-place-preserved g c = λ f gives.
    one_value_more f c.loop-place.place c.loop-place.values.items c.push.new.self.items c.value.result (c.loop-place.invariant f gives)
    (gives c.loop-place.place c.loop-place-test.true c.value.result c.value.ensures) c.in_ok-push.ensures.items
