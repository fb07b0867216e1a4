use Rattle.edi_record.specs.declared.record.Kind.TheVariants.{Lnk}
use Rattle.std.proofs.Common.{refl}
use Rattle.edi_picture.proofs.Joined.{places_there}
use Rattle.edi_drawing.proofs.Labelled.{more_callers}
use Rattle.edi_drawing.proofs.labels.callers_of.Goals as goal

pub call_all-requires-clause-link : goal.call_all-requires-clause-link
call_all-requires-clause-link c =
    places_there Lnk c.args.plan.now c.places-link-items.result.now c.loop-link.link-index c.places-link-items.ensures c.loop-link-test.true

pub loop-link-preserved : goal.loop-link-preserved
loop-link-preserved c =
    more_callers c.args.schema.now c.args.plan.now c.places-link-items.result.now c.loop-link.link-index _ c.loop-link.callers.items c.call_all.new.callers.items
    c.loop-link-test.true refl c.loop-link.invariant c.call_all.ensures.length c.call_all.ensures.each
