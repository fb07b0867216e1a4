use Rattle.edi_record.specs.declared.record.Kind.TheVariants.{Lnk}
use Rattle.std.proofs.Common.{refl}
use Rattle.edi_picture.proofs.Joined.{places_there}
use Rattle.edi_drawing.proofs.Touched.{more_touched}
use Rattle.edi_drawing.proofs.tints.touched_records.Goals as goal

pub touch_by-requires : goal.touch_by-requires
touch_by-requires c =
    places_there Lnk c.args.plan.now c.places-link-items.result.now c.loop-link.link-index c.places-link-items.ensures c.loop-link-test.true

pub loop-link-preserved : goal.loop-link-preserved
loop-link-preserved c =
    more_touched c.args.marks.now c.args.plan.now c.places-link-items.result.now c.loop-link.link-index _ c.loop-link.touched.items c.touch_by.new.touched.items
    c.loop-link-test.true refl c.loop-link.invariant c.touch_by.ensures.length c.touch_by.ensures.each
