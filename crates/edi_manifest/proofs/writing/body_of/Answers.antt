use Rattle.std.proofs.Common.{◌∙◌}
use Rattle.edi_manifest.proofs.SameLines.{body_more}
use Rattle.edi_manifest.proofs.writing.body_of.Goals as goal

pub loop-text-preserved : goal.loop-text-preserved
loop-text-preserved c =
    body_more c.loop-text.body.items c.extend_from_slice.new.self.items c.as_slice.result.now c.deref-text-items.result.now c.loop-text.text-index c.text-item.result
    c.loop-text-test.true c.loop-text.invariant (c.as_slice.ensures ∙ c.text-item.is) c.in_ok-extend_from_slice.ensures.items
