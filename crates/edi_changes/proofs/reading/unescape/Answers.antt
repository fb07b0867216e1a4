use Rattle.std.proofs.Common.{◌∙◌}
use Rattle.std.proofs.lemmas.Result.{IfOk-weaker}
use Rattle.edi_changes.proofs.ReadLists.{all_named, more_named}
use Rattle.edi_changes.proofs.reading.unescape.Goals as goal

pub loop-byte-preserved : goal.loop-byte-preserved
loop-byte-preserved c = λ name e.
    more_named name c.loop-byte.name.items c.loop-byte.rest.now (c.loop-byte.invariant name e) c.in-Some.byte c.in-Some.behind.now c.in-Some.ensures.shorter c.in-Some.ensures.finds
    c.push.new.self.items c.in_ok-push.ensures.items

pub returns : goal.returns
returns c = IfOk-weaker c.from_slice.result _ _ (λ t is name e.
    is ∙ (c.deref.ensures.value ∙ all_named name c.loop-byte.name.items c.loop-byte.rest.now (c.loop-byte.invariant name e) c.in_default.ensures.finds)) c.from_slice.ensures
