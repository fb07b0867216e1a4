use Rattle.std.proofs.Common.{◌∙◌, sym, length}
use Rattle.std.proofs.lemmas.Slice.Zip.{zip_end}
use Rattle.edi_compare.proofs.Differing.{differ_end}
use Rattle.edi_compare.proofs.difference.difference_behind.Goals as goal

pub returns-else-first-second : goal.returns-else-first-second
returns-else-first-second c =
    let a = c.args.first.now in
    let b = c.args.second.now in
    let at = zip_end a b c.loop-a.yielded c.into_iter-a-iterator.result c.loop-a.a-iterator c.next.new.self _ (cc) (cc) c.loop-a.yielded_by c.in-None.is c.next.ensures.steps in
    sym (differ_end c.loop-a.line a b (length c.loop-a.yielded) at c.if-first-second.false) ∙ c.loop-a.invariant.1
