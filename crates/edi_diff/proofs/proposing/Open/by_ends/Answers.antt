use Rattle.std.proofs.Common.{◌∙◌}
use Rattle.edi_diff.specs.inner.Keys.{named_ends_key, ends_key_cmp}
use Rattle.edi_diff.specs.inner.Progress.{open_codes, progress_of}
use Rattle.edi_diff.proofs.Alone.{proposed_by}
use Rattle.edi_diff.proofs.proposing.Open.by_ends.Goals as goal

pub returns : goal.returns
returns c =
    let m = progress_of c.args.self.now in
    proposed_by ends_key_cmp (λ found. found.items) (named_ends_key m) c.deref-code-items.result.now (open_codes m) c.loop-code.code-index
    c.loop-code.pairs.items c.deref_mut.result.now c.lone_pairs.result c.deref_mut.ensures.value c.loop-code.invariant c.loop-code-test.false
    (c.deref-code-items.ensures.value ∙ c.in_ok-codes.ensures) c.lone_pairs.ensures
