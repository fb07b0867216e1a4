use Rattle.std.proofs.Common.{◌∙◌, ℕ}
use Rattle.edi_diff.specs.inner.Codes.{is_of_second, place_by}
use Rattle.edi_diff.specs.inner.Keys.{contents_key, contents_key_cmp}
use Rattle.edi_diff.specs.inner.Progress.{open_codes, plan_of, progress_of}
use Rattle.edi_diff.proofs.Alone.{keyed_more, proposed_by}
use Rattle.edi_diff.proofs.proposing.Open.by_contents.Goals as goal

pub returns : goal.returns
returns c =
    let m = progress_of c.args.self.now in
    proposed_by contents_key_cmp (λ found. found.items) (λ (code : ℕ). contents_key (plan_of m (is_of_second code)) (place_by code)) c.deref-code-items.result.now (open_codes m) c.loop-code.code-index
    c.loop-code.pairs.items c.deref_mut.result.now c.lone_pairs.result c.deref_mut.ensures.value c.loop-code.invariant c.loop-code-test.false
    (c.deref-code-items.ensures.value ∙ c.in_ok-codes.ensures) c.lone_pairs.ensures

pub loop-code-preserved : goal.loop-code-preserved
loop-code-preserved c =
    let m = progress_of c.args.self.now in
    keyed_more (λ (code : ℕ). contents_key (plan_of m (is_of_second code)) (place_by code)) c.deref-code-items.result.now c.loop-code.code-index c.loop-code.pairs.items c.push_keyed.new.pairs.items c.in_ok-key.key
    c.loop-code-test.true c.loop-code.invariant (c.in_ok-key.ensures ∙ (λ i. contents_key (c.side.ensures i) (c.place_of.ensures i))) c.in_ok-push_keyed.ensures
