use Rattle.std.proofs.Common.{◌∙◌, IsSorted, List, ap, get_or, subst, sym}
use Rattle.std.proofs.lemmas.Result.{IfOk-weaker}
use Rattle.edi_diff.specs.inner.Joints.{joint_cmp}
use Rattle.edi_diff.specs.inner.Keys.{joined_key, joined_key_cmp}
use Rattle.edi_diff.specs.inner.LonePairs.{AreByJoints, AreLonePairs, with_keys}
use Rattle.edi_diff.specs.inner.Progress.{open_codes, progress_of}
use Rattle.edi_diff.proofs.Alone.{keyed_more, proposed_by}
use Rattle.edi_diff.proofs.JoinedNames.{Joint}
use Rattle.edi_diff.proofs.proposing.Open.by_joints.Goals as goal

pub loop-code-preserved : goal.loop-code-preserved
loop-code-preserved c =
    let m = progress_of c.args.self.now in
    let code = get_or c.deref-code-items.result.now c.loop-code.code-index 0 in
    let same = c.deref.ensures.value in
    let sorted = subst (λ (joints : List Joint). IsSorted joint_cmp joints) (sym same) c.in_ok-joined.ensures.sorted in
    keyed_more (joined_key m c.in_ok-joined.joined.items) c.deref-code-items.result.now c.loop-code.code-index c.loop-code.pairs.items c.push_keyed.new.pairs.items c.in_ok-key.key
    c.loop-code-test.true c.loop-code.invariant (c.in_ok-key.ensures sorted ∙ ap (λ (joints : List Joint). joined_key m joints code) same) c.in_ok-push_keyed.ensures

pub returns : goal.returns
returns c =
    let m = progress_of c.args.self.now in
    let joints = c.in_ok-joined.joined.items in
    let key = joined_key m joints in
    IfOk-weaker c.lone_pairs.result (λ found. AreLonePairs joined_key_cmp (with_keys key (open_codes m)) found.items) (λ found. AreByJoints m found.items) (λ found lone. (joints, c.in_ok-joined.ensures, lone))
    (proposed_by joined_key_cmp (λ found. found.items) key c.deref-code-items.result.now (open_codes m) c.loop-code.code-index
    c.loop-code.pairs.items c.deref_mut.result.now c.lone_pairs.result c.deref_mut.ensures.value c.loop-code.invariant c.loop-code-test.false
    (c.deref-code-items.ensures.value ∙ c.in_ok-codes.ensures) c.lone_pairs.ensures)
