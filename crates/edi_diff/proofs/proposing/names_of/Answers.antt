use Rattle.std.proofs.Common.{◌≡◌, ◌∙◌, ℕ, [], ap, arith, drop, ltb, rules}
use Rattle.std.proofs.lemmas.List.Sorted.{IsPartitionPoint-from_clause, IsPartitionedBy-ltb}
use Rattle.edi_diff.specs.inner.Joints.{joined_with}
use Rattle.edi_diff.proofs.JoinedNames.{Joint, codes_rise, name_more, names_done, names_over, names_stop}
use Rattle.edi_diff.proofs.proposing.names_of.Goals.{else-loop-of-test, then-loop-of-test+then-of-code}
use Rattle.edi_diff.proofs.proposing.names_of.Goals as goal

pub returns : goal.returns
returns c = λ sorted.
    let joints = c.args.joined.now in
    let code = c.args.code in
    let first = c.partition_point-at.result in
    let behind = c.split_at.result.1.now in
    let n = c.loop-of.of-index in
    let parts = IsPartitionPoint-from_clause (λ (x : Joint). ltb x.0 code) joints first c.partition_point-at.ensures.partitioned
    (IsPartitionedBy-ltb (λ (x : Joint). x.0) joints code (codes_rise joints sorted)) (λ a r f called. search rules) in
    let cut : c.min.result ≡ first = omega (arith, c.min.ensures, c.partition_point-at.ensures.bound) in
    let is : behind ≡ drop first joints = c.split_at.ensures.back ∙ ap (λ (k : ℕ). drop k joints) cut in
    let over : joined_with (drop n behind) code ≡ [] = elim c.loop-of-test.branch [
      | else-loop-of-test w ↦ names_over code behind n w.loop-of-test.false
      | then-loop-of-test+then-of-code w ↦ names_stop code joints behind first n is sorted parts.1 w.loop-of-item.result w.loop-of-test.true w.loop-of-item.is w.if-of-code.true
    ] in
    names_done code joints behind first n c.loop-of.names.items is parts.0 over c.loop-of.invariant

pub loop-of-preserved : goal.loop-of-preserved
loop-of-preserved c =
    name_more c.args.code c.split_at.result.1.now c.loop-of.of-index c.loop-of.names.items c.push.new.self.items c.loop-of-item.result c.loop-of-test.true c.loop-of-item.is c.if-of-code.false
    c.in_ok-push.ensures.items c.loop-of.invariant
