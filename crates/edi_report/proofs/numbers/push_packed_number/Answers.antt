use Rattle.std.proofs.Common.{ℕ, List, ◌-◌, ◌∙◌, ◌++◌, ap, sym}
use Rattle.edi_report.specs.inner.Packing.{packed_number}
use Rattle.edi_report.proofs.Packings.{packed_pushed, packed_small}
use Rattle.edi_report.proofs.numbers.push_packed_number.Goals as goal

pub loop-left-preserved : goal.loop-left-preserved
loop-left-preserved c =
    ap (λ (bytes : List ℕ). bytes ++ packed_number (c.loop-left.left - 255)) c.in_ok-push.ensures.items ∙ (packed_pushed c.loop-left.bytes.items c.loop-left.left c.loop-left-test.true ∙ c.loop-left.invariant)

pub returns : goal.returns
returns c =
    c.in_ok-push-2.ensures.items ∙ (ap (λ (bytes : List ℕ). c.loop-left.bytes.items ++ bytes) (sym (packed_small c.loop-left.left c.loop-left-test.false)) ∙ c.loop-left.invariant)
