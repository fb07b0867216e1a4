use Rattle.std.proofs.Common.{◌≡◌, take}
use Rattle.std.specs.List.{fold}
use Rattle.edi_plan.specs.inner.Hints.{with_bits}
use Rattle.edi_plan.proofs.name_hints.all_bytes.Given as goal

abbrev pub invariant-loop-byte : goal.invariant-loop-byte
invariant-loop-byte l = l.number ≡ fold with_bits 0 (take l.byte-index l.text)
