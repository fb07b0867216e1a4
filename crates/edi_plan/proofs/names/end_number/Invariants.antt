use Rattle.std.proofs.Common.{◌≡◌, take}
use Rattle.std.specs.List.{fold}
use Rattle.edi_plan.specs.inner.LinkNames.{with_digit}
use Rattle.edi_plan.proofs.names.end_number.Given as goal

abbrev pub invariant-loop-byte : goal.invariant-loop-byte
invariant-loop-byte l = l.number ≡ fold with_digit 0 (take l.byte-index l.rid)
