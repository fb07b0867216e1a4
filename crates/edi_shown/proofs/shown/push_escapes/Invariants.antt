use Rattle.std.proofs.Common.{◌≡◌, ◌++◌, drop}
use Rattle.std.specs.List.{flat_map}
use Rattle.edi_shown.specs.Shown.{escape}
use Rattle.edi_shown.proofs.shown.push_escapes.Given as goal

abbrev pub invariant-loop-byte : goal.invariant-loop-byte
invariant-loop-byte l = l.text.items ++ flat_map escape (drop l.byte-index l.bytes) ≡ l.fn.text.items ++ flat_map escape l.bytes
