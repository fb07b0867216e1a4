use Rattle.std.proofs.Common.{◌≡◌, ◌++◌, drop}
use Rattle.edi_answers.specs.Hashes.{escaped_name}
use Rattle.edi_answers.proofs.hashes.escape_name.Given as goal

abbrev pub invariant-loop-byte : goal.invariant-loop-byte
invariant-loop-byte l = l.text.items ++ escaped_name (drop l.byte-index l.name) ≡ escaped_name l.name
