use Rattle.std.proofs.Common.{◌≡◌, drop}
use Rattle.std.specs.List.{list_any}
use Rattle.edi_answers.specs.Hashes.{is_escaped}
use Rattle.edi_answers.proofs.hashes.has_escape.Given as goal

abbrev pub invariant-loop-byte : goal.invariant-loop-byte
invariant-loop-byte l = list_any is_escaped (drop l.byte-index l.name) ≡ list_any is_escaped l.name
