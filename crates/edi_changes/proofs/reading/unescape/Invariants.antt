use Rattle.std.proofs.Common.{◌≡◌, ℕ, List, length}
use Rattle.edi_answers.specs.Hashes.{escaped_name}
use Rattle.edi_changes.proofs.ReadLists.{NamedUpTo}
use Rattle.edi_changes.proofs.reading.unescape.Given as goal

abbrev pub invariant-loop-byte : goal.invariant-loop-byte
invariant-loop-byte l = (name : List ℕ) → l.fn.text ≡ escaped_name name → NamedUpTo name l.name.items l.rest

abbrev pub decreases-loop-byte : goal.decreases-loop-byte
decreases-loop-byte l = length l.rest
