use Rattle.std.proofs.Common.{◌≢◌, ℕ, ◌<◌}
use Rattle.edi_pairing.specs.Names.{name_at}
use Rattle.edi_pairing.proofs.wrong.has_identifier.Given as goal

abbrev pub invariant-loop-name : goal.invariant-loop-name
invariant-loop-name l = (k : ℕ) → k < l.name-index → (name_at l.names k).rid ≢ l.rid
