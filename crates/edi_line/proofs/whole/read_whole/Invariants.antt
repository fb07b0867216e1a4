use Rattle.std.proofs.Common.{◌≡◌, ◌+◌, ◌≤◌, length, ◌-◌}
use Rattle.std.specs.Io.KnownBytes.{Consumes}
use Rattle.edi_line.proofs.whole.read_whole.Given as goal

-- what was taken off the known bytes is what is stored, one byte or more a call, of the same device
abbrev pub invariant-loop-gathered : goal.invariant-loop-gathered
invariant-loop-gathered g l =
    (length (g.G.Gathering.bytes l.gathered) ≤ l.limit)
    × Consumes (g.R.ByteIn.contents l.initial.reader) (g.R.ByteIn.contents l.reader) (g.G.Gathering.bytes l.gathered)
    × (g.R.ByteIn.reads l.reader ≤ g.R.ByteIn.reads l.initial.reader + length (g.G.Gathering.bytes l.gathered))
    × (g.R.ByteIn.device l.reader ≡ g.R.ByteIn.device l.initial.reader)

abbrev pub decreases-loop-gathered : goal.decreases-loop-gathered
decreases-loop-gathered g l = l.limit + 1 - length (g.G.Gathering.bytes l.gathered)
