use Rattle.std.proofs.Common.{◌≡◌, ℕ, ◌*◌, ◌≤◌, None, List, length}
use Rattle.std.specs.Io.KnownBytes.{Consumes}
use Rattle.edi_line.specs.Feeding.{StandsFor}
use Rattle.uses.proofs.feeding.zones_of_stream.Given as goal

-- what the feed stands for was taken off the stream, a byte or more with each read
abbrev pub invariant-loop-turn : goal.invariant-loop-turn
invariant-loop-turn g l =
    (b : List ℕ) × StandsFor b l.feed × (l.feed.refused ≡ None)
    × Consumes (g.R.ByteIn.contents l.initial.stream) (g.R.ByteIn.contents l.stream) b
    × (length b ≤ l._turn * 4096)
    × (l._turn ≤ length b)
