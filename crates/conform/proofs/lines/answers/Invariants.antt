use Rattle.std.proofs.Common.{ℕ, ◌≤◌, ◌<◌, ◌^◌, List, length}
use Rattle.edi_line.proofs.Feeds.{StandsUnless}
use Rattle.conform.proofs.lines.answers.Given as goal

-- the bytes of the pieces so far
abbrev pub invariant-loop-piece : goal.invariant-loop-piece
invariant-loop-piece l = (b : List ℕ) × StandsUnless b l.feed × (length b ≤ l.length) × (l.length < 2 ^ 32)
