use Rattle.std.proofs.Common.{◌≡◌, ◌+◌, ◌-◌, ◌<◌, ◌≤◌, ℕ, length, slice_get}
use Rattle.edi_line.specs.inner.Lines.{line_contents}
use Rattle.edi_explain.specs.Barring.{IsBarredBy}
use Rattle.edi_explain.proofs.barring.barring_line.Given as goal

abbrev pub invariant-loop-refused : goal.invariant-loop-refused
invariant-loop-refused l = record {
  from_one : 1 ≤ l.number;
  left : (j : ℕ) → slice_get (line_contents l.fn.bytes) (l.number - 1 + j) ≡ slice_get (line_contents l.rest) j;
  none : (m : ℕ) → m < l.number → ¬ (IsBarredBy l.fn.bytes l.fn.rule l.fn.at m);
}

abbrev pub decreases-loop-refused : goal.decreases-loop-refused
decreases-loop-refused l = length l.rest
