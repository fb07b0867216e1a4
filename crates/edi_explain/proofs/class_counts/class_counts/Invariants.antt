use Rattle.std.proofs.Common.{◌≡◌, ◌<◌, ◌≤◌, ℕ, length, get_or}
use Rattle.edi_explain.proofs.ClassCounted.{counted}
use Rattle.edi_explain.proofs.class_counts.class_counts.Given as goal

abbrev pub invariant-loop-place : goal.invariant-loop-place
invariant-loop-place l = record {
  long : length l.counts.items ≡ length l.fn.schema;
  few : (k : ℕ) → get_or l.counts.items k 0 ≤ l.place;
  each : (k : ℕ) → k < length l.fn.schema → get_or l.counts.items k 0 ≡ counted l.fn.plan.list k l.place;
}
