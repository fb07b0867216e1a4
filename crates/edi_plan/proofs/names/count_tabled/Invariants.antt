use Rattle.std.proofs.Common.{◌≡◌, ◌≤◌, length, take}
use Rattle.edi_plan.specs.inner.Names.{tabled}
use Rattle.edi_plan.proofs.names.count_tabled.Given as goal

abbrev pub invariant-loop-place : goal.invariant-loop-place
invariant-loop-place l = record {
  count : l.count ≡ length (tabled l.links_rise (take l.place l.records));
  few : l.count ≤ l.place;
}
