use Rattle.std.proofs.Common.{ℕ, ◌<◌}
use Rattle.edi_topo.specs.inner.AtRecord.{AreNotBefore, IsUnbrokenAt}
use Rattle.edi_topo.proofs.at_record.first_broken.Given as goal

abbrev pub invariant-loop-place : goal.invariant-loop-place
invariant-loop-place l = record {
  before : (k : ℕ) → k < l.place → IsUnbrokenAt l.plan k;
  ahead : AreNotBefore l.findings l.place;
}
