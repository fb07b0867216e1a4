use Rattle.std.proofs.Common.{◌≡◌, drop, length}
use Rattle.edi_plan.specs.inner.Findings.{AreSided, EachAt, IsLinkFinding}
use Rattle.edi_plan.specs.inner.Targets.{AreTargets}
use Rattle.edi_plan.proofs.link_findings.link_findings.Given as goal

abbrev pub invariant-loop-place : goal.invariant-loop-place
invariant-loop-place l = record {
  left : AreTargets l.records (drop l.place l.records) l.left;
  sided : AreSided l.schema l.records l.place l.sides.items;
  long : length l.found.items ≡ l.place;
  each : EachAt (IsLinkFinding l.schema l.records) l.found.items;
}
