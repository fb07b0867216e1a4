use Rattle.std.proofs.Common.{◌≡◌, ◌≤◌, ◌+◌, length, take, drop}
use Rattle.edi_line.specs.inner.AllBroken.{HoldsBroken}
use Rattle.edi_line.specs.inner.Zones.{readings_of}
use Rattle.edi_line.proofs.broken.broken_lines.Given as goal

abbrev pub invariant-loop-rest : goal.invariant-loop-rest
invariant-loop-rest l = record {
  holds : HoldsBroken (take l.broken.line (readings_of l.fn.bytes)) l.broken;
  left : drop l.broken.line (readings_of l.fn.bytes) ≡ readings_of l.rest;
  room : l.broken.line + length l.rest ≤ length l.fn.bytes;
}

abbrev pub decreases-loop-rest : goal.decreases-loop-rest
decreases-loop-rest l = length l.rest
