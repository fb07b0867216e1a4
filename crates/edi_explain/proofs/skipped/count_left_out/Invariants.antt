use Rattle.std.proofs.Common.{◌≡◌, ◌+◌, ◌≤◌, count_by, length}
use Rattle.edi_line.specs.inner.Zones.{readings_of}
use Rattle.edi_explain.specs.Skipped.{remarks_in}
use Rattle.edi_explain.specs.inner.Skipped.{is_quality_line}
use Rattle.edi_explain.proofs.Remarks.{AreFine}
use Rattle.edi_explain.proofs.skipped.count_left_out.Given as goal

abbrev pub invariant-loop-rest : goal.invariant-loop-rest
invariant-loop-rest l = record {
  quality : l.quality + count_by is_quality_line (readings_of l.rest) ≡ count_by is_quality_line (readings_of l.fn.bytes);
  remarks : l.remarks + remarks_in (readings_of l.rest) ≡ remarks_in (readings_of l.fn.bytes);
  few_quality : l.quality + length l.rest ≤ length l.fn.bytes;
  few_remarks : l.remarks + length l.rest ≤ length l.fn.bytes;
  fine : AreFine l.rest;
}

abbrev pub decreases-loop-rest : goal.decreases-loop-rest
decreases-loop-rest l = length l.rest
