use Rattle.std.proofs.Common.{◌+◌, ◌<◌, ◌^◌, ◌++◌, List, length}
use Rattle.edi_line.specs.ZoneData.{ZoneData}
use Rattle.edi_line.specs.Spelling.{Reading}
use Rattle.edi_line.specs.inner.HandingOn.{IsAtLines, WentOn}
use Rattle.edi_line.specs.inner.Zones.{readings_of}
use Rattle.edi_line.proofs.groups.read_lines.Given as goal

abbrev pub invariant-loop-rest : goal.invariant-loop-rest
invariant-loop-rest g l = record {
  went : (lines left : List Reading) (given : List ZoneData) → IsAtLines lines (readings_of l.fn.bytes ++ left) given l.initial.reader l.initial.handing
      → WentOn lines (readings_of l.rest ++ left) given l.reader l.handing (g.O.GroupOut.Holds l.initial.out) (g.O.GroupOut.Holds l.out);
  at : (lines : List Reading) × (left : List Reading) × (given : List ZoneData) × IsAtLines lines (readings_of l.rest ++ left) given l.reader l.handing × (length lines + 1 < 2 ^ 64);
}

abbrev pub decreases-loop-rest : goal.decreases-loop-rest
decreases-loop-rest g l = length l.rest
