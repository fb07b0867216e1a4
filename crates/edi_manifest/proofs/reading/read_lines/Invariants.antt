use Rattle.std.proofs.Common.{Ok, length}
use Rattle.std.specs.Fn.{FnReturnsAt}
use Rattle.edi_manifest.specs.LineReading.{ReadsUpTo}
use Rattle.edi_manifest.proofs.reading.read_lines.Given as goal

abbrev pub invariant-loop-content : goal.invariant-loop-content
invariant-loop-content g l =
    ReadsUpTo (λ content line. FnReturnsAt g.R.Fn l.read content (Ok line)) l.fn.text l.found.items l.rest

abbrev pub decreases-loop-content : goal.decreases-loop-content
decreases-loop-content g l = length l.rest
