use Rattle.std.proofs.Common.{ℕ, ◌+◌, ◌<◌, ◌^◌, List, length}
use Rattle.edi_line.specs.Spelling.{Reading}
use Rattle.edi_line.specs.inner.Held.{Stands}
use Rattle.edi_line.specs.inner.Feeding.{TakesFront, RefusesIn}
use Rattle.edi_line.specs.declared.reading.Reader.{Reader}
use Rattle.edi_line.proofs.feed.take_ended.Given as goal

abbrev pub invariant-loop-line : goal.invariant-loop-line
invariant-loop-line l = record {
  takes : (rest : List ℕ) (new : Reader) → TakesFront l.reader l.rest rest new → TakesFront l.fn.reader l.fn.bytes rest new;
  refuses : (rule place : ℕ) → RefusesIn l.reader l.rest rule place → RefusesIn l.fn.reader l.fn.bytes rule place;
  holds : (done : List Reading) × Stands done l.reader;
  room : l.reader.line + length l.rest + 1 < 2 ^ 64;
}

abbrev pub decreases-loop-line : goal.decreases-loop-line
decreases-loop-line l = length l.rest
