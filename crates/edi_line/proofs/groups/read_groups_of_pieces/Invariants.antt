use Rattle.std.proofs.Common.{[]}
use Rattle.std.specs.Vec.Iter.{into_iter_items}
use Rattle.edi_line.specs.inner.FilePieces.{EachEnded, pieces_joined}
use Rattle.edi_line.specs.inner.HandingOn.{WentOn}
use Rattle.edi_line.specs.inner.Zones.{readings_of}
use Rattle.edi_line.proofs.groups.read_groups_of_pieces.Given as goal

abbrev pub invariant-loop-piece : goal.invariant-loop-piece
invariant-loop-piece g l = record {
  went : WentOn (readings_of l.fn.pieces) (readings_of (pieces_joined (into_iter_items l.piece-iterator) l.last.items)) [] l.reader l.handing (g.O.GroupOut.Holds l.initial.out) (g.O.GroupOut.Holds l.out);
  each_ended : EachEnded (into_iter_items l.piece-iterator);
}
