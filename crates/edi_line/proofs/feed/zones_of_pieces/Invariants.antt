use Rattle.std.proofs.Common.{◌≡◌, None, take}
use Rattle.edi_line.specs.Feeding.{StandsFor, joined}
use Rattle.edi_line.proofs.feed.zones_of_pieces.Given as goal

abbrev pub invariant-loop-piece : goal.invariant-loop-piece
invariant-loop-piece l = record {
  stands : StandsFor (joined (take l.piece-index l.pieces)) l.feed;
  clean : l.feed.refused ≡ None;
}
