use Rattle.std.proofs.Common.{◌++◌, arith, length-append}
use Rattle.edi_line.proofs.Feeds.{fed_more}
use Rattle.edi_line.proofs.Joined.{piece_at}
use Rattle.conform.proofs.lines.answers.Goals as goal

pub loop-piece-preserved : goal.loop-piece-preserved
loop-piece-preserved c =
    let b = c.loop-piece.invariant.0 in
    let piece = piece_at c.args.pieces.now c.loop-piece.piece-index in
    let call = c.feed-taken in (
      b ++ piece,
      fed_more b piece c.loop-piece.feed call.new.self call.result c.loop-piece.invariant.1 call.ensures.takes call.ensures.says call.ensures.stays,
      omega (arith, length-append b piece, c.loop-piece.invariant.2, c.in-Some.ensures.0),
      c.in-Some.ensures.1,
    )
