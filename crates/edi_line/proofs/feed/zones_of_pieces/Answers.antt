use Rattle.std.proofs.Common.{take, subst, arith}
use Rattle.std.proofs.lemmas.Result.{err_from_is_err_and}
use Rattle.edi_line.specs.Feeding.{StandsFor, joined}
use Rattle.edi_line.proofs.Joined.{joined_more, joined_room, piece_refused, stands_whole}
use Rattle.edi_line.proofs.feed.zones_of_pieces.Goals as goal

pub feed-requires : goal.feed-requires
feed-requires c =
    let i = c.loop-piece.piece-index in
    λ none. (
      joined (take i c.args.pieces.now),
      c.loop-piece.invariant.stands,
      omega (arith, c.requires, joined_room c.args.pieces.now i c.loop-piece-test.true),
    )

pub returns-in_err-feed-clause-least : goal.returns-in_err-feed-clause-least
returns-in_err-feed-clause-least c =
    let p = err_from_is_err_and c.from_residual.result c.from_residual.ensures.1 in
    let i = c.loop-piece.piece-index in
    rw (p.1, p.2) (piece_refused c.args.pieces.now i c.in_err-feed.field-0.0 c.loop-piece-test.true (c.in_err-feed.ensures.broken (joined (take i c.args.pieces.now)) c.loop-piece.invariant.stands))

pub loop-piece-preserved : goal.loop-piece-preserved
loop-piece-preserved c =
    let i = c.loop-piece.piece-index in
    let pieces = c.args.pieces.now in
    record {
      stands = subst (λ b. StandsFor b c.feed.new.self) (joined_more pieces i c.loop-piece-test.true) (c.in_ok-feed.ensures.takes (joined (take i pieces)) c.loop-piece.invariant.stands);
      clean = c.in_ok-feed.ensures.clean;
    }

pub finish-requires : goal.finish-requires
finish-requires c = λ none. (joined c.args.pieces.now, stands_whole c.args.pieces.now c.loop-piece.piece-index c.loop-piece.feed c.loop-piece-test.false c.loop-piece.invariant.stands, c.requires)

pub returns-clause-zones : goal.returns-clause-zones
returns-clause-zones c = c.finish.ensures.zones (joined c.args.pieces.now) (stands_whole c.args.pieces.now c.loop-piece.piece-index c.loop-piece.feed c.loop-piece-test.false c.loop-piece.invariant.stands)

pub returns-clause-shape : goal.returns-clause-shape
returns-clause-shape c = c.finish.ensures.shape (joined c.args.pieces.now) (stands_whole c.args.pieces.now c.loop-piece.piece-index c.loop-piece.feed c.loop-piece-test.false c.loop-piece.invariant.stands)

pub returns-clause-few : goal.returns-clause-few
returns-clause-few c = c.finish.ensures.few (joined c.args.pieces.now) (stands_whole c.args.pieces.now c.loop-piece.piece-index c.loop-piece.feed c.loop-piece-test.false c.loop-piece.invariant.stands)

pub returns-clause-sound : goal.returns-clause-sound
returns-clause-sound c = c.finish.ensures.sound (joined c.args.pieces.now) (stands_whole c.args.pieces.now c.loop-piece.piece-index c.loop-piece.feed c.loop-piece-test.false c.loop-piece.invariant.stands)

pub returns-clause-least : goal.returns-clause-least
returns-clause-least c = c.finish.ensures.least (joined c.args.pieces.now) (stands_whole c.args.pieces.now c.loop-piece.piece-index c.loop-piece.feed c.loop-piece-test.false c.loop-piece.invariant.stands)
