use Rattle.std.proofs.Common.{◌≡◌, ◌++◌, ◌∙◌, ◌∷◌, ◌+◌, ◌<◌, ◌^◌, [], ℕ, List, length, sym, ap, subst, arith}
use Rattle.std.proofs.lemmas.List.{nil_from_length}
use Rattle.std.proofs.lemmas.Result.{err_from_is_err_and, on_ok_weaker, IfOk-weaker}
use Rattle.std.specs.Vec.Iter.{into_iter_items}
use Rattle.edi_line.specs.ZoneData.{ZoneData}
use Rattle.edi_line.specs.Groups.{IsHandedOut}
use Rattle.edi_line.specs.LineRules.{BreaksIn, BreaksLineRule}
use Rattle.edi_line.specs.Refusal.{IsLeastBroken}
use Rattle.edi_line.specs.Spelling.{Reading}
use Rattle.edi_line.specs.inner.FilePieces.{EachEnded, pieces_joined}
use Rattle.edi_line.specs.inner.HandingOn.{IsAtLines, IsHandedOutBehind}
use Rattle.edi_line.specs.inner.Zones.{readings_of}
use Rattle.edi_line.proofs.Ends.{readings_few}
use Rattle.edi_line.proofs.Feeds.{if_broken, if_err}
use Rattle.edi_line.proofs.FilePieces.{next_readings}
use Rattle.edi_line.proofs.HandedOn.{at_start, handed_by, held_at_first, went_nowhere, went_further}
use Rattle.edi_line.proofs.Readings.{least_said}
use Rattle.edi_line.proofs.groups.read_groups_of_pieces.Goals as goal

pub loop-piece-init : goal.loop-piece-init
loop-piece-init g c =
    let lines = readings_of c.args.pieces in
    let last = c.into_parts-ended.result.1.items in
    let items : into_iter_items c.into_iter-piece-iterator.result ≡ c.into_parts-ended.result.0.items = c.into_iter-piece-iterator.ensures.into_iter_gives.0 in
    let all : lines ≡ readings_of (pieces_joined (into_iter_items c.into_iter-piece-iterator.result) last) = ap readings_of c.into_parts-ended.ensures.joined ∙ ap (λ ps. readings_of (pieces_joined ps last)) (sym items) in
    record {
      went = went_nowhere lines _ [] c.new-reader.result c.new-handing.result (g.O.GroupOut.Holds c.args.out.now) (subst (λ left. IsAtLines lines left [] c.new-reader.result c.new-handing.result) all (at_start lines c.new-reader.result c.new-handing.result c.new-reader.ensures c.new-handing.ensures));
      each_ended = subst EachEnded (sym items) c.into_parts-ended.ensures.ended;
    }

pub read_piece-requires : goal.read_piece-requires
read_piece-requires g c =
    let lines = readings_of c.args.pieces in
    let rest = into_iter_items c.next.new.self in
    let last = c.into_parts-ended.result.1.items in
    let piece = c.in-Some.piece in
    let left = readings_of (pieces_joined rest last) in
    let each : EachEnded (piece ∷ rest) = subst EachEnded c.in-Some.ensures.steps.0 c.loop-piece.invariant.each_ended in
    let cut : readings_of (pieces_joined (into_iter_items c.loop-piece.piece-iterator) last) ≡ readings_of c.deref.result.now ++ left =
    ap (λ ps. readings_of (pieces_joined ps last)) c.in-Some.ensures.steps.0 ∙ next_readings piece rest last each ∙ ap (λ b. readings_of b ++ left) (sym c.deref.ensures.value) in
    let went = c.loop-piece.invariant.went in
    let room : length lines + 1 < 2 ^ 64 = omega (arith, readings_few c.args.pieces, c.into_parts-ended.ensures.short) in
    (lines, left, went.given_now, subst (λ ls. IsAtLines lines ls went.given_now c.loop-piece.reader c.loop-piece.handing) cut went.at, room)

pub returns-in_err-reader-clause-least : goal.returns-in_err-reader-clause-least
returns-in_err-reader-clause-least g c =
    let p = err_from_is_err_and c.from_residual.result c.from_residual.ensures.1 in
    let file = c.args.pieces in
    let lines = readings_of file in
    let rest = into_iter_items c.next.new.self in
    let last = c.into_parts-ended.result.1.items in
    let piece = c.in-Some.piece in
    let left = readings_of (pieces_joined rest last) in
    let each : EachEnded (piece ∷ rest) = subst EachEnded c.in-Some.ensures.steps.0 c.loop-piece.invariant.each_ended in
    let cut : readings_of (pieces_joined (into_iter_items c.loop-piece.piece-iterator) last) ≡ readings_of c.deref.result.now ++ left =
    ap (λ ps. readings_of (pieces_joined ps last)) c.in-Some.ensures.steps.0 ∙ next_readings piece rest last each ∙ ap (λ b. readings_of b ++ left) (sym c.deref.ensures.value) in
    let went = c.loop-piece.invariant.went in
    rw (p.1, p.2) (if_broken
    (λ rule place. (ls behind : List Reading) (given : List ZoneData) → IsAtLines ls (readings_of c.deref.result.now ++ behind) given c.loop-piece.reader c.loop-piece.handing → IsLeastBroken (BreaksIn ls) rule place)
    (IsLeastBroken (BreaksLineRule file))
    (λ rule place refused. least_said file rule place (refused lines left went.given_now (subst (λ ls. IsAtLines lines ls went.given_now c.loop-piece.reader c.loop-piece.handing) cut went.at)))
    c.in_err-reader.field-0.0 c.in_err-reader.ensures.broken)

pub loop-piece-preserved : goal.loop-piece-preserved
loop-piece-preserved g c =
    let lines = readings_of c.args.pieces in
    let rest = into_iter_items c.next.new.self in
    let last = c.into_parts-ended.result.1.items in
    let piece = c.in-Some.piece in
    let left = readings_of (pieces_joined rest last) in
    let each : EachEnded (piece ∷ rest) = subst EachEnded c.in-Some.ensures.steps.0 c.loop-piece.invariant.each_ended in
    let cut : readings_of (pieces_joined (into_iter_items c.loop-piece.piece-iterator) last) ≡ readings_of c.deref.result.now ++ left =
    ap (λ ps. readings_of (pieces_joined ps last)) c.in-Some.ensures.steps.0 ∙ next_readings piece rest last each ∙ ap (λ b. readings_of b ++ left) (sym c.deref.ensures.value) in
    record {
      went = went_further (λ given at. c.in_ok-reader.ensures.ok lines left given (subst (λ ls. IsAtLines lines ls given c.loop-piece.reader c.loop-piece.handing) cut at)) c.loop-piece.invariant.went;
      each_ended = each.1;
    }

pub read_last-requires : goal.read_last-requires
read_last-requires g c =
    let lines = readings_of c.args.pieces in
    let last = c.into_parts-ended.result.1.items in
    let none : into_iter_items c.loop-piece.piece-iterator ≡ [] = nil_from_length (into_iter_items c.loop-piece.piece-iterator) (sym c.loop-piece.piece-iterator.rest.ok.0 ∙ c.in-None.ensures.steps.0) in
    let left : readings_of (pieces_joined (into_iter_items c.loop-piece.piece-iterator) last) ≡ readings_of c.deref-2.result.now =
    ap (λ ps. readings_of (pieces_joined ps last)) none ∙ ap readings_of (sym c.deref-2.ensures.value) in
    let went = c.loop-piece.invariant.went in
    let room : length lines + 1 < 2 ^ 64 = omega (arith, readings_few c.args.pieces, c.into_parts-ended.ensures.short) in
    (lines, went.given_now, subst (λ ls. IsAtLines lines ls went.given_now c.loop-piece.reader c.loop-piece.handing) left went.at, room)

pub returns-clause-groups : goal.returns-clause-groups
returns-clause-groups g c =
    let file = c.args.pieces in
    let lines = readings_of file in
    let last = c.into_parts-ended.result.1.items in
    let none : into_iter_items c.loop-piece.piece-iterator ≡ [] = nil_from_length (into_iter_items c.loop-piece.piece-iterator) (sym c.loop-piece.piece-iterator.rest.ok.0 ∙ c.in-None.ensures.steps.0) in
    let left : readings_of (pieces_joined (into_iter_items c.loop-piece.piece-iterator) last) ≡ readings_of c.deref-2.result.now =
    ap (λ ps. readings_of (pieces_joined ps last)) none ∙ ap readings_of (sym c.deref-2.ensures.value) in
    let went = c.loop-piece.invariant.went in
    let at = subst (λ ls. IsAtLines lines ls went.given_now c.loop-piece.reader c.loop-piece.handing) left went.at in
    let Before = g.O.GroupOut.Holds c.args.out.now in
    let Between = g.O.GroupOut.Holds c.loop-piece.out in
    let After = g.O.GroupOut.Holds c.read_last.new.out in
    IfOk-weaker c.read_last.result
    (λ charset. (f : List ℕ) (given : List ZoneData) → IsAtLines (readings_of f) (readings_of c.deref-2.result.now) given c.loop-piece.reader c.loop-piece.handing → IsHandedOutBehind given f charset Between After)
    (λ charset. IsHandedOut file charset Before After)
    (λ charset handed. handed_by file went.given_now charset Before Between After (λ groups before. went.handed groups (held_at_first Before groups before)) (handed file went.given_now at))
    c.read_last.ensures.groups

pub returns-clause-sound : goal.returns-clause-sound
returns-clause-sound g c =
    let file = c.args.pieces in
    let last = c.into_parts-ended.result.1.items in
    let none : into_iter_items c.loop-piece.piece-iterator ≡ [] = nil_from_length (into_iter_items c.loop-piece.piece-iterator) (sym c.loop-piece.piece-iterator.rest.ok.0 ∙ c.in-None.ensures.steps.0) in
    let left : readings_of (pieces_joined (into_iter_items c.loop-piece.piece-iterator) last) ≡ readings_of c.deref-2.result.now =
    ap (λ ps. readings_of (pieces_joined ps last)) none ∙ ap readings_of (sym c.deref-2.ensures.value) in
    let went = c.loop-piece.invariant.went in
    on_ok_weaker c.read_last.result (λ sound. sound file went.given_now (subst (λ ls. IsAtLines (readings_of file) ls went.given_now c.loop-piece.reader c.loop-piece.handing) left went.at)) c.read_last.ensures.sound

pub returns-clause-least : goal.returns-clause-least
returns-clause-least g c =
    let file = c.args.pieces in
    let last = c.into_parts-ended.result.1.items in
    let none : into_iter_items c.loop-piece.piece-iterator ≡ [] = nil_from_length (into_iter_items c.loop-piece.piece-iterator) (sym c.loop-piece.piece-iterator.rest.ok.0 ∙ c.in-None.ensures.steps.0) in
    let left : readings_of (pieces_joined (into_iter_items c.loop-piece.piece-iterator) last) ≡ readings_of c.deref-2.result.now =
    ap (λ ps. readings_of (pieces_joined ps last)) none ∙ ap readings_of (sym c.deref-2.ensures.value) in
    let went = c.loop-piece.invariant.went in
    if_err
    (λ rule place. (f : List ℕ) (given : List ZoneData) → IsAtLines (readings_of f) (readings_of c.deref-2.result.now) given c.loop-piece.reader c.loop-piece.handing → IsLeastBroken (BreaksLineRule f) rule place)
    (IsLeastBroken (BreaksLineRule file)) c.read_last.result
    (λ rule place refused. refused file went.given_now (subst (λ ls. IsAtLines (readings_of file) ls went.given_now c.loop-piece.reader c.loop-piece.handing) left went.at))
    c.read_last.ensures.least
