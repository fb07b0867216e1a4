use Rattle.std.proofs.Common.{◌≡◌, take, ◌∙◌, ◌∷◌, [], arith, sym, ap}
use Rattle.std.proofs.lemmas.Bool.{eqb-true}
use Rattle.std.proofs.lemmas.List.{nil_from_length}
use Rattle.std.proofs.lemmas.Result.{err_from_is_err_and}
use Rattle.edi_line.specs.inner.Zones.{readings_of}
use Rattle.edi_line.specs.inner.Spelling.{reading_of}
use Rattle.edi_line.proofs.BorrowedZones.{ready, borrows_next, borrowed_read}
use Rattle.edi_line.proofs.Passes.{next_of, taken_all, taken, all_taken, readings_step, fault_refused, end_refused, end_sound, end_zones}
use Rattle.edi_line.proofs.Shape.{end_shape, end_few}
use Rattle.edi_line.proofs.reading.zones.Goals as goal

pub returns-in_err-take_line-clause-least : goal.returns-in_err-take_line-clause-least
returns-in_err-take_line-clause-least c =
    let p = err_from_is_err_and c.from_residual.result c.from_residual.ensures.1 in
    let line = reading_of c.content.result.now in
    let next : readings_of c.loop-rest.rest.now ≡ line ∷ readings_of c.first_line.result.1.now =
    readings_step c.loop-rest.rest.now c.first_line.result.0.now c.first_line.result.1.now c.first_line.ensures.lines ∙ ap (λ x. reading_of x ∷ readings_of c.first_line.result.1.now) (sym c.content.ensures) in
    rw (p.1, p.2) (fault_refused c.args.bytes.now c.loop-rest.reader line (readings_of c.first_line.result.1.now) c.in_err-take_line.field-0.0
    (record { stands = c.loop-rest.invariant.stands; left_is = c.loop-rest.invariant.left ∙ next }) c.in_err-take_line.ensures.broken)

pub loop-rest-init : goal.loop-rest-init
loop-rest-init c =
    let first = ready (readings_of c.args.bytes.now) c.new-reader.result c.new-reader.ensures in
    record {
      stands = first.stands;
      borrows = first.borrows;
      left = first.left;
      room = omega (arith, c.new-reader.ensures.counted);
    }

pub loop-rest-preserved : goal.loop-rest-preserved
loop-rest-preserved c =
    let line = reading_of c.content.result.now in
    let next : readings_of c.loop-rest.rest.now ≡ line ∷ readings_of c.first_line.result.1.now =
    readings_step c.loop-rest.rest.now c.first_line.result.0.now c.first_line.result.1.now c.first_line.ensures.lines ∙ ap (λ x. reading_of x ∷ readings_of c.first_line.result.1.now) (sym c.content.ensures) in
    let at = taken (readings_of c.args.bytes.now) c.loop-rest.reader c.take_line.new.self line (readings_of c.first_line.result.1.now)
    (record { stands = c.loop-rest.invariant.stands; left_is = c.loop-rest.invariant.left ∙ next }) c.in_ok-take_line.ensures.ok in
    let ahead = next_of (readings_of c.args.bytes.now) c.loop-rest.reader.line line (readings_of c.first_line.result.1.now) (c.loop-rest.invariant.left ∙ next) in
    record {
      stands = at.stands;
      borrows = borrows_next (readings_of c.args.bytes.now) c.loop-rest.reader.line c.take_line.new.self.line line (readings_of c.first_line.result.1.now) c.take_line.new.self ahead c.in_ok-take_line.ensures.ok.counted
          (c.in_ok-take_line.ensures.borrows (take c.loop-rest.reader.line (readings_of c.args.bytes.now)) ahead.long c.loop-rest.invariant.borrows);
      left = at.left_is;
      room = omega (arith, c.in_ok-take_line.ensures.ok.counted, c.loop-rest.invariant.room, c.first_line.ensures.shorter);
    }

pub returns-clause-sound : goal.returns-clause-sound
returns-clause-sound c =
    let none : c.loop-rest.rest.now ≡ [] = nil_from_length c.loop-rest.rest.now (eqb-true _ _ (sym c.is_empty.ensures ∙ c.loop-rest-test.false)) in
    let s = all_taken (readings_of c.args.bytes.now) c.loop-rest.reader (record { stands = c.loop-rest.invariant.stands; left_is = c.loop-rest.invariant.left ∙ ap readings_of none }) in
    end_sound c.args.bytes.now c.loop-rest.reader c.finish.result s c.finish.ensures.ok

pub returns-clause-zones : goal.returns-clause-zones
returns-clause-zones c =
    let none : c.loop-rest.rest.now ≡ [] = nil_from_length c.loop-rest.rest.now (eqb-true _ _ (sym c.is_empty.ensures ∙ c.loop-rest-test.false)) in
    let s = all_taken (readings_of c.args.bytes.now) c.loop-rest.reader (record { stands = c.loop-rest.invariant.stands; left_is = c.loop-rest.invariant.left ∙ ap readings_of none }) in
    end_zones c.args.bytes.now c.loop-rest.reader c.finish.result s c.finish.ensures.ok

pub returns-clause-shape : goal.returns-clause-shape
returns-clause-shape c =
    let none : c.loop-rest.rest.now ≡ [] = nil_from_length c.loop-rest.rest.now (eqb-true _ _ (sym c.is_empty.ensures ∙ c.loop-rest-test.false)) in
    let s = all_taken (readings_of c.args.bytes.now) c.loop-rest.reader (record { stands = c.loop-rest.invariant.stands; left_is = c.loop-rest.invariant.left ∙ ap readings_of none }) in
    end_shape (readings_of c.args.bytes.now) c.loop-rest.reader c.finish.result s c.finish.ensures.ok

pub returns-clause-few : goal.returns-clause-few
returns-clause-few c =
    let none : c.loop-rest.rest.now ≡ [] = nil_from_length c.loop-rest.rest.now (eqb-true _ _ (sym c.is_empty.ensures ∙ c.loop-rest-test.false)) in
    let s = all_taken (readings_of c.args.bytes.now) c.loop-rest.reader (record { stands = c.loop-rest.invariant.stands; left_is = c.loop-rest.invariant.left ∙ ap readings_of none }) in
    end_few (readings_of c.args.bytes.now) c.loop-rest.reader c.finish.result s c.finish.ensures.ok

pub returns-clause-least : goal.returns-clause-least
returns-clause-least c =
    let none : c.loop-rest.rest.now ≡ [] = nil_from_length c.loop-rest.rest.now (eqb-true _ _ (sym c.is_empty.ensures ∙ c.loop-rest-test.false)) in
    let s = all_taken (readings_of c.args.bytes.now) c.loop-rest.reader (record { stands = c.loop-rest.invariant.stands; left_is = c.loop-rest.invariant.left ∙ ap readings_of none }) in
    end_refused c.args.bytes.now c.loop-rest.reader c.finish.result s c.finish.ensures.broken

pub returns-clause-borrowed : goal.returns-clause-borrowed
returns-clause-borrowed c =
    let none : c.loop-rest.rest.now ≡ [] = nil_from_length c.loop-rest.rest.now (eqb-true _ _ (sym c.is_empty.ensures ∙ c.loop-rest-test.false)) in
    borrowed_read c.args.bytes.now c.loop-rest.reader c.finish.result (taken_all (readings_of c.args.bytes.now) c.loop-rest.reader.line (c.loop-rest.invariant.left ∙ ap readings_of none)) c.loop-rest.invariant.borrows c.finish.ensures.zones
