use Rattle.std.proofs.Common.{◌≡◌, ◌∙◌, ◌∷◌, [], arith, sym, ap}
use Rattle.std.proofs.lemmas.Bool.{eqb-true}
use Rattle.std.proofs.lemmas.List.{nil_from_length}
use Rattle.edi_line.specs.inner.Zones.{readings_of}
use Rattle.edi_line.specs.inner.Spelling.{reading_of}
use Rattle.edi_line.proofs.LinesBroken.{held_next, all_lines}
use Rattle.edi_line.proofs.Passes.{readings_step}
use Rattle.edi_line.proofs.broken.broken_lines.Goals as goal

pub loop-rest-preserved : goal.loop-rest-preserved
loop-rest-preserved c =
    let line = reading_of c.content.result.now in
    let next : readings_of c.loop-rest.rest.now ≡ line ∷ readings_of c.first_line.result.1.now =
    readings_step c.loop-rest.rest.now c.first_line.result.0.now c.first_line.result.1.now c.first_line.ensures.lines ∙ ap (λ x. reading_of x ∷ readings_of c.first_line.result.1.now) (sym c.content.ensures) in
    let held = held_next (readings_of c.args.bytes.now) line (readings_of c.first_line.result.1.now) c.loop-rest.broken c.take.new.self c.loop-rest.invariant.holds (c.loop-rest.invariant.left ∙ next) c.in_ok-take.ensures in
    record {
      holds = held.0;
      left = held.1;
      room = omega (arith, c.in_ok-take.ensures.counted, c.loop-rest.invariant.room, c.first_line.ensures.shorter);
    }

pub returns : goal.returns
returns c =
    let none : c.loop-rest.rest.now ≡ [] = nil_from_length c.loop-rest.rest.now (eqb-true _ _ (sym c.is_empty.ensures ∙ c.loop-rest-test.false)) in
    all_lines c.args.bytes.now c.loop-rest.broken c.finish.result c.loop-rest.invariant.holds (c.loop-rest.invariant.left ∙ ap readings_of none) c.finish.ensures
