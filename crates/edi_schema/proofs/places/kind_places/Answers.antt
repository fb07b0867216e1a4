use Rattle.std.proofs.Common.{◌∙◌, ap, sym, is_some}
use Rattle.edi_schema.proofs.Noted.{draft_noted, draft_repeats, all_noted, all_paired, some_unpaired}
use Rattle.edi_schema.proofs.places.kind_places.Goals as goal

pub returns-then-is_some : goal.returns-then-is_some
returns-then-is_some c = draft_repeats c.args.classes.now c.loop-place.place _ c.loop-place.places c.loop-place-test.true c.loop-place.invariant (ap is_some (sym c.of.ensures) ∙ (sym c.is_some.ensures ∙ c.if-is_some.true))

pub loop-place-preserved : goal.loop-place-preserved
loop-place-preserved c = draft_noted c.args.classes.now c.loop-place.place _ c.loop-place.places c.with-places.result c.loop-place-test.true c.loop-place.invariant (ap is_some (sym c.of.ensures) ∙ (sym c.is_some.ensures ∙ c.if-is_some.false)) c.with-places.ensures

pub returns-else-is_paired : goal.returns-else-is_paired
returns-else-is_paired c = some_unpaired _ c.loop-place.places (all_noted c.args.classes.now c.loop-place.place c.loop-place.places c.loop-place-test.false c.loop-place.invariant) (sym c.is_paired.ensures ∙ c.if-is_paired.false)

pub returns-then-is_paired : goal.returns-then-is_paired
returns-then-is_paired c = all_paired _ c.loop-place.places (all_noted c.args.classes.now c.loop-place.place c.loop-place.places c.loop-place-test.false c.loop-place.invariant) (sym c.is_paired.ensures ∙ c.if-is_paired.true)
