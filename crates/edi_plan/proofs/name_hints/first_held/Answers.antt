use Rattle.std.proofs.Common.{◌∙◌, ◌+◌, sym, ap, Some, if◌then◌else◌, drop, slice_index_or}
use Rattle.edi_plan.specs.inner.Hints.{first_held}
use Rattle.edi_plan.specs.inner.Names.{name_lent}
use Rattle.edi_plan.specs.inner.Slots.{slot_place}
use Rattle.edi_plan.proofs.HintLemmas.{first_cut, first_none}
use Rattle.edi_plan.proofs.name_hints.first_held.Goals as goal

pub returns-then-is_held : goal.returns-then-is_held
returns-then-is_held c =
    let list = c.args.records.now in
    let name = name_lent c.args.name.now in
    let i = c.loop-slot.slot-index in
    let slots = c.args.slots.now in
    let cut = first_cut list name slots i c.loop-slot-test.true in
    ap Some c.place_in.ensures ∙ sym (sym c.loop-slot.invariant ∙ (cut ∙ ap (λ b. if b then Some (slot_place (slice_index_or slots i 0)) else first_held list name (drop (i + 1) slots)) (sym c.is_held.ensures ∙ c.if-is_held.true)))

pub loop-slot-preserved : goal.loop-slot-preserved
loop-slot-preserved c =
    let list = c.args.records.now in
    let name = name_lent c.args.name.now in
    let i = c.loop-slot.slot-index in
    let slots = c.args.slots.now in
    let cut = first_cut list name slots i c.loop-slot-test.true in
    sym (sym c.loop-slot.invariant ∙ (cut ∙ ap (λ b. if b then Some (slot_place (slice_index_or slots i 0)) else first_held list name (drop (i + 1) slots)) (sym c.is_held.ensures ∙ c.if-is_held.false)))

pub returns : goal.returns
returns c = sym (sym c.loop-slot.invariant ∙ first_none c.args.records.now (name_lent c.args.name.now) c.args.slots.now c.loop-slot.slot-index c.loop-slot-test.false)
