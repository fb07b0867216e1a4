use Rattle.std.proofs.Common.{◌∙◌, ap, length, sym}
use Rattle.std.specs.Prelude.{is_some, if◌then◌else◌}
use Rattle.edi_plan.specs.inner.Hints.{far_number, farther, first_held, near_from, near_number, own_number, slots_at}
use Rattle.edi_plan.specs.inner.Names.{name_lent}
use Rattle.edi_plan.proofs.HintLemmas.{first_of_two}
use Rattle.edi_plan.proofs.name_slots.NameHints.find.Goals as goal

pub returns-then-is_some : goal.returns-then-is_some
returns-then-is_some c =
    let list = c.args.records.now in
    let name = name_lent c.args.name.now in
    let slots = c.args.self.now.slots.items in
    let near = slots_at slots (near_number c.args.name.now.kind c.args.name.now.rid.now) in
    let far = slots_at slots (far_number (length slots) c.args.name.now.kind c.args.name.now.rid.now) in
    let number_is = c.near_from-number.ensures ∙ ap (near_from c.args.name.now.kind) (c.own_number-own.ensures ∙ ap own_number c.as_slice-rid.ensures) in
    let near_is = c.first_held-near.ensures ∙ ap (first_held list name) (c.slots_at.ensures ∙ ap (slots_at slots) number_is) in
    let there = ap is_some (sym near_is) ∙ (sym c.is_some.ensures ∙ c.if-is_some.true) in
    near_is ∙ sym (first_of_two list name near far ∙ ap (λ b. if b then first_held list name near else first_held list name far) there)

pub returns : goal.returns
returns c =
    let list = c.args.records.now in
    let name = name_lent c.args.name.now in
    let slots = c.args.self.now.slots.items in
    let near = slots_at slots (near_number c.args.name.now.kind c.args.name.now.rid.now) in
    let far = slots_at slots (far_number (length slots) c.args.name.now.kind c.args.name.now.rid.now) in
    let number_is = c.near_from-number.ensures ∙ ap (near_from c.args.name.now.kind) (c.own_number-own.ensures ∙ ap own_number c.as_slice-rid.ensures) in
    let near_is = c.first_held-near.ensures ∙ ap (first_held list name) (c.slots_at.ensures ∙ ap (slots_at slots) number_is) in
    let far_is = c.first_held.ensures ∙ ap (first_held list name) (c.slots_at-2.ensures ∙ ap (slots_at slots) (c.farther.ensures ∙ ap (farther (length slots)) number_is)) in
    let lacking = ap is_some (sym near_is) ∙ (sym c.is_some.ensures ∙ c.if-is_some.false) in
    far_is ∙ sym (first_of_two list name near far ∙ ap (λ b. if b then first_held list name near else first_held list name far) lacking)
