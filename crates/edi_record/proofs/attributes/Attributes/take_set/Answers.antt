use Rattle.std.proofs.Common.{◌≡◌, ◌∙◌, ◌+◌, ◌-◌, length, Some, is_some, refl, sym, ap, arith}
use Rattle.edi_line.proofs.ZoneLists.{done_lengthened}
use Rattle.edi_record.specs.inner.Stored.{kept_attributes, attribute_of}
use Rattle.edi_record.proofs.AttributesStored.{set_taken, second_set_taken}
use Rattle.edi_record.proofs.LastItems.{open_is, open_replaced, open_if_some, open_has}
use Rattle.edi_record.proofs.attributes.Attributes.take_set.Goals as goal

pub returns-then-is_some-clause-keeps : goal.returns-then-is_some-clause-keeps
returns-then-is_some-clause-keeps c = λ z left group e same.
    let list = c.args.list.now in
    let n = c.len-place.result - 1 in
    let is_open = c.args.self.now.is_open in
    let o = c.index_mut-last.result.now in
    let last : n + 1 ≡ length list.items = omega (arith, c.len-place.ensures, open_has is_open list.items c.requires) in
    let opened = open_if_some is_open list.items c.requires in
    second_set_taken (kept_attributes c.args.self.now list.items) _ o z left group e (open_is is_open list.items n o opened last c.index_mut-last.ensures.value) (sym c.is_some.ensures ∙ c.if-is_some.true)
    refl (open_replaced is_open list.items n o opened last)

pub returns-clause-keeps : goal.returns-clause-keeps
returns-clause-keeps c = λ z left group e same.
    let list = c.args.list.now in
    let n = c.len-place.result - 1 in
    let is_open = c.args.self.now.is_open in
    let o = c.index_mut-last.result.now in
    let new = attribute_of o (Some c.in_ok-from_slice.field-0) o.atv in
    let last : n + 1 ≡ length list.items = omega (arith, c.len-place.ensures, open_has is_open list.items c.requires) in
    let opened = open_if_some is_open list.items c.requires in
    set_taken (kept_attributes c.args.self.now list.items) _ o new z left group e (open_is is_open list.items n o opened last c.index_mut-last.ensures.value) (sym c.is_some.ensures ∙ c.if-is_some.false)
    refl (done_lengthened is_open list.items n new opened last) (open_replaced is_open list.items n new opened last) (ap (λ t. attribute_of o (Some t) o.atv) (c.in_ok-from_slice.ensures ∙ sym same))

pub returns-clause-opens : goal.returns-clause-opens
returns-clause-opens c = λ b.
    let list = c.args.list.now in
    let n = c.len-place.result - 1 in
    let is_open = c.args.self.now.is_open in
    let last : n + 1 ≡ length list.items = omega (arith, c.len-place.ensures, open_has is_open list.items c.requires) in
    (b, ap is_some (open_replaced is_open list.items n _ (open_if_some is_open list.items c.requires) last))
