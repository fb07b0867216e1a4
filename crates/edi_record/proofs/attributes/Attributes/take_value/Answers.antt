use Rattle.std.proofs.Common.{◌≡◌, ◌∙◌, ◌+◌, ◌-◌, ◌∷◌, ◌++◌, [], length, is_some, refl, sym, ap, arith}
use Rattle.edi_line.specs.inner.ZoneLists.{all_but_last, done_of, open_of}
use Rattle.edi_line.proofs.Truths.{none_is}
use Rattle.edi_record.specs.inner.Stored.{kept_attributes, attribute_of, closed_with}
use Rattle.edi_record.proofs.AttributesStored.{value_taken, stray_taken}
use Rattle.edi_record.proofs.LastItems.{open_is, open_if_some, open_has, replaced}
use Rattle.edi_record.proofs.attributes.Attributes.take_value.Goals as goal

pub returns-then-not-is_open-clause-keeps : goal.returns-then-not-is_open-clause-keeps
returns-then-not-is_open-clause-keeps c = λ z left group e same.
    let list = c.args.list.now in
    let none = sym c.is_open.ensures ∙ c.if-not-is_open.true in
    stray_taken (kept_attributes c.args.self.now list.items) _ z left group e none refl (none_is (open_of c.args.self.now.is_open list.items) none)

pub returns-clause-keeps : goal.returns-clause-keeps
returns-clause-keeps c = λ z left group e same.
    let list = c.args.list.now in
    let n = c.len-last.result - 1 in
    let is_open = c.args.self.now.is_open in
    let o = c.index_mut.result.now in
    let some = sym c.is_open.ensures ∙ c.if-not-is_open.false in
    let opened = open_if_some is_open list.items some in
    let last : n + 1 ≡ length list.items = omega (arith, c.len-last.ensures, open_has is_open list.items some) in
    let was = open_is is_open list.items n o opened last c.index_mut.ensures.value in
    value_taken (kept_attributes c.args.self.now list.items) _ z left group c.args.text.now e same (ap is_some was) refl refl
    (replaced list.items n _ last
    ∙ ap (λ t. all_but_last list.items ++ attribute_of o o.tex t ∷ []) c.in_ok-list.ensures
    ∙ ap (λ is_open. done_of is_open list.items ++ attribute_of o o.tex c.args.text.now ∷ []) (sym opened)
    ∙ ap (λ opened. done_of is_open list.items ++ closed_with c.args.text.now opened) (sym was))
