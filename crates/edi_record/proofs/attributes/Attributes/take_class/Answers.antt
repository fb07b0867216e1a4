use Rattle.std.proofs.Common.{◌≡◌, ◌∙◌, ◌∷◌, ◌++◌, [], Some, None, is_some, refl, ap}
use Rattle.edi_record.specs.Texts.{shown}
use Rattle.edi_record.specs.inner.Stored.{kept_attributes}
use Rattle.edi_record.specs.declared.record.Attribute.{Attribute}
use Rattle.edi_record.proofs.AttributesStored.{opened_by, as_closed, class_taken, no_class_taken}
use Rattle.edi_record.proofs.LastItems.{front_pushed, last_pushed}
use Rattle.edi_record.proofs.TextParts.{pointer_found}
use Rattle.edi_record.proofs.attributes.Attributes.take_class.Goals as goal

pub returns-in_default-clause-keeps : goal.returns-in_default-clause-keeps
returns-in_default-clause-keeps c = λ z left group e same h.
    let list = c.args.list.now.items in
    no_class_taken (kept_attributes c.args.self.now list) _ list z left group c.args.text.now e same (pointer_found c.args.text.now None c.in_default.ensures) refl refl
    (as_closed c.args.self.now.is_open list h.valueless) h

pub returns-clause-keeps : goal.returns-clause-keeps
returns-clause-keeps c = λ z left group e same h.
    let list = c.args.list.now.items in
    let class = shown c.in-Some.class in
    let pushed : c.push.new.self.items ≡ list ++ opened_by class ∷ [] =
    c.in_ok-push.ensures.items
    ∙ ap (λ name. (let a : Attribute = record { atp = name; tex = None; atv = c.short.result } in list ++ a ∷ [])) c.in_ok-name.ensures
    ∙ ap (λ value. (let a : Attribute = record { atp = record { rty = class.rty; rid = class.rid }; tex = None; atv = value } in list ++ a ∷ [])) c.short.ensures in
    class_taken (kept_attributes c.args.self.now list) _ class z left group c.args.text.now e same (pointer_found c.args.text.now (Some c.in-Some.class) c.in-Some.ensures)
    refl (last_pushed list c.push.new.self.items (opened_by class) pushed) (front_pushed list c.push.new.self.items (opened_by class) pushed ∙ as_closed c.args.self.now.is_open list h.valueless) h

pub returns-clause-opens : goal.returns-clause-opens
returns-clause-opens c = λ b. (b, ap is_some (last_pushed c.args.list.now.items c.push.new.self.items _ c.in_ok-push.ensures.items))
