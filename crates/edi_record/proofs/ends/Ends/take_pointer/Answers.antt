use Rattle.std.proofs.Common.{◌≡◌, ◌∙◌, ◌∷◌, ◌++◌, [], Some, None, true, refl, ap}
use Rattle.edi_line.proofs.ZoneLists.{all_zones}
use Rattle.edi_record.specs.LinkEnds.{EndData}
use Rattle.edi_record.specs.Texts.{shown}
use Rattle.edi_record.specs.inner.Stored.{kept_ends}
use Rattle.edi_record.proofs.EndsStored.{end_begun, is_begun, pointer_taken, no_pointer_taken}
use Rattle.edi_record.proofs.LastItems.{front_pushed, last_pushed}
use Rattle.edi_record.proofs.TextParts.{pointer_found}
use Rattle.edi_record.proofs.ends.Ends.take_pointer.Goals as goal

pub returns-in_default : goal.returns-in_default
returns-in_default c = λ z left group e same.
    let list = c.args.list.now.items in
    no_pointer_taken (kept_ends c.args.self.now list) _ list z left group c.args.text.now e same (pointer_found c.args.text.now None c.in_default.ensures.parts) refl (all_zones true list)

pub returns : goal.returns
returns c = λ z left group e same.
    let list = c.args.list.now.items in
    let p = shown c.in-Some.pointer.parts in
    let start = c.in_ok-start.start.value in
    let made : EndData = record { lot = start.lot; subset = start.subset; target = record { rty = start.rty; rid = c.in_ok-rid.rid }; sns = None } in
    let texts = c.in_ok-start.ensures in
    let pushed : c.push_reserved.new.self.items ≡ list ++ end_begun p ∷ [] =
    c.push_reserved.ensures.items
    ∙ ap (λ l. l ++ made ∷ []) c.in_ok-reserve.ensures.items
    ∙ ap (λ x. list ++ x ∷ []) (is_begun made p texts.0 texts.1 texts.2 c.in_ok-rid.ensures refl) in
    pointer_taken (kept_ends c.args.self.now list) _ p z left group c.args.text.now e same (pointer_found c.args.text.now (Some c.in-Some.pointer.parts) c.in-Some.ensures.parts)
    refl (last_pushed list c.push_reserved.new.self.items (end_begun p) pushed) (front_pushed list c.push_reserved.new.self.items (end_begun p) pushed ∙ all_zones true list)
