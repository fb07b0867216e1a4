use Rattle.std.proofs.Common.{◌∙◌, Some, None, option_map, sym, ap}
use Rattle.edi_record.specs.Texts.{PointerText}
use Rattle.edi_record.specs.declared.name.Name.{Name}
use Rattle.edi_record.proofs.TextParts.{pointer_found}
use Rattle.edi_record.proofs.draft.class_named.Goals as goal

abbrev name_in : PointerText → Name
name_in p = record { rty = p.rty; rid = p.rid }

pub returns-in_default : goal.returns-in_default
returns-in_default c = ap (option_map name_in) (sym (pointer_found c.args.text.now None c.in_default.ensures.parts))

pub returns : goal.returns
returns c =
    ap (option_map name_in) (sym (pointer_found c.args.text.now (Some c.in-Some.pointer.parts) c.in-Some.ensures.parts)) ∙ ap (λ name. Some name) (sym c.in_ok-class.ensures)
