use Rattle.edi_pairing.proofs.WrongLemmas.{in_form, no_code, no_identifier, no_kind, no_other}
use Rattle.edi_pairing.proofs.wrong.parts_of.Goals as goal

pub returns-in_default : goal.returns-in_default
returns-in_default c = no_code c.args.text.now c.in_default.ensures

pub returns-in_default-kind_named : goal.returns-in_default-kind_named
returns-in_default-kind_named c = no_kind c.args.text.now c.in-Some.code.now c.in-Some.rest.now c.in-Some.ensures.0 c.in-Some.ensures.1 c.in_default-kind_named.ensures

pub returns-in_default-field_at : goal.returns-in_default-field_at
returns-in_default-field_at c = no_identifier c.args.text.now c.in-Some.code.now c.in-Some.rest.now c.in-Some.ensures.0 c.in-Some.ensures.1 c.in_default-field_at.ensures

pub returns-in-Some-last_at : goal.returns-in-Some-last_at
returns-in-Some-last_at c =
    let last = c.in-Some-last_at.ensures in
    in_form c.args.text.now c.in-Some.code.now c.in-Some.rest.now c.in-Some.ensures.0 c.in-Some.ensures.1 c.in-Some-field_at.rid.now c.in-Some-field_at.rest.now
    c.in-Some-field_at.ensures.0 c.in-Some-field_at.ensures.1 c.in-Some-kind_named.kind c.in-Some-kind_named.ensures c.in-Some-last_at.other.now last.1.0 last.1.1 last.0 last.1.2

pub returns-in-None : goal.returns-in-None
returns-in-None c =
    no_other c.args.text.now c.in-Some.code.now c.in-Some.rest.now c.in-Some.ensures.0 c.in-Some.ensures.1 c.in-Some-field_at.rid.now c.in-Some-field_at.rest.now
    c.in-Some-field_at.ensures.0 c.in-Some-field_at.ensures.1 c.in-None.ensures
