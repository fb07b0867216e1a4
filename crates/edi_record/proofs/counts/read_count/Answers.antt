use Rattle.std.proofs.Common.{◌≡◌, ◌∙◌, [], drop, get_or, sym, ap, arith}
use Rattle.std.proofs.lemmas.List.{nil_from_length}
use Rattle.edi_record.specs.inner.Stored.{is_number}
use Rattle.edi_record.proofs.Loops.{comes_to, past, first_apart, counts_some, counts_none}
use Rattle.edi_record.proofs.counts.read_count.Goals as goal

pub returns-then-is_empty : goal.returns-then-is_empty
returns-then-is_empty c = λ number below. counts_none c.args.text.now number c.is_empty.result c.is_empty.ensures c.if-is_empty.true

pub returns-in_err-number : goal.returns-in_err-number
returns-in_err-number c = λ number below.
    let rest = c.loop-rest.rest.now in
    ap (λ read. is_number read number) c.from_residual.ensures
    ∙ sym (counts_some c.args.text.now number c.is_empty.result c.is_empty.ensures c.if-is_empty.false
    ∙ c.loop-rest.invariant number
    ∙ ap (λ t. comes_to c.loop-rest.number t number) (first_apart rest c.in-len1-up.len_at_least)
    ∙ past c.loop-rest.number (get_or rest 0 0) number (drop 1 rest) below c.in_err-number.ensures)

pub returns : goal.returns
returns c = λ number below.
    let none : c.loop-rest.rest.now ≡ [] = nil_from_length c.loop-rest.rest.now (omega (arith, c.in_default.len_below)) in
    sym (counts_some c.args.text.now number c.is_empty.result c.is_empty.ensures c.if-is_empty.false
    ∙ c.loop-rest.invariant number
    ∙ ap (λ t. comes_to c.loop-rest.number t number) none)
