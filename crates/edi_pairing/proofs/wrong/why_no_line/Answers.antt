use Rattle.std.proofs.Common.{◌+◌, refl, sym, subst, arith}
use Rattle.edi_pairing.specs.Names.{name_at}
use Rattle.edi_pairing.specs.inner.Wrong.{IsNoPair}
use Rattle.edi_pairing.specs.declared.names.RecordName.{RecordName}
use Rattle.edi_pairing.proofs.TextLemmas.{name_here}
use Rattle.edi_pairing.proofs.WrongLemmas.{pair_first}
use Rattle.edi_pairing.proofs.wrong.why_no_line.Goals as goal

pub returns-in-Some-parts_of : goal.returns-in-Some-parts_of
returns-in-Some-parts_of c =
    let a = c.args.first.now in
    let b = c.args.second.now in
    let next = name_at a c.args.place in
    let parts = c.in-Some-parts_of.parts in
    let name : RecordName = record { kind = parts.kind; rid = parts.rid.now } in
    let here = name_here a a c.args.place c.index-first-place.result refl c.requires.within c.index-first-place.is in
    pair_first a b (c.args.place + 2) next c.args.text.now (omega (arith, c.requires.within)) c.in_default.ensures (λ e. omega (arith, e)) name parts.other.now c.in-Some-parts_of.ensures
    (c.args.place, c.requires.within, refl) c.requires.none c.why_no_pair.result
    (subst (λ n. IsNoPair a b n name parts.other.now c.why_no_pair.result) (sym here) c.why_no_pair.ensures)
