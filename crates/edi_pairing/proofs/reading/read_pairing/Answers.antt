use Rattle.std.proofs.Common.{◌≡◌, ◌∙◌, ◌+◌, ◌-◌, ℕ, Bool, List, length, sym, ap, subst, arith}
use Rattle.edi_pairing.specs.Names.{AreNames, name_at}
use Rattle.edi_pairing.specs.PairingText.{StatesPairing}
use Rattle.edi_pairing.specs.inner.Reading.{BeginsWith}
use Rattle.edi_pairing.specs.declared.fault.WrongLine.TheVariants.{Extra}
use Rattle.edi_pairing.specs.declared.names.RecordName.{RecordName}
use Rattle.edi_pairing.proofs.TextLemmas.{name_here, one_read, wrong_head, wrong_line, wrong_end, all_read, none_left, some_left}
use Rattle.edi_pairing.proofs.WrongLemmas.{extra_first, reason_here}
use Rattle.edi_pairing.proofs.reading.read_pairing.Goals as goal

pub returns-in_default-clause-refusal : goal.returns-in_default-clause-refusal
returns-in_default-clause-refusal c =
    let why = c.why_no_head-why.result in
    wrong_head c.args.first.now c.args.second.now c.args.file.now why c.in_default.ensures
    (reason_here c.as_slice.result.now c.args.first.now c.as_slice-in_default.result.now c.args.second.now 1 0 c.args.file.now why c.as_slice.ensures.is c.as_slice-in_default.ensures.is
    (c.why_no_head-why.ensures (name_at c.as_slice.result.now 0)))

pub loop-place-preserved : goal.loop-place-preserved
loop-place-preserved c =
    let a = c.args.first.now in
    let b = c.args.second.now in
    let name = c.index-names-place.result in
    let line = c.in-Some-read_line.line in
    let is = name_here c.as_slice-names.result.now a c.loop-place.place name c.as_slice-names.ensures.is c.loop-place-test.true c.index-names-place.is in
    one_read a b c.args.file.now c.loop-place.to.items c.push.new.self.items c.loop-place.turned.items c.push-in-loop-place.new.self.items c.loop-place.place line.to line.turned c.loop-place.text.now line.behind.now name c.loop-place.invariant is
    (subst (λ (names : List RecordName). BeginsWith names name c.loop-place.text.now line.to line.turned line.behind.now) c.in_ok-places.ensures c.in-Some-read_line.ensures)
    c.in_ok-push.ensures.items c.in_ok-push-2.ensures.items

pub returns-in_default-read_line-clause-refusal : goal.returns-in_default-read_line-clause-refusal
returns-in_default-read_line-clause-refusal c =
    let a = c.args.first.now in
    let b = c.args.second.now in
    let name = c.index-names-place.result in
    let is = name_here c.as_slice-names.result.now a c.loop-place.place name c.as_slice-names.ensures.is c.loop-place-test.true c.index-names-place.is in
    let why = c.why_no_line-why.result in
    wrong_line a b (subst AreNames (c.places.view_is ∙ c.in_ok-places.ensures) c.places.invariant) c.args.file.now c.loop-place.to.items c.loop-place.turned.items c.loop-place.text.now c.loop-place.place name c.loop-place.invariant
    (omega (arith, ap length c.as_slice-names.ensures.is, c.loop-place-test.true)) is
    (subst (λ (names : List RecordName). (t : ℕ) (u : Bool) (behind : List ℕ) → ¬ (BeginsWith names name c.loop-place.text.now t u behind)) c.in_ok-places.ensures c.in_default-read_line.ensures)
    why (reason_here c.as_slice-names.result.now a c.as_slice-in_default-read_line.result.now b (c.loop-place.place + 2) c.loop-place.place c.loop-place.text.now why
    c.as_slice-names.ensures.is c.as_slice-in_default-read_line.ensures.is c.why_no_line-why.ensures)

pub returns-then-not-is_empty-clause-refusal : goal.returns-then-not-is_empty-clause-refusal
returns-then-not-is_empty-clause-refusal c =
    let a = c.args.first.now in
    let long = ap length c.as_slice-names.ensures.is in
    let all : c.loop-place.place ≡ length a = omega (arith, long, c.loop-place-test.false, c.loop-place.auto.place-end) in
    let b = c.args.second.now in
    let some = some_left c.loop-place.text.now c.is_empty.result c.is_empty.ensures c.if-not-is_empty.true in
    let line = length c.as_slice-names.result.now + 2 in
    wrong_end a b (subst AreNames (c.places.view_is ∙ c.in_ok-places.ensures) c.places.invariant) c.args.file.now c.loop-place.to.items c.loop-place.turned.items c.loop-place.text.now c.loop-place.place line all (omega (arith, all, long))
    c.loop-place.invariant some Extra (extra_first a b line (name_at a (line - 2)) c.loop-place.text.now some (omega (arith, long)))

pub returns-clause-states : goal.returns-clause-states
returns-clause-states c =
    let a = c.args.first.now in
    let b = c.args.second.now in
    let all : c.loop-place.place ≡ length a = omega (arith, ap length c.as_slice-names.ensures.is, c.loop-place-test.false, c.loop-place.auto.place-end) in
    subst (λ to. StatesPairing a b (record { to = to; turned = c.from_vec-2.result }) c.args.file.now) (sym c.from_vec.ensures)
    (subst (λ turned. StatesPairing a b (record { to = c.loop-place.to.items; turned = turned }) c.args.file.now) (sym c.from_vec-2.ensures)
    (all_read a b c.args.file.now c.loop-place.to.items c.loop-place.turned.items c.loop-place.text.now c.loop-place.place all c.loop-place.invariant
    (none_left c.loop-place.text.now c.is_empty.result c.is_empty.ensures c.if-not-is_empty.false)))
