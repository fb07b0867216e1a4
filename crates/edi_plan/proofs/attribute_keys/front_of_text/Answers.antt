use Rattle.std.proofs.Common.{◌≡◌, ◌∙◌, ◌+◌, ◌-◌, ◌*◌, suc, sym, ap, drop, get_or, arith}
use Rattle.edi_plan.specs.inner.AttributeFronts.{front_from}
use Rattle.edi_plan.proofs.AttributeFronts.{are_bytes, one_byte, room}
use Rattle.edi_plan.proofs.attribute_keys.front_of_text.Goals as goal

pub overflow_mul-number : goal.overflow_mul-number
overflow_mul-number c =
    let r = room c.loop-place.place c.loop-place.number c.loop-place-test.true c.loop-place.invariant.1 in
    omega (arith, r.1)

pub overflow_add-number : goal.overflow_add-number
overflow_add-number c =
    let r = room c.loop-place.place c.loop-place.number c.loop-place-test.true c.loop-place.invariant.1 in
    omega (arith, r.1, c.from.ensures, c.byte_or_zero.type_inv)

pub loop-place-preserved : goal.loop-place-preserved
loop-place-preserved c =
    let place = c.loop-place.place in
    let number = c.loop-place.number in
    let text = c.args.text.now in
    let r = room place number c.loop-place-test.true c.loop-place.invariant.1 in
    let byte : c.from.result ≡ get_or text place 0 = c.from.ensures ∙ c.byte_or_zero.ensures in
    let left : 7 - place ≡ suc (7 - (place + 1)) = omega (arith, c.loop-place-test.true) in
    let more = one_byte number (7 - (place + 1)) place text in (
      ap (λ b. front_from (number * 256 + b) (7 - (place + 1)) (drop (place + 1) text)) byte
          ∙ (sym more ∙ (ap (λ k. front_from number k (drop place text)) (sym left) ∙ c.loop-place.invariant.0)),
      omega (arith, r.0, c.from.ensures, c.byte_or_zero.type_inv),
    )

pub returns-clause-bytes : goal.returns-clause-bytes
returns-clause-bytes c = are_bytes c.args.text.now (λ i. let h = c.type_inv.text i in omega (arith, h))
