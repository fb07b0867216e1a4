use Rattle.std.proofs.Common.{◌≡◌, ◌∙◌, ◌+◌, ◌-◌, length, Some, is_some, true, refl, sym, ap, arith}
use Rattle.edi_record.specs.inner.Stored.{kept_ends, end_with}
use Rattle.edi_record.proofs.EndsStored.{sense_taken, second_sense, stray_sense}
use Rattle.edi_record.proofs.LastItems.{front_replaced, last_replaced, open_is, none_open}
use Rattle.edi_record.proofs.ends.Ends.take_sense.Goals as goal

pub returns-in_default : goal.returns-in_default
returns-in_default c = λ z left group e same.
    let list = c.args.list.now in
    stray_sense (kept_ends c.args.self.now list.items) _ z left group e (none_open true list.items list.len list.ok.0 c.in_default.ensures.variant.1) refl

pub returns-then-is_some : goal.returns-then-is_some
returns-then-is_some c = λ z left group e same.
    let list = c.args.list.now in
    let last : list.len - 1 + 1 ≡ length list.items = omega (arith, list.ok.0, c.in-Some.ensures.variant.0 refl) in
    second_sense (kept_ends c.args.self.now list.items) _ c.in-Some.last.now z left group e (open_is true list.items (list.len - 1) c.in-Some.last.now refl last c.in-Some.ensures.value) (sym (c.is_some.ensures ∙ ap is_some c.sns.ensures) ∙ c.if-is_some.true) refl

pub returns : goal.returns
returns c = λ z left group e same.
    let list = c.args.list.now in
    let n = list.len - 1 in
    let o = c.in-Some.last.now in
    let last : n + 1 ≡ length list.items = omega (arith, list.ok.0, c.in-Some.ensures.variant.0 refl) in
    sense_taken (kept_ends c.args.self.now list.items) _ o c.put_sns.new.self z left group e (open_is true list.items n o refl last c.in-Some.ensures.value) (sym (c.is_some.ensures ∙ ap is_some c.sns.ensures) ∙ c.if-is_some.false)
    refl (front_replaced list.items n c.put_sns.new.self last) (last_replaced list.items n c.put_sns.new.self last) (c.put_sns.ensures ∙ ap (λ t. end_with o (Some t)) (c.in_ok-from_slice.ensures ∙ sym same))
