use Rattle.std.proofs.Common.{◌∙◌, ◌≡◌, ◌+◌, ◌++◌, ℕ, [], ◌∷◌, ap, length}
use Rattle.std.proofs.lemmas.List.{length-append}
use Rattle.edi_plan.specs.Plans.{record_at}
use Rattle.edi_matching.specs.contracts.entries.ContentKeyOrd.TheImpl.{ghosts as keys}
use Rattle.edi_matching.specs.contracts.entries.ContentKeyPartialEq.TheImpl.{ghosts as keys_eq}
use Rattle.edi_matching.specs.inner.Contents.{IsContentNumber}
use Rattle.edi_matching.proofs.ContentNumbers.{each_more}
use Rattle.edi_matching.proofs.contents.numbers_of.Goals as goal

pub loop-place-preserved : goal.loop-place-preserved
loop-place-preserved c =
    let old = c.loop-place.numbers.items in
    let x = c.in_ok-number.number in
    let is : c.push.new.self.items ≡ old ++ x ∷ [] = c.in_ok-push.ensures.items in (
      ap length is ∙ (length-append old (x ∷ []) ∙ ap (λ (n : ℕ). n + 1) c.loop-place.invariant.0),
      each_more (λ k v. IsContentNumber keys.cmp keys_eq.eq c.args.kind c.args.order.now (record_at c.args.plan.now k) v) old c.push.new.self.items c.loop-place.place x c.loop-place.invariant.0 is
          c.in_ok-number.ensures c.loop-place.invariant.1,
    )
