use Rattle.std.proofs.Common.{ℕ, List, subst}
use Rattle.std.specs.Ordering.{nat_cmp}
use Rattle.edi_matching.specs.contracts.entries.ContentKeyOrd.TheImpl.{ghosts as keys}
use Rattle.edi_matching.specs.contracts.entries.ContentKeyPartialEq.TheImpl.{ghosts as keys_eq}
use Rattle.edi_matching.specs.declared.entries.ContentKey.{ContentKey}
use Rattle.edi_matching.specs.inner.Contents.{AreContentNumbers}
use Rattle.edi_matching.proofs.LoneKeys.{keys_in_order}
use Rattle.edi_matching.proofs.contents.numbered_contents.Goals as goal

pub returns : goal.returns
returns c =
    let order = c.in_ok-order.order.items in
    record {
      order = order;
      ordered = keys_in_order keys.cmp nat_cmp order c.in_ok-order.ensures.sorted;
      listed = c.in_ok-order.ensures.records;
      here = subst (λ (xs : List (ContentKey × ℕ)). AreContentNumbers keys.cmp keys_eq.eq c.args.kind xs c.args.first.now c.in_ok-numbers_of.field-0.items) c.deref.ensures.value c.in_ok-numbers_of.ensures;
      there = subst (λ (xs : List (ContentKey × ℕ)). AreContentNumbers keys.cmp keys_eq.eq c.args.kind xs c.args.second.now c.in_ok-numbers_of-2.field-0.items) c.deref-2.ensures.value c.in_ok-numbers_of-2.ensures;
    }
