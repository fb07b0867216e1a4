use Rattle.std.proofs.Common.{◌≡◌, ◌∙◌, ◌+◌, ◌<◌, ◌∷◌, [], length, length-append, ap, sym, subst, arith}
use Rattle.std.specs.List.{AllByRecursion}
use Rattle.edi_record.specs.inner.BlockLists.{IsFull}
use Rattle.edi_record.specs.inner.BlocksAhead.{all_ahead, IsBlockBefore}
use Rattle.edi_record.proofs.BlocksAhead.{block_full}
use Rattle.edi_record.proofs.InBlocks.{one_more_full}
use Rattle.edi_record.proofs.remaking.open_next.Goals as goal

pub returns-then-len-gt0-clause-ready : goal.returns-then-len-gt0-clause-ready
returns-then-len-gt0-clause-ready g c =
    let way = c.requires.under_way in
    let before = c.args.closed.now.items in
    let old = c.args.opened.now in
    let block = c.next-block.result in
    let ahead = c.next-block.new.self in
    let records = ap length c.next-block.ensures.records in
    let long = length-append block (all_ahead ahead) in
    let more : 0 < length (all_ahead c.args.ahead.now) = omega (arith, c.if-len-gt0.true, c.len.ensures, long, records) in
    let total = block_full (length old.made + length old.left) c.args.ahead.now way.block more in
    let full : length old.made ≡ 256 = omega (arith, total, ap length c.requires.done) in
    let done : c.into_made.result ≡ old.made = c.into_made.ensures ∙ ap (λ v. v.made) c.replace-done.ensures.value in
    let opened = c.replace-done.ensures.after ∙ c.new-next.ensures in
    let closed = c.push_behind.ensures in
    let none_made : 0 + length block ≡ length block = omega arith in
    let all = one_more_full before c.into_made.result way.full (ap length done ∙ full) in
    let left = ap (λ v. length v.left) opened in
    let now = ap (λ v. length v.made + length v.left) opened ∙ none_made in
    record {
      under_way = record {
        full = subst (AllByRecursion IsFull) (sym closed) all;
        few = omega (arith, c.requires.few, ap length closed, length-append before (c.into_made.result ∷ []));
        block = subst (λ n. IsBlockBefore n ahead) (sym now) c.next-block.ensures.block;
        blocks = c.next-block.ensures.ahead;
      };
      none = λ none. absurd (omega (arith, left, ap length none, c.if-len-gt0.true, c.len.ensures));
    }
