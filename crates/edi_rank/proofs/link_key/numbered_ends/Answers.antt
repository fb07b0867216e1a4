use Rattle.std.proofs.Common.{◌∙◌, ◌++◌, ◌∷◌, [], ℕ, ◌-◌, drop, take, length, ap, map, get_or}
use Rattle.edi_rank.specs.EndOrder.{ends_at}
use Rattle.edi_rank.specs.Keys.{numbered}
use Rattle.edi_rank.proofs.OthersSorted.{ends_keyed}
use Rattle.edi_rank.proofs.link_key.numbered_ends.Goals as goal

pub returns-in_ok-push_others-in-len1-up : goal.returns-in_ok-push_others-in-len1-up
returns-in_ok-push_others-in-len1-up c =
    let p = c.args.plan.now in
    let number : ℕ → ℕ = λ k. get_or c.args.numbers.now k 0 in
    let ends = c.args.ends.now in
    c.in_ok-push_others-in-len1-up.ensures
    ∙ (ap (λ xs. xs ++ map (numbered p number) (ends_at c.args.order.now (take (length ends - 1) (drop 1 ends))))
    (c.in_ok-push-in-len1-up.ensures.items ∙ (ap (λ xs. xs ++ c.numbered_end.result ∷ []) c.in_ok-keys-in-len1-up.ensures.items ∙ ap (λ k. k ∷ []) c.numbered_end.ensures))
    ∙ ends_keyed p number c.args.order.now ends c.origin-item.result c.in-len1-up.len_at_least c.origin-item.is c.requires.order)
