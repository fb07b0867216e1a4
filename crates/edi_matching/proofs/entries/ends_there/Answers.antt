use Rattle.std.proofs.Common.{◌∙◌, ◌++◌, ◌≡◌, [], ◌∷◌, None, Some, List, ap, cond, option_map, subst, sym, IsSorted}
use Rattle.edi_schema.proofs.SortedLists.{sorted_is}
use Rattle.edi_rank.specs.Keys.{end_cmp}
use Rattle.edi_rank.specs.declared.keys.NumberedEnd.{NumberedEnd}
use Rattle.edi_rank.proofs.KeyOrders.{end_order}
use Rattle.edi_rank.proofs.Orders.{end_exact, end_total}
use Rattle.edi_matching.specs.inner.Entries.{all_there}
use Rattle.edi_matching.proofs.EndsMoved.{ends_moved}
use Rattle.edi_matching.proofs.Listed.{option_map-nil}
use Rattle.edi_matching.proofs.entries.ends_there.Goals as goal

pub returns : goal.returns
returns c =
    let p = c.args.plan.now in
    let to = c.args.to.now in
    let others = c.in-Some.others.now in
    let origin = c.in-Some-end_there.origin in
    let moved = c.push_there.new.there.items in
    let sorted = c.sort_unstable.new.self.items in
    let all : all_there p to others ≡ Some moved = sym (option_map-nil (all_there p to others))
    ∙ (ap (λ (xs : List NumberedEnd). option_map (λ ys. xs ++ ys) (all_there p to others)) (sym c.in_ok-there.ensures.items)
    ∙ (c.in_ok-push_there.ensures ∙ ap (λ b. cond b (Some moved) None) c.if-not-branch.false)) in
    let is = sorted_is end_cmp end_total end_exact moved sorted c.sort_unstable.ensures.permutation (subst (λ cmp. IsSorted cmp sorted) (λ i a b. end_order a b i) c.sort_unstable.ensures.sorted) in
    ap Some (c.in_ok-push.ensures.items ∙ ap (λ (xs : List NumberedEnd). xs ++ origin ∷ []) is)
    ∙ sym (ends_moved p to c.args.ends.now c.in-Some.first.now others origin (Some moved) c.in-Some.ensures.cases.0 (sym c.end_there.ensures ∙ c.in-Some-end_there.is) all)
