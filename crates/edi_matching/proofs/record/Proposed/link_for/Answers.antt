use Rattle.std.proofs.Common.{◌∙◌, Ordering, None, get_or, subst, sym, true≢false, IsSorted}
use Rattle.std.specs.Ordering.{nat_cmp, ordering_then}
use Rattle.edi_line.proofs.Truths.{some_is}
use Rattle.edi_rank.specs.declared.keys.LinkKey.{LinkKey}
use Rattle.edi_rank.proofs.KeyOrders.{link_order}
use Rattle.edi_matching.proofs.LinkKeys.{left_if_missed, none_missed, none_with}
use Rattle.edi_matching.proofs.record.Proposed.link_for.Goals.{then-is_some-via-then-is_some, then-is_some-via-else-is_some+then-not-has_matched_ends}
use Rattle.edi_matching.proofs.record.Proposed.link_for.Goals as goal

pub member_with-requires : goal.member_with-requires
member_with-requires c =
    subst (λ (cmp : LinkKey → LinkKey → Ordering). IsSorted (λ x y. ordering_then (cmp x.0 y.0) (nat_cmp x.1 y.1)) c.args.links.now) (λ i a b. sym (link_order a b) i) c.requires.sorted

pub returns-then-is_some : goal.returns-then-is_some
returns-then-is_some c = λ left j free.
    elim c.then-is_some.branch [
      | then-is_some-via-then-is_some w ↦ left (some_is (get_or c.args.to.now c.args.place None) (sym c.is_some.ensures ∙ w.if-is_some.true))
      | then-is_some-via-else-is_some+then-not-has_matched_ends w ↦ true≢false (sym (w.has_matched_ends.ensures.1 free.ends) ∙ w.if-not-has_matched_ends.true)
    ]

pub returns-then-is_none : goal.returns-then-is_none
returns-then-is_none c =
    let free = c.requires.lists in
    λ left. none_missed c.args.self.now c.requires.targets c.requires.holds c.args.place free.0 c.args.reached.now c.args.links.now c.requires.link free.1 free.2 c.in_ok-key.key
    c.in_ok-key.ensures (none_with c.args.links.now c.in_ok-key.key c.member_with.result c.if-is_none.ensures c.member_with.ensures)

pub returns : goal.returns
returns c =
    left_if_missed c.args.self.now c.args.reached.now c.args.to.now c.args.place (sym c.is_some.ensures ∙ c.if-is_some.false) c.first_missed.result c.first_missed.ensures
