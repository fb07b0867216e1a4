use Rattle.std.proofs.Common.{List, sym, subst}
use Rattle.std.proofs.lemmas.Result.{IfOk-weaker}
use Rattle.edi_schema.specs.Sorted.{NeverFalls}
use Rattle.edi_schema.proofs.SortedLists.{never_falls_from_sorted}
use Rattle.edi_changes.specs.Changes.{AreListChanges}
use Rattle.edi_changes.specs.declared.entry.Entry.{Entry}
use Rattle.edi_changes.specs.inner.Merging.{entry_cmp}
use Rattle.edi_changes.proofs.Merging.{in_any_order}
use Rattle.edi_changes.proofs.Orders.{entry_total}
use Rattle.edi_changes.proofs.changes.changes_of.Goals as goal

pub changes_in_order-requires-clause-before : goal.changes_in_order-requires-clause-before
changes_in_order-requires-clause-before c =
    subst (NeverFalls entry_cmp) (sym c.deref.ensures.value) (never_falls_from_sorted entry_cmp entry_total c.sort_unstable.new.self.items c.sort_unstable.ensures.sorted)

pub changes_in_order-requires-clause-after : goal.changes_in_order-requires-clause-after
changes_in_order-requires-clause-after c =
    subst (NeverFalls entry_cmp) (sym c.deref-2.ensures.value) (never_falls_from_sorted entry_cmp entry_total c.sort_unstable-2.new.self.items c.sort_unstable-2.ensures.sorted)

pub returns : goal.returns
returns c = IfOk-weaker c.changes_in_order.result _ _ (λ changes are.
    in_any_order c.args.before.items c.args.after.items c.sort_unstable.new.self.items c.sort_unstable-2.new.self.items changes.items
    c.sort_unstable.ensures.permutation c.sort_unstable-2.ensures.permutation
    (subst (λ (l : List Entry). AreListChanges c.sort_unstable.new.self.items l changes.items) c.deref-2.ensures.value
    (subst (λ (l : List Entry). AreListChanges l c.deref-2.result.now changes.items) c.deref.ensures.value are))) c.changes_in_order.ensures
