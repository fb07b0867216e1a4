use Rattle.std.proofs.Common.{◌∙◌, ◌++◌, ◌∷◌, [], List, ℕ, sym, ap, subst}
use Rattle.edi_changes.specs.declared.changes.Change.{Change}
use Rattle.edi_changes.proofs.Merging.{Merged, all_merged, none_merged, one_merged}
use Rattle.edi_changes.proofs.Orders.{some_run}
use Rattle.edi_changes.proofs.merge.changes_in_order.Goals as goal

pub loop-subject-init : goal.loop-subject-init
loop-subject-init c =
    subst (λ (changes : List Change). Merged c.args.before.now c.args.after.now changes c.args.before.now c.args.after.now) (sym c.new-changes.ensures.items)
    (none_merged c.args.before.now c.args.after.now c.requires.before c.requires.after)

pub fate_of-requires : goal.fate_of-requires
fate_of-requires c =
    some_run c.in-Some.subject.now c.loop-subject.old.now c.loop-subject.new.now c.run_of.result.0.now c.run_of.result.1.now c.run_of-in-Some.result.0.now c.run_of-in-Some.result.1.now
    c.in-Some.ensures c.run_of.ensures.cut c.run_of-in-Some.ensures.cut c.run_of.ensures.behind c.run_of-in-Some.ensures.behind

pub loop-subject-preserved : goal.loop-subject-preserved
loop-subject-preserved c =
    let items = c.loop-subject.changes.items in
    let now = c.in_ok-push.ensures.items ∙ ap (λ (t : List ℕ). items ++ record { subject = t; fate = c.fate_of.result } ∷ []) c.in_ok-clone.ensures.cases in
    subst (λ (changes : List Change). Merged c.args.before.now c.args.after.now changes c.run_of.result.1.now c.run_of-in-Some.result.1.now) (sym now)
    (one_merged c.args.before.now c.args.after.now items c.loop-subject.old.now c.loop-subject.new.now c.loop-subject.invariant c.in-Some.subject.now
    c.run_of.result.0.now c.run_of.result.1.now c.run_of-in-Some.result.0.now c.run_of-in-Some.result.1.now c.run_of.ensures.cut c.run_of-in-Some.ensures.cut
    c.run_of.ensures.run c.run_of-in-Some.ensures.run c.run_of.ensures.behind c.run_of-in-Some.ensures.behind c.fate_of.result c.fate_of.ensures)

pub returns : goal.returns
returns c = all_merged c.args.before.now c.args.after.now c.loop-subject.changes.items c.loop-subject.old.now c.loop-subject.new.now c.loop-subject.invariant c.in_default.ensures.0 c.in_default.ensures.1
