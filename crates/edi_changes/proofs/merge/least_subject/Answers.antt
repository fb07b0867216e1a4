use Rattle.edi_changes.proofs.Orders.{least_before, least_of_two}
use Rattle.edi_changes.proofs.merge.least_subject.Goals as goal

pub returns-in_default-cut_first : goal.returns-in_default-cut_first
returns-in_default-cut_first c =
    least_before c.args.before.now c.args.after.now c.in-Some.old.now c.in-Some.field-0-1.now c.in_default-cut_first.ensures c.in-Some.ensures c.requires.before

pub returns : goal.returns
returns c =
    least_of_two c.args.before.now c.args.after.now c.in-Some.old.now c.in-Some.field-0-1.now c.in-Some-cut_first.new.now c.in-Some-cut_first.field-0-1.now c.lesser.result.now
    c.in-Some.ensures c.in-Some-cut_first.ensures c.requires.before c.requires.after c.lesser.ensures
