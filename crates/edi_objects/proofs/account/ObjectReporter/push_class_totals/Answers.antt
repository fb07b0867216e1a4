use Rattle.std.proofs.Common.{◌∙◌, ap}
use Rattle.edi_objects.specs.Counts.{class_count}
use Rattle.edi_objects.proofs.account.ObjectReporter.push_class_totals.Goals as goal

pub returns : goal.returns
returns c is = c.push_class_lines.ensures (record {
  all_gone = λ class. c.of.ensures class ∙ ap (class_count class) c.in_ok-gone_classes.ensures;
  all_new = λ class. c.of-2.ensures class ∙ ap (class_count class) c.in_ok-new_classes.ensures;
  all_changed = λ class. c.of-3.ensures class ∙ ap (class_count class) is;
})
