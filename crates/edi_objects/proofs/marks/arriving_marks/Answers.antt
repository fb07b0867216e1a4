use Rattle.std.proofs.Common.{◌∙◌, ◌||◌, ◌<◌, Bool, List, ap, false, get_or, length, subst, sym}
use Rattle.edi_report.specs.Reports.{Report}
use Rattle.edi_report.specs.Tables.{AreMarks}
use Rattle.edi_objects.specs.Differing.{arrives}
use Rattle.edi_objects.specs.inner.Marks.{is_moved_onto}
use Rattle.edi_objects.specs.inner.Sheets.{AreTested}
use Rattle.edi_objects.proofs.Marked.{tested_arriving, written_back}
use Rattle.edi_objects.proofs.marks.arriving_marks.Goals as goal

pub returns : goal.returns
returns c =
    let r = c.args.report.now in
    let new = c.mark_moved.new.marks in
    let items = c.in_ok-marks.marks.items in
    let value = c.deref_mut.ensures.value in
    let long = c.mark_moved.ensures.length ∙ ap length value in
    let reached = subst (λ (x : Report). AreMarks x.became (length x.second.accepted.list) c.report.inside.reached.now) c.report.view_is c.report.invariant.1 in
    subst (AreTested (arrives r) (length r.second.accepted.list)) (sym (written_back c.in_ok-marks.marks.len new items long (sym (ap length value) ∙ c.deref_mut.ensures.len)))
    (tested_arriving r c.report.inside.reached.now items new reached c.in_ok-marks.ensures long
    (λ j h. c.mark_moved.ensures.each j (subst (λ n. j < n) (sym (ap length value)) h) ∙ ap (λ (xs : List Bool). get_or xs j false || is_moved_onto r (length r.became) j) value))
