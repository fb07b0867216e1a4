use Rattle.std.proofs.Common.{◌≡◌, ◌<◌, ℕ, List, Option, if◌then◌else◌, length, get_or, subst}
use Rattle.edi_report.specs.Lines.{is_reached}
use Rattle.edi_picture.specs.declared.mark.Mark.TheVariants.{After, Hidden}
use Rattle.edi_drawing.proofs.Marking.{second_marked}
use Rattle.edi_drawing.proofs.marks.second_marks.Goals as goal

pub returns : goal.returns
returns c =
    second_marked c.args.unchanged.now c.args.became.now c.args.count c.in_ok-marks.marks.items c.stamp_all.new.marks.items c.stamp_all-2.new.marks.items c.in_ok-marks.ensures
    c.stamp_all.ensures.length c.stamp_all-2.ensures.length
    (subst (λ (to : List (Option ℕ)). (j : ℕ) → j < length c.in_ok-marks.marks.items → get_or c.stamp_all.new.marks.items j Hidden
    ≡ (if is_reached to j then After else get_or c.in_ok-marks.marks.items j Hidden)) c.as_slice.ensures c.stamp_all.ensures.each)
    (subst (λ (to : List (Option ℕ)). (j : ℕ) → j < length c.stamp_all.new.marks.items → get_or c.stamp_all-2.new.marks.items j Hidden
    ≡ (if is_reached to j then Hidden else get_or c.stamp_all.new.marks.items j Hidden)) c.as_slice-2.ensures c.stamp_all-2.ensures.each)
