use Rattle.std.proofs.Common.{◌≡◌, ◌<◌, ℕ, if◌then◌else◌, length, get_or, take}
use Rattle.edi_report.specs.Lines.{is_reached}
use Rattle.edi_picture.specs.declared.mark.Mark.TheVariants.{Hidden}
use Rattle.edi_drawing.proofs.marks.stamp_all.Given as goal

abbrev pub invariant-loop-went : goal.invariant-loop-went
invariant-loop-went l = record {
  long : length l.marks.items ≡ length l.initial.marks.items;
  each : (j : ℕ) → j < length l.initial.marks.items → get_or l.marks.items j Hidden ≡ (if is_reached (take l.went-index l.to) j then l.mark else get_or l.initial.marks.items j Hidden);
}
