use Rattle.std.proofs.Common.{◌≡◌, ◌<◌, ◌||◌, ℕ, false, get_or, length}
use Rattle.edi_objects.specs.inner.Marks.{is_moved_onto}
use Rattle.edi_objects.proofs.marks.mark_moved.Given as goal

abbrev pub invariant-loop-place : goal.invariant-loop-place
invariant-loop-place l = (length l.marks ≡ length l.initial.marks) × ((j : ℕ) → j < length l.initial.marks → get_or l.marks j false ≡ (get_or l.initial.marks j false || is_moved_onto l.report l.place j))
