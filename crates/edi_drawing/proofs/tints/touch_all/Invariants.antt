use Rattle.std.proofs.Common.{◌≡◌, ◌==◌, ◌<◌, ◌||◌, ℕ, false, length, get_or, take}
use Rattle.std.specs.List.{list_any}
use Rattle.edi_drawing.proofs.tints.touch_all.Given as goal

abbrev pub invariant-loop-end : goal.invariant-loop-end
invariant-loop-end l = (length l.touched.items ≡ length l.initial.touched.items) × ((k : ℕ) → k < length l.initial.touched.items → get_or l.touched.items k false ≡ (get_or l.initial.touched.items k false || list_any (λ e. e.target == k) (take l.end-index l.ends)))
