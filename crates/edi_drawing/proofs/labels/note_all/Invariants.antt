use Rattle.std.proofs.Common.{◌≡◌, ◌==◌, ◌<◌, ℕ, None, Some, if◌then◌else◌, length, get_or, take}
use Rattle.std.specs.List.{list_any}
use Rattle.std.specs.Option.{option_or}
use Rattle.edi_drawing.proofs.labels.note_all.Given as goal

abbrev pub invariant-loop-end : goal.invariant-loop-end
invariant-loop-end l = (length l.callers.items ≡ length l.initial.callers.items) × ((k : ℕ) → k < length l.initial.callers.items → get_or l.callers.items k None ≡ option_or (get_or l.initial.callers.items k None) (if list_any (λ e. e.target == k) (take l.end-index l.ends) then Some l.link else None))
