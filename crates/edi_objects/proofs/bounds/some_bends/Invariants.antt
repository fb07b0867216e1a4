use Rattle.std.proofs.Common.{◌≡◌, drop, map}
use Rattle.std.specs.List.{list_any}
use Rattle.edi_objects.specs.Bounds.{bends}
use Rattle.edi_objects.specs.inner.Sheets.{is_marked_place}
use Rattle.edi_objects.proofs.bounds.some_bends.Given as goal

abbrev pub invariant-loop-end : goal.invariant-loop-end
invariant-loop-end l = list_any (bends (is_marked_place l.marks) l.plan l.link) (map (λ e. e.target) (drop l.end-index l.end-items)) ≡ list_any (bends (is_marked_place l.marks) l.plan l.link) (map (λ e. e.target) l.end-items)
