use Rattle.std.proofs.Common.{◌≡◌, drop, map}
use Rattle.std.specs.List.{list_any}
use Rattle.edi_objects.specs.inner.Sheets.{is_marked_place}
use Rattle.edi_objects.proofs.outlines.some_marked.Given as goal

abbrev pub invariant-loop-end : goal.invariant-loop-end
invariant-loop-end l = list_any (is_marked_place l.marks) (map (λ e. e.target) (drop l.end-index l.ends)) ≡ list_any (is_marked_place l.marks) (map (λ e. e.target) l.ends)
