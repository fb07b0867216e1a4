use Rattle.std.proofs.Common.{◌≡◌, drop, map}
use Rattle.std.specs.List.{list_any}
use Rattle.edi_objects.specs.Differing.{bounds_anew}
use Rattle.edi_objects.specs.inner.Sheets.{is_marked_place}
use Rattle.edi_objects.proofs.outlines.outline_differs.Given as goal

abbrev pub invariant-loop-link : goal.invariant-loop-link
invariant-loop-link l = list_any (bounds_anew (is_marked_place l.marks) l.plan l.place) (map (λ named. named.1) (drop l.link-index l.link-items)) ≡ list_any (bounds_anew (is_marked_place l.marks) l.plan l.place) (map (λ named. named.1) l.link-items)
