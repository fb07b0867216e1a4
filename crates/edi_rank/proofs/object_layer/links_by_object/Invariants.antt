use Rattle.std.proofs.Common.{◌≡◌, ◌++◌, ℕ, [], true, drop, length, get_or}
use Rattle.edi_plan.specs.Plans.{IsPlace, record_at, is_object}
use Rattle.edi_rank.specs.inner.Pieces.{pieces_from, piece_places}
use Rattle.edi_rank.proofs.object_layer.links_by_object.Given as goal

abbrev pub invariant-loop-place : goal.invariant-loop-place
invariant-loop-place l = record {
  long : length l.links.items ≡ length l.plan.list;
  so_far : (k : ℕ) → IsPlace l.plan k → is_object (record_at l.plan k).kind ≡ true
      → get_or l.links.items k [] ++ pieces_from l.plan k l.place (drop l.place l.plan.list) ≡ piece_places l.plan k;
}
