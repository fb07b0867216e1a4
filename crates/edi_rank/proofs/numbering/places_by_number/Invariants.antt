use Rattle.std.proofs.Common.{◌≡◌, ◌<◌, ◌-◌, ℕ, length, get_or}
use Rattle.edi_rank.proofs.numbering.places_by_number.Given as goal

abbrev pub invariant-loop-place : goal.invariant-loop-place
invariant-loop-place l = record {
  length : length l.order.items ≡ length l.places;
  member : l.member ≡ l.place-index;
  places : (m : ℕ) → m < l.place-index → get_or l.order.items (get_or l.ranks m 0 - 1) 0 ≡ get_or l.places m 0;
}
