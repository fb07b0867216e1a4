use Rattle.std.proofs.Common.{◌≡◌, length}
use Rattle.edi_plan.specs.Places.{places_of}
use Rattle.edi_rank.proofs.KindNumbers.{WrittenTo, OthersStay}
use Rattle.edi_rank.proofs.numbering.number_kind.Given as goal

abbrev pub invariant-loop-place : goal.invariant-loop-place
invariant-loop-place l = record {
  places : l.place-items ≡ places_of l.fn.kind l.plan;
  long : length l.numbers.items ≡ length l.plan.list;
  member : l.member ≡ l.place-index;
  each : WrittenTo l.plan l.fn.kind l.ranks l.place-index l.numbers.items;
  others : OthersStay l.plan l.fn.kind l.initial.numbers.items l.numbers.items;
}
