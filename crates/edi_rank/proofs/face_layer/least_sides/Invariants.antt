use Rattle.std.proofs.Common.{◌≡◌, length}
use Rattle.std.specs.List.{slice_index}
use Rattle.edi_record.specs.declared.record.Kind.TheVariants.{Par}
use Rattle.edi_plan.specs.Places.{places_of}
use Rattle.edi_rank.proofs.SidesTaken.{AreLeastBelow}
use Rattle.edi_rank.proofs.face_layer.least_sides.Given as goal

abbrev pub invariant-loop-arc : goal.invariant-loop-arc
invariant-loop-arc l = record {
  arcs : l.arc-items ≡ places_of Par l.plan;
  long : length l.sides.items ≡ length l.plan.list;
  least : AreLeastBelow l.plan (slice_index l.numbers) l.arc-index l.sides.items;
}
