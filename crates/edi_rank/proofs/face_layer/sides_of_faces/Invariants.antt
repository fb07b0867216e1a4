use Rattle.std.proofs.Common.{◌≡◌, ◌++◌, drop, map, None, unwrap_or, get_or}
use Rattle.edi_record.specs.declared.record.Kind.TheVariants.{Pfe}
use Rattle.edi_plan.specs.Places.{places_of}
use Rattle.edi_rank.specs.Layers.{no_side}
use Rattle.edi_rank.proofs.face_layer.sides_of_faces.Given as goal

abbrev pub invariant-loop-place : goal.invariant-loop-place
invariant-loop-place l = record {
  places : l.places ≡ places_of Pfe l.plan;
  keys : l.keys.items ++ map (λ k. unwrap_or (get_or l.sides k None) no_side) (drop l.place-index l.places) ≡ map (λ k. unwrap_or (get_or l.sides k None) no_side) l.places;
}
