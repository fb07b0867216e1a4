use Rattle.std.proofs.Common.{◌≡◌, ◌++◌, drop, map}
use Rattle.std.specs.List.{slice_index}
use Rattle.edi_plan.specs.Plans.{record_at}
use Rattle.edi_rank.specs.Keys.{link_key}
use Rattle.edi_rank.proofs.object_layer.sorted_pieces.Given as goal

abbrev pub invariant-loop-link : goal.invariant-loop-link
invariant-loop-link l = l.keys.items ++ map (λ k. link_key l.plan (slice_index l.numbers) (record_at l.plan k)) (drop l.link-index l.links) ≡ map (λ k. link_key l.plan (slice_index l.numbers) (record_at l.plan k)) l.links
