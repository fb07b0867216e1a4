use Rattle.std.proofs.Common.{◌≡◌, map, take}
use Rattle.std.specs.List.{slice_index}
use Rattle.edi_rank.specs.Keys.{numbered}
use Rattle.edi_matching.proofs.links.sorted_others.Given as goal

abbrev pub invariant-loop-end : goal.invariant-loop-end
invariant-loop-end l = l.moved.items ≡ map (numbered l.plan (slice_index l.targets)) (take l.end-index l.ends)
