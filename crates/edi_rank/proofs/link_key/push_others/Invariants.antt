use Rattle.std.proofs.Common.{◌≡◌, ◌++◌, map, take}
use Rattle.std.specs.List.{slice_index}
use Rattle.edi_rank.specs.EndOrder.{ends_at}
use Rattle.edi_rank.specs.Keys.{numbered}
use Rattle.edi_rank.proofs.link_key.push_others.Given as goal

abbrev pub invariant-loop-index : goal.invariant-loop-index
invariant-loop-index l = l.keys.items ≡ l.fn.keys.items ++ map (numbered l.plan (slice_index l.numbers)) (take l.index (ends_at l.order l.others))
