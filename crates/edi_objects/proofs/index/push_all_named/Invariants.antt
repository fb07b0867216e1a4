use Rattle.std.proofs.Common.{◌≡◌, ◌++◌, take}
use Rattle.std.specs.List.{flat_map}
use Rattle.edi_objects.specs.LinksOf.{named_by}
use Rattle.edi_objects.proofs.index.push_all_named.Given as goal

abbrev pub invariant-loop-link : goal.invariant-loop-link
invariant-loop-link l = l.index.items ≡ l.initial.index.items ++ flat_map (named_by l.plan) (take l.link-index l.link-items)
