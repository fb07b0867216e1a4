use Rattle.std.proofs.Common.{◌≡◌, ◌++◌, take}
use Rattle.std.specs.List.{filter_map}
use Rattle.edi_plan.specs.Plans.{record_at}
use Rattle.edi_matching.specs.inner.Entries.{neighbour_entry}
use Rattle.edi_matching.proofs.entries.push_beside.Given as goal

-- an entry for each of the ends so far that is matched
abbrev pub invariant-loop-end : goal.invariant-loop-end
invariant-loop-end l = l.objects.items ≡ l.initial.objects.items
    ++ filter_map (neighbour_entry l.here.plan.now l.there.labels.now l.to l.class l.contents l.member) (take l.end-index (record_at l.here.plan.now l.link).ends)
