use Rattle.std.specs.List.{slice_index}
use Rattle.edi_compare.proofs.Placed.{first_known}
use Rattle.edi_compare.proofs.moved_ends.same_ends.Goals as goal

pub returns-else-not-same_end : goal.returns-else-not-same_end
returns-else-not-same_end c =
    first_known (slice_index c.args.to.now) c.in-Some-Some.origin.now c.in-Some-Some.other.now c.args.ends.now c.args.others.now c.in-Some-Some.rest.now c.in-Some-Some.more.now c.same_others.result
    c.in-Some-Some.ensures.cases.0 c.in-Some-Some.ensures'.cases.0 (c.same_end.ensures.0 c.if-not-same_end.false) c.same_others.ensures
