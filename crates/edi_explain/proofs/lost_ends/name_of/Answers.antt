use Rattle.std.proofs.Common.{◌∙◌}
use Rattle.edi_explain.proofs.LostEnds.{name_is}
use Rattle.edi_explain.proofs.lost_ends.name_of.Goals as goal

pub returns : goal.returns
returns c =
    name_is c.args.group.now c.head-item.result c.in-Some.rid.now c.in_ok-owned_name.field-0 c.in-len1-up.len_at_least c.head-item.is c.in-Some.ensures
    (c.in_ok-owned_name.ensures ∙ (λ i. record { rty = c.as_slice.ensures.value i; rid = c.in-Some.rid.now }))
