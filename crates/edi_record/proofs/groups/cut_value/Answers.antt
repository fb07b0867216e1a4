use Rattle.std.proofs.Common.{◌∙◌, ap, sym}
use Rattle.edi_line.specs.ZoneData.{entry}
use Rattle.edi_record.specs.Records.{values}
use Rattle.edi_record.proofs.AttributesRead.{cut_first, nothing_left}
use Rattle.edi_record.proofs.GroupCuts.{value_here, value_skipped}
use Rattle.edi_record.proofs.groups.cut_value.Goals as goal

pub returns-then-eq : goal.returns-then-eq
returns-then-eq c =
    c.loop-rest.invariant
    ∙ (ap (values c.args.code) (cut_first c.loop-rest.rest.now _ c.zone-item.result c.in-len1-up.len_at_least c.zone-item.is)
    ∙ value_here c.args.code (entry c.zone-item.result) _ _ (sym c.eq.ensures ∙ c.if-eq.true) c.as_slice.ensures.value)

pub loop-rest-preserved : goal.loop-rest-preserved
loop-rest-preserved c =
    c.loop-rest.invariant
    ∙ (ap (values c.args.code) (cut_first c.loop-rest.rest.now _ c.zone-item.result c.in-len1-up.len_at_least c.zone-item.is)
    ∙ value_skipped c.args.code (entry c.zone-item.result) _ (sym c.eq.ensures ∙ c.if-eq.false))

pub returns : goal.returns
returns c = c.loop-rest.invariant ∙ ap (values c.args.code) (nothing_left c.loop-rest.rest.now c.in_default.len_below)
