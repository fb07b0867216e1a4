use Rattle.std.proofs.Common.{sym, ◌∙◌}
use Rattle.edi_line.specs.ZoneData.{entry, entries}
use Rattle.edi_record.proofs.AttributesRead.{cut_first}
use Rattle.edi_record.proofs.GroupRules.{sense_later}
use Rattle.edi_record.proofs.group_rules.has_stray_sense.Goals as goal

pub loop-left-preserved : goal.loop-left-preserved
loop-left-preserved c =
    c.loop-left.invariant
    ∙ sense_later (entries c.loop-left.left.now) (entry c.zone-item.result) _ (cut_first c.loop-left.left.now _ c.zone-item.result c.in-len1-up.len_at_least c.zone-item.is) (sym c.eq.ensures ∙ c.if-eq.false) (sym c.eq-in-len1-up.ensures ∙ c.if-eq-2.false)
