use Rattle.std.proofs.Common.{sym, ap, ◌∙◌}
use Rattle.std.specs.List.{list_any}
use Rattle.edi_line.specs.ZoneData.{entry}
use Rattle.edi_record.specs.inner.Records.{zones_placed}
use Rattle.edi_record.specs.inner.Stored.{is_stray}
use Rattle.edi_record.proofs.AttributesRead.{cut_first, nothing_left}
use Rattle.edi_record.proofs.GroupRules.{placed_found, placed_passed, placed_end}
use Rattle.edi_record.proofs.group_rules.has_stray_value.Goals as goal

pub returns-then-is_stray_value : goal.returns-then-is_stray_value
returns-then-is_stray_value c =
    sym (c.loop-left.invariant
    ∙ ap (λ zs. list_any is_stray (zones_placed c.loop-left.is_open zs)) (cut_first c.loop-left.left.now _ c.zone-item.result c.in-len1-up.len_at_least c.zone-item.is)
    ∙ placed_found is_stray c.loop-left.is_open (entry c.zone-item.result) _ (sym c.is_stray_value.ensures ∙ c.if-is_stray_value.true))

pub loop-left-preserved : goal.loop-left-preserved
loop-left-preserved c =
    c.loop-left.invariant
    ∙ ap (λ zs. list_any is_stray (zones_placed c.loop-left.is_open zs)) (cut_first c.loop-left.left.now _ c.zone-item.result c.in-len1-up.len_at_least c.zone-item.is)
    ∙ placed_passed is_stray c.loop-left.is_open c.is_open_behind-is_open.result (entry c.zone-item.result) _ (sym c.is_stray_value.ensures ∙ c.if-is_stray_value.false) c.is_open_behind-is_open.ensures

pub returns : goal.returns
returns c =
    sym (c.loop-left.invariant
    ∙ ap (λ zs. list_any is_stray (zones_placed c.loop-left.is_open zs)) (nothing_left c.loop-left.left.now c.in_default.len_below)
    ∙ placed_end is_stray c.loop-left.is_open)
