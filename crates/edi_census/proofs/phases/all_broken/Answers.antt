use Rattle.std.proofs.Common.{◌∙◌, sym}
use Rattle.edi_line.specs.LineRules.{BreaksLineRule}
use Rattle.edi_record.specs.RecordRules.{BreaksRecordRule}
use Rattle.edi_compare.proofs.Phases.{records_held}
use Rattle.edi_census.proofs.PhaseByPhase.{all_of_lines, all_of_records, is_some, none_broken}
use Rattle.edi_census.proofs.phases.all_broken.Goals as goal

pub returns-then-not-is_none : goal.returns-then-not-is_none
returns-then-not-is_none c =
    all_of_lines c.args.schema.now c.args.bytes.now c.in_ok-lines.lines.items c.in_ok-lines.ensures
    (is_some c.deref.result.now c.in_ok-lines.lines.items c.is_none.result c.if-not-is_none.true c.is_none.ensures.some c.deref.ensures.value)

pub broken_in_records-requires : goal.broken_in_records-requires
broken_in_records-requires c =
    none_broken (BreaksLineRule c.args.bytes.now) c.in_ok-lines.lines.items c.in_ok-lines.ensures (sym c.deref.ensures.value ∙ c.is_none.ensures.none c.if-not-is_none.false)

pub returns-then-not-is_none-2 : goal.returns-then-not-is_none-2
returns-then-not-is_none-2 c =
    let lines = none_broken (BreaksLineRule c.args.bytes.now) c.in_ok-lines.lines.items c.in_ok-lines.ensures (sym c.deref.ensures.value ∙ c.is_none.ensures.none c.if-not-is_none.false) in
    let h = c.in_ok-records.ensures in
    all_of_records c.args.schema.now c.args.bytes.now c.in_ok-records.records.items lines h.0 h.1 h.2
    (is_some c.deref-2.result.now c.in_ok-records.records.items c.is_none-2.result c.if-not-is_none-2.true c.is_none-2.ensures.some c.deref-2.ensures.value)

pub broken_in_sheet-requires : goal.broken_in_sheet-requires
broken_in_sheet-requires c =
    let lines = none_broken (BreaksLineRule c.args.bytes.now) c.in_ok-lines.lines.items c.in_ok-lines.ensures (sym c.deref.ensures.value ∙ c.is_none.ensures.none c.if-not-is_none.false) in
    let h = c.in_ok-records.ensures in
    records_held c.args.schema.now c.args.bytes.now lines h.0 h.1
    (none_broken (BreaksRecordRule h.0) c.in_ok-records.records.items h.2 (sym c.deref-2.ensures.value ∙ c.is_none-2.ensures.none c.if-not-is_none-2.false))
