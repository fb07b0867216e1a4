use Rattle.std.proofs.Common.{subst}
use Rattle.edi_line.specs.LineRules.{BreaksLineRule}
use Rattle.edi_line.specs.Refusal.{IsLineRefusal}
use Rattle.edi_record.specs.RecordRefusal.{IsRecordRefusal, IsSheetRefusal}
use Rattle.edi_record.specs.RecordRules.{BreaksRecordRule}
use Rattle.edi_census.proofs.phases.sheet_of.Goals as goal

pub unreachable-requires : goal.unreachable-requires
unreachable-requires c =
    let b = c.args.bytes.now in
    let in_line = subst (IsSheetRefusal b) c.in-Err-Line-Broken.field-0-is c.in-Err-Line-Broken.ensures.refusal in
    let least = subst (IsLineRefusal (BreaksLineRule b)) c.in-Err-Line-Broken.field-0-0-is in_line in
    c.requires.0 _ _ least.is

pub unreachable-requires-in-Err-Record-Broken : goal.unreachable-requires-in-Err-Record-Broken
unreachable-requires-in-Err-Record-Broken c =
    let b = c.args.bytes.now in
    let in_record = subst (IsSheetRefusal b) c.in-Err-Record-Broken.field-0-is c.in-Err-Record-Broken.ensures.refusal in
    let least = subst (IsRecordRefusal (BreaksRecordRule in_record.1.0)) c.in-Err-Record-Broken.field-0-0-is in_record.1.2 in
    c.requires.1 in_record.1.0 in_record.1.1 _ _ least.is
