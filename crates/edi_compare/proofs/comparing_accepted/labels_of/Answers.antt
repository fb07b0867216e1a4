use Rattle.std.proofs.Common.{subst}
use Rattle.edi_plan.proofs.Built.{plans_agreeing}
use Rattle.edi_rank.specs.EqualObjects.{BreaksObjectRule}
use Rattle.edi_record.specs.RecordRefusal.{IsRecordRefusal}
use Rattle.edi_compare.proofs.Headline.{objects_hold}
use Rattle.edi_compare.proofs.comparing_accepted.labels_of.Goals as goal

pub of-requires : goal.of-requires
of-requires c = let states = c.requires.2 in record { agrees = plans_agreeing c.args.schema.now states.0 c.args.sound.now states.2 }

pub unreachable-requires : goal.unreachable-requires
unreachable-requires c =
    let broken = subst (IsRecordRefusal (BreaksObjectRule c.args.sound.now)) c.in-Err-Broken.field-0-is c.in-Err-Broken.ensures.least in
    objects_hold c.args.schema.now c.requires.0 c.requires.1 c.args.sound.now c.requires.2 c.in-Err-Broken.field-0-0 c.in-Err-Broken.field-0-1 broken.is
