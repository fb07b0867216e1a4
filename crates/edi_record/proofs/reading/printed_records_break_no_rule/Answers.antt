use Rattle.edi_record.specs.RecordLayout.{zones_of_record}
use Rattle.edi_record.specs.inner.RecordRules.{record_tests}
use Rattle.edi_line.proofs.FirstBroken.{none_broken}
use Rattle.edi_record.proofs.PrintedRecords.{printed_unbroken}
use Rattle.edi_record.proofs.RulesSaid.{rule_read}
use Rattle.edi_record.proofs.reading.printed_records_break_no_rule.Goals as goal

pub returns : goal.returns
returns c = λ s r h k rule broken. none_broken (record_tests (zones_of_record s r)) (printed_unbroken s r h k) rule (rule_read (zones_of_record s r) rule broken)
