use Rattle.std.proofs.Common.{codes, refl}
use Rattle.edi_words.specs.Requests.{file_rule}
use Rattle.edi_words.proofs.Plain.{rule_added, with_rule_added}
use Rattle.edi_words.proofs.command_line.pair_command.Goals as goal

pub returns : goal.returns
returns c =
    let with_first = with_rule_added c.in_ok-schema_command.field-0 c.in_ok-arg.field-0 c.file.result _ (file_rule (codes "A")) refl c.in_ok-schema_command.ensures c.file.ensures c.in_ok-arg.ensures in
    rule_added c.in_ok-arg.field-0 c.arg-2.result c.file-2.result _ (file_rule (codes "B")) refl with_first c.file-2.ensures c.arg-2.ensures
