use Rattle.std.proofs.Common.{codes, refl}
use Rattle.edi_words.specs.Requests.{file_rule}
use Rattle.edi_words.proofs.Plain.{rule_added}
use Rattle.edi_words.proofs.command_line.sheet_command.Goals as goal

pub returns : goal.returns
returns c =
    rule_added c.in_ok-schema_command.field-0 c.arg.result c.file.result _ (file_rule (codes "VEC")) refl c.in_ok-schema_command.ensures c.file.ensures c.arg.ensures
