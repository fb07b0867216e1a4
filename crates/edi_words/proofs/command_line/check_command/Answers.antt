use Rattle.std.proofs.Common.{codes, refl}
use Rattle.edi_words.specs.Requests.{flag_rule}
use Rattle.edi_words.proofs.Plain.{rule_added}
use Rattle.edi_words.proofs.command_line.check_command.Goals as goal

pub returns : goal.returns
returns c =
    rule_added c.in_ok-sheet_command.field-0 c.arg.result c.flag.result _ (flag_rule (codes "json")) refl c.in_ok-sheet_command.ensures c.flag.ensures c.arg.ensures
