use Rattle.std.proofs.Common.{codes, refl}
use Rattle.edi_words.specs.Requests.{file_rule, flag_rule}
use Rattle.edi_words.proofs.Plain.{rule_added, with_rule_added}
use Rattle.edi_words.proofs.command_line.verify_command.Goals as goal

pub returns : goal.returns
returns c =
    let with_pairing = with_rule_added c.in_ok-pair_command.field-0 c.in_ok-arg.field-0 c.file.result _ (file_rule (codes "FILE")) refl c.in_ok-pair_command.ensures c.file.ensures c.in_ok-arg.ensures in
    rule_added c.in_ok-arg.field-0 c.arg-2.result c.flag.result _ (flag_rule (codes "json")) refl with_pairing c.flag.ensures c.arg-2.ensures
