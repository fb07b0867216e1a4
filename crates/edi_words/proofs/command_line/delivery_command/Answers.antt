use Rattle.std.proofs.Common.{codes, refl}
use Rattle.edi_words.specs.Requests.{files_rule, option_rule}
use Rattle.edi_words.proofs.Plain.{rule_added, with_rule_added}
use Rattle.edi_words.proofs.command_line.delivery_command.Goals as goal

pub returns : goal.returns
returns c =
    let with_paths = with_rule_added c.in_ok-kinds_command.field-0 c.in_ok-arg.field-0 c.paths_argument.result _ (files_rule (codes "PATH")) refl c.in_ok-kinds_command.ensures c.paths_argument.ensures c.in_ok-arg.ensures in
    let with_manifest = with_rule_added c.in_ok-arg.field-0 c.in_ok-arg-2.field-0 c.option.result _ (option_rule (codes "manifest")) refl with_paths c.option.ensures c.in_ok-arg-2.ensures in
    rule_added c.in_ok-arg-2.field-0 c.arg-3.result c.option-2.result _ (option_rule (codes "check")) refl with_manifest c.option-2.ensures c.arg-3.ensures
