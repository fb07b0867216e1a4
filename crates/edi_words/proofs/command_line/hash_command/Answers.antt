use Rattle.std.proofs.Common.{codes, refl}
use Rattle.edi_words.specs.Requests.{flag_rule, option_rule, optional_files_rule}
use Rattle.edi_words.proofs.Plain.{rule_added, with_rule_added}
use Rattle.edi_words.proofs.command_line.hash_command.Goals as goal

pub returns : goal.returns
returns c =
    let with_sheets = with_rule_added c.in_ok-schema_command.field-0 c.in_ok-arg.field-0 c.sheets_argument.result _ (optional_files_rule (codes "VEC")) refl c.in_ok-schema_command.ensures c.sheets_argument.ensures c.in_ok-arg.ensures in
    let with_schema = with_rule_added c.in_ok-arg.field-0 c.in_ok-arg-2.field-0 c.flag.result _ (flag_rule (codes "schema")) refl with_sheets c.flag.ensures c.in_ok-arg-2.ensures in
    let with_check = with_rule_added c.in_ok-arg-2.field-0 c.in_ok-arg-3.field-0 c.option.result _ (option_rule (codes "check")) refl with_schema c.option.ensures c.in_ok-arg-3.ensures in
    rule_added c.in_ok-arg-3.field-0 c.arg-4.result c.flag-2.result _ (flag_rule (codes "json")) refl with_check c.flag-2.ensures c.arg-4.ensures
