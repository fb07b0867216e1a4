use Rattle.std.proofs.Common.{codes, refl}
use Rattle.edi_words.specs.Requests.{flag_rule, option_rule}
use Rattle.edi_words.proofs.Plain.{rule_added, with_rule_added}
use Rattle.edi_words.proofs.command_line.diff_command.Goals as goal

pub returns : goal.returns
returns c =
    let with_brief = with_rule_added c.in_ok-pair_command.field-0 c.in_ok-arg.field-0 c.flag.result _ (flag_rule (codes "brief")) refl c.in_ok-pair_command.ensures c.flag.ensures c.in_ok-arg.ensures in
    let with_records = with_rule_added c.in_ok-arg.field-0 c.in_ok-arg-2.field-0 c.flag-2.result _ (flag_rule (codes "records")) refl with_brief c.flag-2.ensures c.in_ok-arg-2.ensures in
    let with_json = with_rule_added c.in_ok-arg-2.field-0 c.in_ok-arg-3.field-0 c.flag-3.result _ (flag_rule (codes "json")) refl with_records c.flag-3.ensures c.in_ok-arg-3.ensures in
    let with_names = with_rule_added c.in_ok-arg-3.field-0 c.in_ok-arg-4.field-0 c.option.result _ (option_rule (codes "name-by")) refl with_json c.option.ensures c.in_ok-arg-4.ensures in
    rule_added c.in_ok-arg-4.field-0 c.arg-5.result c.option-2.result _ (option_rule (codes "picture")) refl with_names c.option-2.ensures c.arg-5.ensures
