use Rattle.std.proofs.Common.{codes, refl}
use Rattle.clap.specs.Words.{new_rule}
use Rattle.edi_words.specs.Requests.{flag_rule, optional_files_rule, subject_rule}
use Rattle.edi_words.proofs.Plain.{rule_added, with_rule_added}
use Rattle.edi_words.proofs.command_line.explain_command.Goals as goal

pub returns : goal.returns
returns c =
    let with_subject = with_rule_added c.in_ok-kinds_command.field-0 c.in_ok-arg.field-0 c.subject.result _ subject_rule refl c.in_ok-kinds_command.ensures c.subject.ensures c.in_ok-arg.ensures in
    let with_dic = with_rule_added c.in_ok-arg.field-0 c.in_ok-arg-2.field-0 c.optional_file.result _ (new_rule (codes "DIC")) refl with_subject c.optional_file.ensures c.in_ok-arg-2.ensures in
    let with_sheets = with_rule_added c.in_ok-arg-2.field-0 c.in_ok-arg-3.field-0 c.sheets_argument.result _ (optional_files_rule (codes "VEC")) refl with_dic c.sheets_argument.ensures c.in_ok-arg-3.ensures in
    let with_all = with_rule_added c.in_ok-arg-3.field-0 c.in_ok-arg-4.field-0 c.flag.result _ (flag_rule (codes "all")) refl with_sheets c.flag.ensures c.in_ok-arg-4.ensures in
    rule_added c.in_ok-arg-4.field-0 c.arg-5.result c.flag-2.result _ (flag_rule (codes "json")) refl with_all c.flag-2.ensures c.arg-5.ensures
