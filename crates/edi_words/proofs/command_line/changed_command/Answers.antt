use Rattle.std.proofs.Common.{◌≡◌, codes, refl}
use Rattle.clap.specs.Words.{app_of, new_app}
use Rattle.edi_words.specs.Requests.{file_rule}
use Rattle.edi_words.proofs.Plain.{rule_added, with_rule_added}
use Rattle.edi_words.proofs.command_line.changed_command.Goals as goal

pub returns : goal.returns
returns c =
    let bare : app_of c.about.result ≡ new_app (codes "changed") = rw c.about.ensures c.new.ensures.app in
    let with_before = with_rule_added c.about.result c.in_ok-arg.field-0 c.file.result _ (file_rule (codes "BEFORE")) refl bare c.file.ensures c.in_ok-arg.ensures in
    rule_added c.in_ok-arg.field-0 c.arg-2.result c.file-2.result _ (file_rule (codes "AFTER")) refl with_before c.file-2.ensures c.arg-2.ensures
