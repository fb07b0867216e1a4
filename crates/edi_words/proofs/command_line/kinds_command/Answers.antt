use Rattle.std.proofs.Common.{◌≡◌, ◌∙◌, ap, ap₂}
use Rattle.std.proofs.lemmas.Result.{IfOk-weaker}
use Rattle.clap.specs.Words.{Rule, app_of, new_app, with_rule}
use Rattle.edi_words.proofs.Plain.{arg_local}
use Rattle.edi_words.proofs.command_line.kinds_command.Goals as goal

pub returns : goal.returns
returns c =
    let bare : app_of c.about.result ≡ new_app c.args.name.now = rw c.about.ensures c.new.ensures.app in
    IfOk-weaker c.arg.result _ _
    (λ _ added. added.shape (arg_local c.option-kinds.result (ap (λ (r : Rule). r.is_simple) c.option-kinds.ensures))
    ∙ ap₂ with_rule bare c.option-kinds.ensures) c.arg.ensures
