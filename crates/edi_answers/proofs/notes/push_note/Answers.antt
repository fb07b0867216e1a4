use Rattle.std.proofs.Common.{◌∙◌, ◌++◌, List, ℕ, ap}
use Rattle.std.proofs.lemmas.Result.{on_ok_weaker}
use Rattle.edi_answers.proofs.Loading.{worded}
use Rattle.edi_answers.proofs.notes.push_note.Goals as goal

pub returns-in_default : goal.returns-in_default
returns-in_default c =
    on_ok_weaker c.push_lacking_line.result
    (λ is. is ∙ ap (λ (l : List ℕ). c.args.note.now.items ++ l) (worded c.args.name.now c.args.words.now c.in_default.len_at_least)) c.push_lacking_line.ensures
