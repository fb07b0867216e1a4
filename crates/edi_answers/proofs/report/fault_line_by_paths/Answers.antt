use Rattle.std.proofs.Common.{◌≡◌, ◌∙◌, ℕ, List, IfOk, ap, subst}
use Rattle.edi_files.specs.Reasons.{ended}
use Rattle.edi_outcome.specs.Words.{FaultHasNames, texts, words_of_fault}
use Rattle.edi_answers.proofs.Names.{as_many}
use Rattle.edi_answers.proofs.report.fault_line_by_paths.Goals as goal

pub line_of_run-requires : goal.line_of_run-requires
line_of_run-requires c =
    subst (FaultHasNames c.args.fault.now) (as_many c.deref.result.now c.args.paths.now (ap texts c.deref.ensures.value ∙ c.in_ok-names.ensures)) c.requires

pub returns : goal.returns
returns c =
    subst (λ (names : List (List ℕ)). IfOk c.line_of_run.result (λ line. line.items ≡ ended (words_of_fault c.args.fault.now names)))
    (ap texts c.deref.ensures.value ∙ c.in_ok-names.ensures) c.line_of_run.ensures
