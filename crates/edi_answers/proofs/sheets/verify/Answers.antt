use Rattle.std.proofs.Common.{ℕ, List, sym, subst}
use Rattle.edi_line.specs.declared.file.FileBytes.{FileBytes}
use Rattle.edi_schema.specs.Classes.{Classes}
use Rattle.edi_compare.proofs.Refusals.{err_kept}
use Rattle.edi_pairing.specs.UnderFiles.{MatchRun, RefusesFile, of_verify}
use Rattle.edi_answers.specs.Effects.{inputs}
use Rattle.edi_answers.specs.PairInputs.{IsReadAt}
use Rattle.edi_answers.specs.SheetRuns.{OfFive, VerifyFileFault}
use Rattle.edi_answers.proofs.LoadedPairs.{refused_five, verified_pair}
use Rattle.edi_answers.proofs.sheets.verify.Goals as goal

pub returns-clause-ok : goal.returns-clause-ok
returns-clause-ok g c =
    let inputs = inputs g.F.Folder g.F.Reader.ByteIn c.args.folder.now in
    let read = subst (λ (f : List ℕ). IsReadAt inputs c.args.pairing.now f) (sym c.deref.ensures.value) c.in_ok-schema.ensures.file in
    let pair : Classes × FileBytes × FileBytes = (c.in_ok-schema.schema, c.in_ok-schema.first, c.in_ok-schema.second) in
    let done = c.in_ok-answer.ensures in
    verified_pair inputs c.args.kinds.now c.args.files.now pair c.in_ok-schema.ensures.ok c.args.pairing.now c.deref.result.now read c.in_ok-answer.answer
    done.first done.second done.answer

pub returns-in_err-answer-clause-err : goal.returns-in_err-answer-clause-err
returns-in_err-answer-clause-err g c =
    let inputs = inputs g.F.Folder g.F.Reader.ByteIn c.args.folder.now in
    let kinds = c.args.kinds.now in
    let files = c.args.files.now in
    let pairing = c.args.pairing.now in
    let read = subst (λ (f : List ℕ). IsReadAt inputs pairing f) (sym c.deref.ensures.value) c.in_ok-schema.ensures.file in
    let pair : Classes × FileBytes × FileBytes = (c.in_ok-schema.schema, c.in_ok-schema.first, c.in_ok-schema.second) in
    let f = c.in_err-answer.field-0.0 in
    err_kept _ (of_verify f) (λ e. MatchRun e (VerifyFileFault inputs kinds files pairing) (λ at why. OfFive inputs files pairing (λ s d a b t. RefusesFile kinds s d a b t at why)))
    c.from_residual-in_err-answer.ensures.1 (refused_five inputs kinds files pair c.in_ok-schema.ensures.ok pairing c.deref.result.now read f c.in_err-answer.ensures.refusal)
