use Rattle.edi_line.specs.declared.file.FileBytes.{FileBytes}
use Rattle.edi_schema.specs.Classes.{Classes}
use Rattle.edi_compare.specs.Rules.{IsAccepted}
use Rattle.edi_compare.specs.Runs.{IsVerdictOf}
use Rattle.edi_compare.specs.Verdicts.{IsVerdict}
use Rattle.edi_answers.specs.Effects.{inputs}
use Rattle.edi_answers.proofs.LoadedPairs.{of_loaded}
use Rattle.edi_answers.proofs.PairRuns.{run_refused}
use Rattle.edi_answers.proofs.sheets.compare.Goals as goal

pub returns : goal.returns
returns g c =
    let pair : Classes × FileBytes × FileBytes = (c.in_ok-schema.schema, c.in_ok-schema.first, c.in_ok-schema.second) in
    let s = c.in_ok-schema.schema in
    let done = c.in_ok-verdict.ensures in (
      of_loaded (inputs g.F.Folder g.F.Reader.ByteIn c.args.folder.now) c.args.kinds.now c.args.files.now pair c.in_ok-schema.ensures.0
          (λ a b. IsAccepted s a × IsAccepted s b × IsVerdict s a b c.in_ok-verdict.verdict) _ (λ k d a b good u. (s, good, u.0, u.1, u.2))
          (done.first, done.second, done.verdict),
      c.in_ok-schema.ensures.1,
    )

pub returns-in_err-verdict : goal.returns-in_err-verdict
returns-in_err-verdict g c =
    let pair : Classes × FileBytes × FileBytes = (c.in_ok-schema.schema, c.in_ok-schema.first, c.in_ok-schema.second) in
    run_refused (inputs g.F.Folder g.F.Reader.ByteIn c.args.folder.now) c.args.kinds.now c.args.files.now c.args.note.now.items c.load_pair.new.note.items
    (λ verdict s d a b. IsVerdictOf c.args.kinds.now s d a b verdict) pair c.in_ok-schema.ensures.0 c.in_ok-schema.ensures.1
    c.in_err-verdict.field-0.0 c.in_err-verdict.ensures.refusal _ c.from_residual-in_err-verdict.ensures.1
