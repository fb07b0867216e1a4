use Rattle.edi_line.specs.declared.file.FileBytes.{FileBytes}
use Rattle.edi_schema.specs.Classes.{Classes}
use Rattle.edi_compare.specs.Rules.{IsAccepted}
use Rattle.edi_diff.specs.Differences.{IsDifference}
use Rattle.edi_diff.specs.UnderFiles.{IsDifferenceUnder}
use Rattle.edi_answers.specs.Effects.{inputs}
use Rattle.edi_answers.proofs.LoadedPairs.{of_loaded}
use Rattle.edi_answers.proofs.PairRuns.{run_refused}
use Rattle.edicad.proofs.sheets.diff.Goals as goal

pub returns : goal.returns
returns g c =
    let pair : Classes × FileBytes × FileBytes = (c.in_ok-schema.schema, c.in_ok-schema.first, c.in_ok-schema.second) in
    let s = c.in_ok-schema.schema in
    let done = c.in_ok-difference.ensures in (
      of_loaded (inputs g.F.Folder g.F.Reader.ByteIn c.args.folder.now) c.args.kinds.now c.args.files.now pair c.in_ok-schema.ensures.0
          (λ a b. IsAccepted s a × IsAccepted s b × IsDifference s a b c.args.form c.in_ok-difference.difference) _ (λ k d a b good u. (s, good, u.0, u.1, u.2))
          (done.first, done.second, done.difference),
      c.in_ok-schema.ensures.1,
    )

pub returns-in_err-difference : goal.returns-in_err-difference
returns-in_err-difference g c =
    let pair : Classes × FileBytes × FileBytes = (c.in_ok-schema.schema, c.in_ok-schema.first, c.in_ok-schema.second) in
    run_refused (inputs g.F.Folder g.F.Reader.ByteIn c.args.folder.now) c.args.kinds.now c.args.files.now c.args.note.now.items c.load_pair.new.note.items
    (λ difference s d a b. IsDifferenceUnder c.args.kinds.now s d a b c.args.form difference) pair c.in_ok-schema.ensures.0 c.in_ok-schema.ensures.1
    c.in_err-difference.field-0.0 c.in_err-difference.ensures.refusal _ c.from_residual-in_err-difference.ensures.1
