use Rattle.edi_line.specs.declared.file.FileBytes.{FileBytes}
use Rattle.edi_schema.specs.Classes.{Classes}
use Rattle.edi_compare.specs.Rules.{IsAccepted}
use Rattle.edi_drawing.specs.Drawn.{IsDrawnDifference}
use Rattle.edi_drawing.specs.UnderFiles.{IsDrawnDifferenceUnder}
use Rattle.edi_answers.specs.Effects.{inputs}
use Rattle.edi_answers.proofs.LoadedPairs.{of_loaded}
use Rattle.edi_answers.proofs.PairRuns.{run_refused}
use Rattle.edicad.specs.Made.{names_of_pair}
use Rattle.edicad.proofs.sheets.drawn_difference.Goals as goal

pub returns : goal.returns
returns g c =
    let pair : Classes × FileBytes × FileBytes = (c.in_ok-schema.schema, c.in_ok-schema.first, c.in_ok-schema.second) in
    let s = c.in_ok-schema.schema in
    let done = c.in_ok-drawn.ensures in (
      of_loaded (inputs g.F.Folder g.F.Reader.ByteIn c.args.folder.now) c.args.kinds.now c.args.files.now pair c.in_ok-schema.ensures.0
          (λ a b. IsAccepted s a × IsAccepted s b × IsDrawnDifference s (names_of_pair c.args.files.now) a b c.args.form c.in_ok-drawn.drawn) _
          (λ k d a b good u. record { schema = s; good = good; first = u.0; second = u.1; differs = u.2 }) (done.first, done.second, done.drawn),
      c.in_ok-schema.ensures.1,
    )

pub returns-in_err-drawn : goal.returns-in_err-drawn
returns-in_err-drawn g c =
    let pair : Classes × FileBytes × FileBytes = (c.in_ok-schema.schema, c.in_ok-schema.first, c.in_ok-schema.second) in
    run_refused (inputs g.F.Folder g.F.Reader.ByteIn c.args.folder.now) c.args.kinds.now c.args.files.now c.args.note.now.items c.load_pair.new.note.items
    (λ drawn s d a b. IsDrawnDifferenceUnder c.args.kinds.now (names_of_pair c.args.files.now) s d a b c.args.form drawn) pair c.in_ok-schema.ensures.0
    c.in_ok-schema.ensures.1 c.in_err-drawn.field-0.0 c.in_err-drawn.ensures.refusal _ c.from_residual-in_err-drawn.ensures.1
