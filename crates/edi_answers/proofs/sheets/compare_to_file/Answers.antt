use Rattle.edi_line.specs.declared.file.FileBytes.{FileBytes}
use Rattle.edi_schema.specs.Classes.{Classes}
use Rattle.edi_pairing.specs.UnderFiles.{IsComparedUnder}
use Rattle.edi_answers.specs.Effects.{inputs}
use Rattle.edi_answers.proofs.LoadedPairs.{compared_pair}
use Rattle.edi_answers.proofs.PairRuns.{run_refused}
use Rattle.edi_answers.proofs.sheets.compare_to_file.Goals as goal

pub returns : goal.returns
returns g c =
    let pair : Classes × FileBytes × FileBytes = (c.in_ok-schema.schema, c.in_ok-schema.first, c.in_ok-schema.second) in
    let done = c.in_ok-compared.ensures in (
      compared_pair (inputs g.F.Folder g.F.Reader.ByteIn c.args.folder.now) c.args.kinds.now c.args.files.now pair c.in_ok-schema.ensures.0 c.in_ok-compared.compared
          done.first done.second done.compared,
      c.in_ok-schema.ensures.1,
    )

pub returns-in_err-compared : goal.returns-in_err-compared
returns-in_err-compared g c =
    let pair : Classes × FileBytes × FileBytes = (c.in_ok-schema.schema, c.in_ok-schema.first, c.in_ok-schema.second) in
    run_refused (inputs g.F.Folder g.F.Reader.ByteIn c.args.folder.now) c.args.kinds.now c.args.files.now c.args.note.now.items c.load_pair.new.note.items
    (λ compared s d a b. IsComparedUnder c.args.kinds.now s d a b compared) pair c.in_ok-schema.ensures.0 c.in_ok-schema.ensures.1
    c.in_err-compared.field-0.0 c.in_err-compared.ensures.refusal _ c.from_residual-in_err-compared.ensures.1
