use Rattle.std.proofs.Common.{arith}
use Rattle.edi_answers.specs.Effects.{inputs}
use Rattle.edi_answers.specs.PairInputs.{AreUnread}
use Rattle.edi_answers.specs.SheetRuns.{pair_path_at}
use Rattle.edi_compare.proofs.Refusals.{err_kept}
use Rattle.edi_answers.proofs.LoadedPairs.{unread_of}
use Rattle.edi_answers.proofs.pair_inputs.read_pair.Goals as goal

pub returns-in_err-dic-clause-err : goal.returns-in_err-dic-clause-err
returns-in_err-dic-clause-err g c =
    let inputs = inputs g.F.Folder g.F.Reader.ByteIn c.args.folder.now in
    let path_at = pair_path_at c.args.files.now in
    let e = c.in_err-dic.field-0.0 in
    err_kept _ e (AreUnread inputs path_at 4) c.from_residual.ensures.1 (unread_of inputs path_at 4 2 (omega arith) (omega arith) e c.in_err-dic.ensures.err)

pub returns-in_err-first-clause-err : goal.returns-in_err-first-clause-err
returns-in_err-first-clause-err g c =
    let inputs = inputs g.F.Folder g.F.Reader.ByteIn c.args.folder.now in
    let path_at = pair_path_at c.args.files.now in
    let e = c.in_err-first.field-0.0 in
    err_kept _ e (AreUnread inputs path_at 4) c.from_residual-in_err-first.ensures.1 (unread_of inputs path_at 4 3 (omega arith) (omega arith) e c.in_err-first.ensures.err)

pub returns-in_err-second-clause-err : goal.returns-in_err-second-clause-err
returns-in_err-second-clause-err g c =
    let inputs = inputs g.F.Folder g.F.Reader.ByteIn c.args.folder.now in
    let path_at = pair_path_at c.args.files.now in
    let e = c.in_err-second.field-0.0 in
    err_kept _ e (AreUnread inputs path_at 4) c.from_residual-in_err-second.ensures.1 (unread_of inputs path_at 4 4 (omega arith) (omega arith) e c.in_err-second.ensures.err)
