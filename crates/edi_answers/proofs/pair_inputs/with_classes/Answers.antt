use Rattle.edi_answers.specs.Effects.{inputs}
use Rattle.edi_answers.specs.PairInputs.{IsUnreadAt}
use Rattle.edi_compare.proofs.Refusals.{err_kept}
use Rattle.edi_answers.proofs.Kept.{note_given}
use Rattle.edi_answers.proofs.LoadedPairs.{unread_at}
use Rattle.edi_answers.proofs.pair_inputs.with_classes.Goals as goal

pub returns-clause-opened : goal.returns-clause-opened
returns-clause-opened g c = (
  (g.F.Reader.ByteIn.contents c.args.readers.scd, c.requires.0.0, c.in_ok-classes.ensures.all, c.in_ok-classes.ensures.read.short),
  c.requires.1,
  c.requires.2,
  c.requires.3,
)

pub returns-clause-noted : goal.returns-clause-noted
returns-clause-noted g c =
    let reader = g.F.Reader.ByteIn in
    note_given (inputs g.F.Folder reader c.args.folder.now) c.args.kinds.now c.args.files.now.scd.now (reader.contents c.args.readers.scd) c.in_ok-classes.classes.items
    c.read_classes.new.note.items c.requires.0.0 c.in_ok-classes.ensures.all c.in_ok-classes.ensures.note

pub returns-in_err-classes-clause-err : goal.returns-in_err-classes-clause-err
returns-in_err-classes-clause-err g c =
    let e = c.in_err-classes.field-0.0 in
    err_kept _ e (IsUnreadAt (inputs g.F.Folder g.F.Reader.ByteIn c.args.folder.now) c.args.files.now.scd.now 1) c.from_residual.ensures.1
    (unread_at g.F.Folder g.F.Reader.ByteIn c.args.folder.now c.args.files.now.scd.now c.args.readers.scd c.read_classes.new.reader c.requires.0 1 e c.in_err-classes.ensures.err)
