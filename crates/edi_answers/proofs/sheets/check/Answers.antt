use Rattle.std.proofs.Common.{◌∙◌, Some, ap, arith, inr, refl}
use Rattle.std.proofs.lemmas.Result.{on_ok_weaker}
use Rattle.edi_compare.specs.Runs.{seen}
use Rattle.edi_compare.proofs.Refusals.{err_kept}
use Rattle.edi_compare.specs.Runs.{IsSheetUnder}
use Rattle.edi_answers.specs.Effects.{inputs}
use Rattle.edi_answers.specs.SheetRuns.{AreThere, FileFault}
use Rattle.edi_answers.proofs.Faults.{failed_at, file_fault, if_err_map, input_fault}
use Rattle.edi_answers.proofs.Kept.{files_kept, note_given, three_kept, unread}
use Rattle.edi_answers.proofs.Noted.{note_anyway, note_failed}
use Rattle.edi_answers.proofs.sheets.check.Goals as goal

pub returns-clause-ok : goal.returns-clause-ok
returns-clause-ok g c =
    let contents = g.F.Reader.ByteIn.contents in
    on_ok_weaker c.run_check.result
    (λ h. (
      contents c.in_ok-scd.scd,
      contents c.in_ok-dic.dic,
      contents c.in_ok-vec.vec,
      c.in_ok-scd.ensures.ok,
      c.in_ok-dic.ensures.ok,
      c.in_ok-vec.ensures.ok,
      three_kept c.kinds.result.now c.args.kinds.now c.kinds.ensures _ (contents c.in_ok-scd.scd) c.in_ok-classes.classes.items (c.new-kept.ensures ∙ ap Some c.deref.ensures.value) c.in_ok-classes.ensures.all
          (contents c.in_ok-dic.dic) (contents c.in_ok-vec.vec) (λ l s d v. IsSheetUnder l s d v) h,
    ))
    c.run_check.ensures.ok

pub returns-clause-err : goal.returns-clause-err
returns-clause-err g c =
    let reader = g.F.Reader.ByteIn in
    let folder = c.args.folder.now in
    let inputs = inputs g.F.Folder reader folder in
    let kinds = c.args.kinds.now in
    let files = c.args.files.now in
    let real = seen reader c.in_ok-scd.scd c.read_classes.new.reader in
    file_fault inputs kinds files real (seen reader c.in_ok-dic.dic c.run_check.new.dic) (seen reader c.in_ok-vec.vec c.run_check.new.vec) c.in_ok-scd.ensures.ok c.in_ok-dic.ensures.ok c.in_ok-vec.ensures.ok
    (failed_at g.F.Folder g.F.Reader.ByteIn folder files.scd.now c.in_ok-scd.scd c.read_classes.new.reader c.in_ok-scd.ensures.device)
    (failed_at g.F.Folder g.F.Reader.ByteIn folder files.dic.now c.in_ok-dic.dic c.run_check.new.dic c.in_ok-dic.ensures.device)
    (failed_at g.F.Folder g.F.Reader.ByteIn folder files.vec.now c.in_ok-vec.vec c.run_check.new.vec c.in_ok-vec.ensures.device)
    c.run_check.result (λ _. ⊥) (if_err_map c.run_check.result _ _ (files_kept c.kinds.result.now kinds c.kinds.ensures real _ c.in_ok-classes.classes.items (c.new-kept.ensures ∙ ap Some c.deref.ensures.value) refl c.in_ok-classes.ensures.read c.in_ok-classes.ensures.all
    (seen reader c.in_ok-dic.dic c.run_check.new.dic) (seen reader c.in_ok-vec.vec c.run_check.new.vec) (λ _. ⊥)) c.run_check.ensures.err)

pub returns-in_err-classes-clause-err : goal.returns-in_err-classes-clause-err
returns-in_err-classes-clause-err g c =
    let reader = g.F.Reader.ByteIn in
    let folder = c.args.folder.now in
    let inputs = inputs g.F.Folder reader folder in
    let kinds = c.args.kinds.now in
    let files = c.args.files.now in
    let real = seen reader c.in_ok-scd.scd c.read_classes.new.reader in
    let there : AreThere inputs files =
    ((reader.contents c.in_ok-scd.scd, c.in_ok-scd.ensures.ok), (reader.contents c.in_ok-dic.dic, c.in_ok-dic.ensures.ok), (reader.contents c.in_ok-vec.vec, c.in_ok-vec.ensures.ok)) in
    err_kept _ c.in_err-classes.field-0.0 (FileFault inputs kinds files (λ _. ⊥)) c.from_residual-in_err-classes.ensures.1
    (input_fault inputs kinds files there 1 (omega arith) (omega arith) real c.in_ok-scd.ensures.ok
    (failed_at g.F.Folder g.F.Reader.ByteIn folder files.scd.now c.in_ok-scd.scd c.read_classes.new.reader c.in_ok-scd.ensures.device) c.in_err-classes.field-0.0 c.in_err-classes.ensures.err)

pub returns-clause-note : goal.returns-clause-note
returns-clause-note g c =
    let reader = g.F.Reader.ByteIn in
    let inputs = inputs g.F.Folder reader c.args.folder.now in
    let kinds = c.args.kinds.now in
    let path = c.args.files.now.scd.now in
    note_anyway inputs kinds path c.args.note.now.items c.read_classes.new.note.items c.run_check.result
    (note_given inputs kinds path (reader.contents c.in_ok-scd.scd) c.in_ok-classes.classes.items c.read_classes.new.note.items c.in_ok-scd.ensures.ok
    c.in_ok-classes.ensures.all c.in_ok-classes.ensures.note)

pub returns-in_err-classes-clause-note : goal.returns-in_err-classes-clause-note
returns-in_err-classes-clause-note g c =
    note_failed (inputs g.F.Folder g.F.Reader.ByteIn c.args.folder.now) c.args.kinds.now c.args.files.now.scd.now c.args.note.now.items c.read_classes.new.note.items _ c.in_err-classes.field-0.0
    c.from_residual-in_err-classes.ensures.1
    (inr (unread _ _ c.in_err-classes.field-0.0 c.in_err-classes.ensures.err, c.in_err-classes.ensures.unnoted))
