use Rattle.std.proofs.Common.{arith}
use Rattle.edi_compare.specs.Runs.{seen}
use Rattle.edi_compare.proofs.Refusals.{err_kept}
use Rattle.edi_answers.specs.Effects.{inputs}
use Rattle.edi_answers.specs.SheetRuns.{AreThere, FileFault}
use Rattle.edi_answers.proofs.Explaining.{known_bytes}
use Rattle.edi_answers.proofs.Faults.{failed_at, input_fault}
use Rattle.edi_answers.proofs.explains.account_of.Goals as goal

pub returns-in-Ok-clause-ok : goal.returns-in-Ok-clause-ok
returns-in-Ok-clause-ok g c =
    let contents = g.F.Reader.ByteIn.contents in (
      contents c.in_ok-scd.scd,
      contents c.in_ok-dic.dic,
      contents c.in_ok-vec.vec,
      c.in_ok-scd.ensures.ok,
      c.in_ok-dic.ensures.ok,
      c.in_ok-vec.ensures.ok,
      known_bytes (contents c.in_ok-scd.scd) (contents c.in_ok-dic.dic) (contents c.in_ok-vec.vec) _ _ _ _ c.in_ok-scd-2.ensures.all c.in_ok-dic-2.ensures.all c.in_ok-vec-2.ensures.all c.in-Ok.ensures,
    )

pub returns-in_err-scd-2-clause-err : goal.returns-in_err-scd-2-clause-err
returns-in_err-scd-2-clause-err g c =
    let reader = g.F.Reader.ByteIn in
    let folder = c.args.folder.now in
    let inputs = inputs g.F.Folder reader folder in
    let kinds = c.args.kinds.now in
    let files = c.args.files.now in
    let there : AreThere inputs files =
    ((reader.contents c.in_ok-scd.scd, c.in_ok-scd.ensures.ok), (reader.contents c.in_ok-dic.dic, c.in_ok-dic.ensures.ok), (reader.contents c.in_ok-vec.vec, c.in_ok-vec.ensures.ok)) in
    err_kept _ c.in_err-scd-2.field-0.0 (FileFault inputs kinds files (λ _. ⊥)) c.from_residual-in_err-scd-2.ensures.1
    (input_fault inputs kinds files there 1 (omega arith) (omega arith) (seen reader c.in_ok-scd.scd c.read_input.new.reader) c.in_ok-scd.ensures.ok
    (failed_at g.F.Folder reader folder files.scd.now c.in_ok-scd.scd c.read_input.new.reader c.in_ok-scd.ensures.device) c.in_err-scd-2.field-0.0 c.in_err-scd-2.ensures.err)

pub returns-in_err-dic-2-clause-err : goal.returns-in_err-dic-2-clause-err
returns-in_err-dic-2-clause-err g c =
    let reader = g.F.Reader.ByteIn in
    let folder = c.args.folder.now in
    let inputs = inputs g.F.Folder reader folder in
    let kinds = c.args.kinds.now in
    let files = c.args.files.now in
    let there : AreThere inputs files =
    ((reader.contents c.in_ok-scd.scd, c.in_ok-scd.ensures.ok), (reader.contents c.in_ok-dic.dic, c.in_ok-dic.ensures.ok), (reader.contents c.in_ok-vec.vec, c.in_ok-vec.ensures.ok)) in
    err_kept _ c.in_err-dic-2.field-0.0 (FileFault inputs kinds files (λ _. ⊥)) c.from_residual-in_err-dic-2.ensures.1
    (input_fault inputs kinds files there 2 (omega arith) (omega arith) (seen reader c.in_ok-dic.dic c.read_input-2.new.reader) c.in_ok-dic.ensures.ok
    (failed_at g.F.Folder reader folder files.dic.now c.in_ok-dic.dic c.read_input-2.new.reader c.in_ok-dic.ensures.device) c.in_err-dic-2.field-0.0 c.in_err-dic-2.ensures.err)

pub returns-in_err-vec-2-clause-err : goal.returns-in_err-vec-2-clause-err
returns-in_err-vec-2-clause-err g c =
    let reader = g.F.Reader.ByteIn in
    let folder = c.args.folder.now in
    let inputs = inputs g.F.Folder reader folder in
    let kinds = c.args.kinds.now in
    let files = c.args.files.now in
    let there : AreThere inputs files =
    ((reader.contents c.in_ok-scd.scd, c.in_ok-scd.ensures.ok), (reader.contents c.in_ok-dic.dic, c.in_ok-dic.ensures.ok), (reader.contents c.in_ok-vec.vec, c.in_ok-vec.ensures.ok)) in
    err_kept _ c.in_err-vec-2.field-0.0 (FileFault inputs kinds files (λ _. ⊥)) c.from_residual-in_err-vec-2.ensures.1
    (input_fault inputs kinds files there 3 (omega arith) (omega arith) (seen reader c.in_ok-vec.vec c.read_input-3.new.reader) c.in_ok-vec.ensures.ok
    (failed_at g.F.Folder reader folder files.vec.now c.in_ok-vec.vec c.read_input-3.new.reader c.in_ok-vec.ensures.device) c.in_err-vec-2.field-0.0 c.in_err-vec-2.ensures.err)
