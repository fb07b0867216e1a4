use Rattle.std.proofs.Common.{inr, refl}
use Rattle.std.proofs.lemmas.Result.{on_ok_weaker}
use Rattle.edi_files.specs.Folders.{IsSpare}
use Rattle.edi_files.proofs.Steps.{goes_map}
use Rattle.edi_answers.specs.Effects.{effects, inputs}
use Rattle.edicad.specs.Made.{IsPut, OfMade}
use Rattle.edi_answers.proofs.Made.{before_writing}
use Rattle.edicad.proofs.Made.{of_made, put_fault, whole}
use Rattle.edi_answers.proofs.Faults.{fault_unwritten, if_err_both}
use Rattle.edicad.proofs.sheets.put.Goals as goal

pub returns-in-Err-clause-err : goal.returns-in-Err-clause-err
returns-in-Err-clause-err g c =
    let run = effects g.F.Folder g.F.Reader.ByteIn g.F.Sink.ByteOut g.F.NewFile.ByteOut c.args.folder.now c.args.folder.now in
    let e = c.in-Err.fault in
    inr (
      c.if-is_input.ensures,
      fault_unwritten run.inputs c.args.kinds.now c.args.files.now (λ n. OfMade run.inputs c.args.product c.args.kinds.now c.args.files.now (run.Stops c.args.out.now n)) e
          c.in-Err.ensures.err,
      before_writing e run.untouched refl,
    )

pub returns-in-Ok-clause-ok : goal.returns-in-Ok-clause-ok
returns-in-Ok-clause-ok g c =
    let run = effects g.F.Folder g.F.Reader.ByteIn g.F.Sink.ByteOut g.F.NewFile.ByteOut c.args.folder.now c.put.new.folder in
    on_ok_weaker {P = run.Puts c.args.out.now c.deref.result.now} {Q = IsPut run c.args.product c.args.kinds.now c.args.files.now c.args.out.now} c.put.result
    (λ h. (
      c.if-is_input.ensures,
      of_made run.inputs c.args.product c.args.kinds.now c.args.files.now c.in-Ok.bytes.items _ c.deref.ensures.value c.in-Ok.ensures.ok
          (run.Puts c.args.out.now) h,
    ))
    c.put.ensures.ok

pub returns-in-Ok-clause-err : goal.returns-in-Ok-clause-err
returns-in-Ok-clause-err g c =
    let run = effects g.F.Folder g.F.Reader.ByteIn g.F.Sink.ByteOut g.F.NewFile.ByteOut c.args.folder.now c.put.new.folder in
    let stops = run.Stops c.args.out.now in
    if_err_both c.put.result _ _ _
    (λ e h unmade. inr (
      c.if-is_input.ensures,
      put_fault run.inputs c.args.product c.args.kinds.now c.args.files.now c.in-Ok.bytes.items _ c.deref.ensures.value c.in-Ok.ensures.ok
          (λ n. stops n c.deref.result.now) (λ n. OfMade run.inputs c.args.product c.args.kinds.now c.args.files.now (stops n))
          (λ n. of_made run.inputs c.args.product c.args.kinds.now c.args.files.now c.in-Ok.bytes.items _ c.deref.ensures.value c.in-Ok.ensures.ok (stops n)) e h,
      unmade,
    ))
    c.put.ensures.err c.put.ensures.unmade

pub returns-in-Ok-clause-replaced : goal.returns-in-Ok-clause-replaced
returns-in-Ok-clause-replaced g c tells =
    let folder = c.args.folder.now in
    goes_map _ _ _ _ _ _
    (whole (inputs g.F.Folder g.F.Reader.ByteIn folder) c.args.product c.args.kinds.now c.args.files.now c.in-Ok.bytes.items _ c.deref.ensures.value c.in-Ok.ensures.ok c.args.out.now (IsSpare (g.F.Folder.is_stray folder) (g.F.Folder.moment folder) (g.F.Folder.left_since folder)))
    (c.put.ensures.replaced tells)
