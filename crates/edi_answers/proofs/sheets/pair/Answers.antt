use Rattle.std.proofs.Common.{inr, refl}
use Rattle.edi_pairing.specs.UnderFiles.{IsPairingFileOf}
use Rattle.edi_files.specs.Folders.{IsSpare}
use Rattle.edi_files.proofs.Steps.{goes_map}
use Rattle.edi_answers.specs.Effects.{effects, inputs}
use Rattle.edi_answers.specs.SheetRuns.{OfMadePair}
use Rattle.edi_answers.proofs.Made.{before_writing, of_made_pair, pair_put_fault, whole_pair}
use Rattle.edi_answers.proofs.PairRuns.{pair_fault_names}
use Rattle.edi_answers.proofs.Pairings.{pair_unwritten}
use Rattle.edi_answers.proofs.sheets.pair.Goals as goal

pub returns-in-Ok-clause-ok : goal.returns-in-Ok-clause-ok
returns-in-Ok-clause-ok g c =
    let run = effects g.F.Folder g.F.Reader.ByteIn g.F.Sink.ByteOut g.F.NewFile.ByteOut c.args.folder.now c.put.new.folder in (
      c.if-is_pair_input.ensures,
      of_made_pair run.inputs c.args.kinds.now c.args.files.now (IsPairingFileOf c.args.kinds.now) c.in-Ok-Same.file.items _ c.deref.ensures.value (rw c.in-Ok-Same.field-0-is at c.in-Ok-Same.ensures.0)
          (run.Puts c.args.out.now) c.in-Ok.ensures.ok,
    )

pub returns-in-Ok-clause-replaced : goal.returns-in-Ok-clause-replaced
returns-in-Ok-clause-replaced g c tells =
    let folder = c.args.folder.now in
    goes_map _ _ _ _ _ _
    (whole_pair (inputs g.F.Folder g.F.Reader.ByteIn folder) c.args.kinds.now c.args.files.now (IsPairingFileOf c.args.kinds.now) c.in-Ok-Same.file.items _ c.deref.ensures.value (rw c.in-Ok-Same.field-0-is at c.in-Ok-Same.ensures.0) c.args.out.now (IsSpare (g.F.Folder.is_stray folder) (g.F.Folder.moment folder) (g.F.Folder.left_since folder)))
    (c.in-Ok.ensures.replaced tells)

pub returns-in-Ok-Same-clause-err : goal.returns-in-Ok-Same-clause-err
returns-in-Ok-Same-clause-err g c =
    let run = effects g.F.Folder g.F.Reader.ByteIn g.F.Sink.ByteOut g.F.NewFile.ByteOut c.args.folder.now c.put.new.folder in
    let stops = run.Stops c.args.out.now in
    let IsMade = IsPairingFileOf c.args.kinds.now in
    inr (
      c.if-is_pair_input.ensures,
      pair_put_fault run.inputs c.args.kinds.now c.args.files.now IsMade c.in-Ok-Same.file.items _ c.deref.ensures.value (rw c.in-Ok-Same.field-0-is at c.in-Ok-Same.ensures.0)
          (λ n. stops n c.deref.result.now) (λ n. OfMadePair run.inputs IsMade c.args.files.now (stops n))
          (λ n. of_made_pair run.inputs c.args.kinds.now c.args.files.now IsMade c.in-Ok-Same.file.items _ c.deref.ensures.value (rw c.in-Ok-Same.field-0-is at c.in-Ok-Same.ensures.0) (stops n))
          c.in-Err-put.fault c.in-Err-put.ensures.err,
      c.in-Err-put.ensures.unmade,
    )

pub returns-in-Ok-Same-clause-replaced : goal.returns-in-Ok-Same-clause-replaced
returns-in-Ok-Same-clause-replaced g c tells =
    let folder = c.args.folder.now in
    goes_map _ _ _ _ _ _
    (whole_pair (inputs g.F.Folder g.F.Reader.ByteIn folder) c.args.kinds.now c.args.files.now (IsPairingFileOf c.args.kinds.now) c.in-Ok-Same.file.items _ c.deref.ensures.value (rw c.in-Ok-Same.field-0-is at c.in-Ok-Same.ensures.0) c.args.out.now (IsSpare (g.F.Folder.is_stray folder) (g.F.Folder.moment folder) (g.F.Folder.left_since folder)))
    (c.in-Err-put.ensures.replaced tells)

pub returns-clause-err : goal.returns-clause-err
returns-clause-err g c =
    let run = effects g.F.Folder g.F.Reader.ByteIn g.F.Sink.ByteOut g.F.NewFile.ByteOut c.args.folder.now c.args.folder.now in
    let e = c.in-Err.fault in
    inr (
      c.if-is_pair_input.ensures,
      pair_unwritten run.inputs c.args.kinds.now c.args.files.now (λ n. OfMadePair run.inputs (IsPairingFileOf c.args.kinds.now) c.args.files.now (run.Stops c.args.out.now n)) e
          c.in-Err.ensures.0,
      before_writing e run.untouched refl,
    )

pub returns-clause-names : goal.returns-clause-names
returns-clause-names g c = pair_fault_names (inputs g.F.Folder g.F.Reader.ByteIn c.args.folder.now) c.args.kinds.now c.args.files.now c.in-Err.fault c.in-Err.ensures.0

pub returns-in-Ok-Different-clause-ok : goal.returns-in-Ok-Different-clause-ok
returns-in-Ok-Different-clause-ok g c = (rw c.in-Ok-Different.field-0-is at c.in-Ok-Different.ensures.0, c.if-is_pair_input.ensures, refl)
