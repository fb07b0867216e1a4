use Rattle.std.proofs.Common.{inr, refl}
use Rattle.edi_files.specs.Folders.{IsSpare}
use Rattle.edi_files.proofs.Steps.{goes_map}
use Rattle.edi_answers.specs.Effects.{effects, inputs}
use Rattle.edicad.specs.Made.{IsPictureOfPair, ShowsDifference, names_of_pair}
use Rattle.edi_answers.specs.SheetRuns.{OfMadePair}
use Rattle.edi_answers.proofs.Made.{before_writing, of_made_pair, pair_put_fault, whole_pair}
use Rattle.edicad.proofs.Differing.{shown, shown_of_some}
use Rattle.edi_answers.proofs.Pairings.{pair_unwritten}
use Rattle.edicad.proofs.sheets.draw_difference.Goals as goal

pub returns-in-Ok-put-clause-ok : goal.returns-in-Ok-put-clause-ok
returns-in-Ok-put-clause-ok g c =
    let run = effects g.F.Folder g.F.Reader.ByteIn g.F.Sink.ByteOut g.F.NewFile.ByteOut c.args.folder.now c.put.new.folder in
    let made = shown run.inputs c.args.kinds.now c.args.files.now c.args.form _ c.in-Ok.ensures.0 in (
      c.if-is_pair_input.ensures,
      of_made_pair run.inputs c.args.kinds.now c.args.files.now (ShowsDifference c.args.kinds.now (names_of_pair c.args.files.now) c.args.form c.in-Ok.field-0.difference) c.in-Ok.field-0.picture.items _ c.deref.ensures.value made
          (run.Puts c.args.out.now) c.in-Ok-put.ensures.ok,
    )

pub returns-in-Ok-put-clause-replaced : goal.returns-in-Ok-put-clause-replaced
returns-in-Ok-put-clause-replaced g c tells =
    let folder = c.args.folder.now in
    let inputs = inputs g.F.Folder g.F.Reader.ByteIn folder in
    let made = shown inputs c.args.kinds.now c.args.files.now c.args.form _ c.in-Ok.ensures.0 in
    goes_map _ _ _ _ _ _
    (whole_pair inputs c.args.kinds.now c.args.files.now (IsPictureOfPair c.args.kinds.now (names_of_pair c.args.files.now) c.args.form) c.in-Ok.field-0.picture.items _ c.deref.ensures.value
    (shown_of_some inputs c.args.kinds.now c.args.files.now c.args.form c.in-Ok.field-0.difference c.in-Ok.field-0.picture.items made) c.args.out.now (IsSpare (g.F.Folder.is_stray folder) (g.F.Folder.moment folder) (g.F.Folder.left_since folder)))
    (c.in-Ok-put.ensures.replaced tells)

pub returns-in-Err-put-clause-err : goal.returns-in-Err-put-clause-err
returns-in-Err-put-clause-err g c =
    let run = effects g.F.Folder g.F.Reader.ByteIn g.F.Sink.ByteOut g.F.NewFile.ByteOut c.args.folder.now c.put.new.folder in
    let stops = run.Stops c.args.out.now in
    let made = shown run.inputs c.args.kinds.now c.args.files.now c.args.form _ c.in-Ok.ensures.0 in
    let some = shown_of_some run.inputs c.args.kinds.now c.args.files.now c.args.form c.in-Ok.field-0.difference c.in-Ok.field-0.picture.items made in
    let IsMade = IsPictureOfPair c.args.kinds.now (names_of_pair c.args.files.now) c.args.form in
    inr (
      c.if-is_pair_input.ensures,
      pair_put_fault run.inputs c.args.kinds.now c.args.files.now IsMade c.in-Ok.field-0.picture.items _ c.deref.ensures.value some
          (λ n. stops n c.deref.result.now) (λ n. OfMadePair run.inputs IsMade c.args.files.now (stops n))
          (λ n. of_made_pair run.inputs c.args.kinds.now c.args.files.now IsMade c.in-Ok.field-0.picture.items _ c.deref.ensures.value some (stops n))
          c.in-Err-put.fault c.in-Err-put.ensures.err,
      c.in-Err-put.ensures.unmade,
    )

pub returns-in-Err-put-clause-replaced : goal.returns-in-Err-put-clause-replaced
returns-in-Err-put-clause-replaced g c tells =
    let folder = c.args.folder.now in
    let inputs = inputs g.F.Folder g.F.Reader.ByteIn folder in
    let made = shown inputs c.args.kinds.now c.args.files.now c.args.form _ c.in-Ok.ensures.0 in
    goes_map _ _ _ _ _ _
    (whole_pair inputs c.args.kinds.now c.args.files.now (IsPictureOfPair c.args.kinds.now (names_of_pair c.args.files.now) c.args.form) c.in-Ok.field-0.picture.items _ c.deref.ensures.value
    (shown_of_some inputs c.args.kinds.now c.args.files.now c.args.form c.in-Ok.field-0.difference c.in-Ok.field-0.picture.items made) c.args.out.now (IsSpare (g.F.Folder.is_stray folder) (g.F.Folder.moment folder) (g.F.Folder.left_since folder)))
    (c.in-Err-put.ensures.replaced tells)

pub returns-in-Err-clause-err : goal.returns-in-Err-clause-err
returns-in-Err-clause-err g c =
    let run = effects g.F.Folder g.F.Reader.ByteIn g.F.Sink.ByteOut g.F.NewFile.ByteOut c.args.folder.now c.args.folder.now in
    let e = c.in-Err.fault in
    inr (
      c.if-is_pair_input.ensures,
      pair_unwritten run.inputs c.args.kinds.now c.args.files.now (λ n. OfMadePair run.inputs (IsPictureOfPair c.args.kinds.now (names_of_pair c.args.files.now) c.args.form) c.args.files.now (run.Stops c.args.out.now n)) e
          c.in-Err.ensures.0,
      before_writing e run.untouched refl,
    )
