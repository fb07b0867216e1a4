use Rattle.std.proofs.Common.{arith, inl, inr, refl}
use Rattle.std.proofs.lemmas.Result.{IfOk-weaker}
use Rattle.edi_answers.specs.Effects.{inputs}
use Rattle.edi_answers.specs.PairInputs.{IsLoadedPair}
use Rattle.edi_answers.specs.SheetRuns.{pair_path_at}
use Rattle.edi_answers.proofs.Faults.{if_err_map}
use Rattle.edi_answers.proofs.Kept.{unread}
use Rattle.edi_answers.proofs.LoadedPairs.{bytes_there, inputs_there, known_of_read, pair_unread, readers_there, schema_refused, unread_of}
use Rattle.edi_answers.proofs.PairRuns.{run_failed, run_noted}
use Rattle.edi_answers.proofs.pair_inputs.load_pair.Goals as goal

pub returns : goal.returns
returns g c =
    let inputs = inputs g.F.Folder g.F.Reader.ByteIn c.args.folder.now in
    let kinds = c.args.kinds.now in
    let files = c.args.files.now in
    let bytes = c.in_ok-bytes.bytes in
    let read = c.in_ok-bytes.ensures.read in
    run_noted inputs kinds files c.args.note.now.items c.with_classes.new.note.items (IsLoadedPair kinds) c.load.result
    (IfOk-weaker c.load.result _ _ (λ pair h. known_of_read inputs kinds files bytes.classes.items bytes.dic.items bytes.first bytes.second read (IsLoadedPair kinds pair) h) c.load.ensures.ok)
    (if_err_map c.load.result _ _
    (λ e h. inr (
      bytes_there inputs kinds files bytes.classes.items bytes.dic.items bytes.first bytes.second read,
      schema_refused inputs kinds files bytes.classes.items bytes.dic.items bytes.first bytes.second read _ _ _ e h,
    )) c.load.ensures.err)
    c.in_ok-pair.ensures.noted

pub returns-in_err-readers : goal.returns-in_err-readers
returns-in_err-readers g c =
    let inputs = inputs g.F.Folder g.F.Reader.ByteIn c.args.folder.now in
    run_failed inputs c.args.kinds.now c.args.files.now c.args.note.now.items c.args.note.now.items (IsLoadedPair c.args.kinds.now) _ c.in_err-readers.field-0.0
    c.from_residual.ensures.1 (inl c.in_err-readers.ensures.err) (inr (c.in_err-readers.ensures.unread, refl))

pub returns-in_err-pair : goal.returns-in_err-pair
returns-in_err-pair g c =
    let reader = g.F.Reader.ByteIn in
    let inputs = inputs g.F.Folder reader c.args.folder.now in
    let kinds = c.args.kinds.now in
    let files = c.args.files.now in
    let held = c.in_ok-readers.readers in
    let e = c.in_err-pair.field-0.0 in
    run_failed inputs kinds files c.args.note.now.items c.with_classes.new.note.items (IsLoadedPair kinds) _ e c.from_residual-in_err-pair.ensures.1
    (inr (
      readers_there inputs kinds files reader held.scd held.dic held.first held.second c.in_ok-readers.ensures.opened,
      pair_unread inputs kinds files _ _ _ e (unread_of inputs (pair_path_at files) 4 1 (omega arith) (omega arith) e c.in_err-pair.ensures.err),
    ))
    (inr (unread _ _ e c.in_err-pair.ensures.err, c.in_err-pair.ensures.unnoted))

pub returns-in_err-bytes : goal.returns-in_err-bytes
returns-in_err-bytes g c =
    let reader = g.F.Reader.ByteIn in
    let inputs = inputs g.F.Folder reader c.args.folder.now in
    let kinds = c.args.kinds.now in
    let files = c.args.files.now in
    let held = c.in_ok-pair.pair in
    let e = c.in_err-bytes.field-0.0 in
    run_failed inputs kinds files c.args.note.now.items c.with_classes.new.note.items (IsLoadedPair kinds) _ e c.from_residual-in_err-bytes.ensures.1
    (inr (inputs_there inputs kinds files reader held.classes.items held.dic held.first held.second c.in_ok-pair.ensures.opened, pair_unread inputs kinds files _ _ _ e c.in_err-bytes.ensures.err))
    (inl c.in_ok-pair.ensures.noted)
