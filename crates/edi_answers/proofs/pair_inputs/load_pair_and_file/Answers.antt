use Rattle.std.proofs.Common.{arith, inl, inr, refl}
use Rattle.edi_compare.proofs.Refusals.{err_kept}
use Rattle.edi_answers.specs.Effects.{inputs}
use Rattle.edi_answers.specs.PairInputs.{IsLoadedPair}
use Rattle.edi_answers.specs.SheetRuns.{AreFiveThere, VerifyFileFault, verify_path_at}
use Rattle.edi_answers.proofs.LoadedPairs.{four_of_five, known_of_read, pair_unread, readers_there, schema_refused, unread_of}
use Rattle.edi_answers.proofs.pair_inputs.load_pair_and_file.Goals as goal

pub returns-clause-ok : goal.returns-clause-ok
returns-clause-ok g c =
    let bytes = c.in_ok-bytes.bytes in
    known_of_read (inputs g.F.Folder g.F.Reader.ByteIn c.args.folder.now) c.args.kinds.now c.args.files.now bytes.classes.items bytes.dic.items bytes.first bytes.second c.in_ok-bytes.ensures.read
    (IsLoadedPair c.args.kinds.now c.in_ok-loaded.loaded) c.in_ok-loaded.ensures.ok

pub returns-in_err-file-clause-err : goal.returns-in_err-file-clause-err
returns-in_err-file-clause-err g c =
    let reader = g.F.Reader.ByteIn in
    let inputs = inputs g.F.Folder reader c.args.folder.now in
    let files = c.args.files.now in
    let held = c.in_ok-readers.readers in
    let e = c.in_err-file.field-0.0 in
    err_kept _ e (VerifyFileFault inputs c.args.kinds.now files c.args.pairing.now) c.from_residual-in_err-file.ensures.1
    (inl (5, inr (refl, readers_there inputs c.args.kinds.now files reader held.scd held.dic held.first held.second c.in_ok-readers.ensures.opened, c.in_err-file.ensures.err.0), c.in_err-file.ensures.err.1))

pub returns-in_err-pair-clause-err : goal.returns-in_err-pair-clause-err
returns-in_err-pair-clause-err g c =
    let reader = g.F.Reader.ByteIn in
    let inputs = inputs g.F.Folder reader c.args.folder.now in
    let files = c.args.files.now in
    let held = c.in_ok-readers.readers in
    let e = c.in_err-pair.field-0.0 in
    let there : AreFiveThere inputs files c.args.pairing.now = (readers_there inputs c.args.kinds.now files reader held.scd held.dic held.first held.second c.in_ok-readers.ensures.opened, (reader.contents c.in_ok-file.file, c.in_ok-file.ensures.ok)) in
    err_kept _ e (VerifyFileFault inputs c.args.kinds.now files c.args.pairing.now) c.from_residual-in_err-pair.ensures.1
    (inr (there, pair_unread inputs c.args.kinds.now files _ _ _ e (unread_of inputs (verify_path_at files c.args.pairing.now) 5 1 (omega arith) (omega arith) e c.in_err-pair.ensures.err)))

pub returns-in_err-bytes-clause-err : goal.returns-in_err-bytes-clause-err
returns-in_err-bytes-clause-err g c =
    let reader = g.F.Reader.ByteIn in
    let inputs = inputs g.F.Folder reader c.args.folder.now in
    let files = c.args.files.now in
    let held = c.in_ok-readers.readers in
    let e = c.in_err-bytes.field-0.0 in
    let there : AreFiveThere inputs files c.args.pairing.now = (readers_there inputs c.args.kinds.now files reader held.scd held.dic held.first held.second c.in_ok-readers.ensures.opened, (reader.contents c.in_ok-file.file, c.in_ok-file.ensures.ok)) in
    err_kept _ e (VerifyFileFault inputs c.args.kinds.now files c.args.pairing.now) c.from_residual-in_err-bytes.ensures.1
    (inr (there, pair_unread inputs c.args.kinds.now files _ _ _ e (four_of_five inputs c.args.kinds.now files c.args.pairing.now e c.in_err-bytes.ensures.err)))

pub returns-in_err-file-2-clause-err : goal.returns-in_err-file-2-clause-err
returns-in_err-file-2-clause-err g c =
    let reader = g.F.Reader.ByteIn in
    let inputs = inputs g.F.Folder reader c.args.folder.now in
    let files = c.args.files.now in
    let held = c.in_ok-readers.readers in
    let e = c.in_err-file-2.field-0.0 in
    let there : AreFiveThere inputs files c.args.pairing.now = (readers_there inputs c.args.kinds.now files reader held.scd held.dic held.first held.second c.in_ok-readers.ensures.opened, (reader.contents c.in_ok-file.file, c.in_ok-file.ensures.ok)) in
    err_kept _ e (VerifyFileFault inputs c.args.kinds.now files c.args.pairing.now) c.from_residual-in_err-file-2.ensures.1
    (inr (there, pair_unread inputs c.args.kinds.now files _ _ _ e (unread_of inputs (verify_path_at files c.args.pairing.now) 5 5 (omega arith) (omega arith) e c.in_err-file-2.ensures.err)))

pub returns-in_err-loaded-clause-err : goal.returns-in_err-loaded-clause-err
returns-in_err-loaded-clause-err g c =
    let reader = g.F.Reader.ByteIn in
    let inputs = inputs g.F.Folder reader c.args.folder.now in
    let kinds = c.args.kinds.now in
    let files = c.args.files.now in
    let held = c.in_ok-readers.readers in
    let bytes = c.in_ok-bytes.bytes in
    let e = c.in_err-loaded.field-0.0 in
    let there : AreFiveThere inputs files c.args.pairing.now = (readers_there inputs kinds files reader held.scd held.dic held.first held.second c.in_ok-readers.ensures.opened, (reader.contents c.in_ok-file.file, c.in_ok-file.ensures.ok)) in
    err_kept _ e (VerifyFileFault inputs kinds files c.args.pairing.now) c.from_residual-in_err-loaded.ensures.1
    (inr (there, schema_refused inputs kinds files bytes.classes.items bytes.dic.items bytes.first bytes.second c.in_ok-bytes.ensures.read _ _ _ e c.in_err-loaded.ensures.err))
