use Rattle.std.proofs.Common.{codes, inl, refl}
use Rattle.edi_answers.specs.Effects.{effects, inputs, written}
use Rattle.edi_answers.specs.Statuses.{paths_of}
use Rattle.edi_answers.proofs.Answering.{appends_nothing}
use Rattle.edicad.proofs.OneSheet.{send_status, unsent_status}
use Rattle.edi_answers.proofs.OneSheet.{silent_before}
use Rattle.edi_answers.proofs.Noted.{note_warned}
use Rattle.edicad.proofs.command.send.Goals as goal

pub returns-in-Ok-clause-answer : goal.returns-in-Ok-clause-answer
returns-in-Ok-clause-answer g c =
    let run = effects g.F.Folder g.F.Reader.ByteIn g.F.Sink.ByteOut g.F.NewFile.ByteOut c.args.folder.now c.args.folder.now in
    let out = written g.O.ByteOut c.args.out.now c.send.new.out in
    let err = written g.E.ByteOut c.args.err.now c.args.err.now in
    send_status run out err c.args.kinds.now c.args.files.now 0 c.args.product c.in-Ok.ensures.ok (appends_nothing (g.E.ByteOut.contents c.args.err.now)) refl

pub returns-in-Err-clause-answer : goal.returns-in-Err-clause-answer
returns-in-Err-clause-answer g c =
    let run = effects g.F.Folder g.F.Reader.ByteIn g.F.Sink.ByteOut g.F.NewFile.ByteOut c.args.folder.now c.args.folder.now in
    let out = written g.O.ByteOut c.args.out.now c.send.new.out in
    let err = written g.E.ByteOut c.args.err.now c.say_fault.new.err in
    unsent_status run out err c.args.kinds.now c.args.files.now c.say_fault.result c.args.product c.in-Err.fault c.in-Err.ensures.err
    (silent_before g.O.ByteOut c.in-Err.fault c.args.out.now c.send.new.out c.in-Err.ensures.unwritten) c.say_fault.ensures.said

pub returns-in-Ok-clause-note : goal.returns-in-Ok-clause-note
returns-in-Ok-clause-note g c = inl c.in-Ok.ensures.note

pub returns-in-Err-clause-note : goal.returns-in-Err-clause-note
returns-in-Err-clause-note g c =
    let inputs = inputs g.F.Folder g.F.Reader.ByteIn c.args.folder.now in
    let kinds = c.args.kinds.now in
    let path = c.args.files.now.scd.now in
    note_warned inputs kinds path c.args.note.now.items c.send.new.note.items (g.F.Folder.why c.args.folder.now)
    (written g.E.ByteOut c.args.err.now c.say_fault.new.err) c.in-Err.fault (paths_of c.args.files.now (codes "-")) c.say_fault.result c.say_fault.ensures.said c.in-Err.ensures.note
