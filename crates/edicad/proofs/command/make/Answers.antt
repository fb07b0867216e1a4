use Rattle.std.proofs.Common.{◌∙◌, inl, sym}
use Rattle.edi_answers.specs.Effects.{effects, inputs, written}
use Rattle.edi_outcome.specs.Status.{status_of_fault}
use Rattle.edicad.proofs.OneSheet.{made_put, put_status, unput_status}
use Rattle.edi_answers.proofs.Noted.{note_answered}
use Rattle.edicad.proofs.command.make.Goals as goal

pub returns-in-Ok-clause-answer : goal.returns-in-Ok-clause-answer
returns-in-Ok-clause-answer g c =
    let run = effects g.F.Folder g.F.Reader.ByteIn g.F.Sink.ByteOut g.F.NewFile.ByteOut c.args.folder.now c.put.new.folder in
    let answer = c.answer in
    let out = written g.O.ByteOut c.args.out.now answer.new.out in
    let err = written g.E.ByteOut c.args.err.now answer.new.err in
    made_put run out err c.args.kinds.now c.args.files.now answer.result c.args.product c.args.path.now c.put.ensures.replaced (sym c.is_standard.ensures ∙ c.if-is_standard.false)
    (put_status run out err c.args.kinds.now c.args.files.now answer.result c.args.product c.args.path.now c.put.ensures.replaced c.in-Ok.ensures.ok answer.ensures.said)

pub returns-in-Err-clause-answer : goal.returns-in-Err-clause-answer
returns-in-Err-clause-answer g c =
    let run = effects g.F.Folder g.F.Reader.ByteIn g.F.Sink.ByteOut g.F.NewFile.ByteOut c.args.folder.now c.put.new.folder in
    let answer = c.answer-in-Err in
    let out = written g.O.ByteOut c.args.out.now answer.new.out in
    let err = written g.E.ByteOut c.args.err.now answer.new.err in
    made_put run out err c.args.kinds.now c.args.files.now answer.result c.args.product c.args.path.now c.put.ensures.replaced (sym c.is_standard.ensures ∙ c.if-is_standard.false)
    (unput_status run out err c.args.kinds.now c.args.files.now answer.result c.args.product c.args.path.now c.put.ensures.replaced c.in-Err.fault
    c.in-Err.ensures.err answer.ensures.said)

pub returns-in-Ok-clause-note : goal.returns-in-Ok-clause-note
returns-in-Ok-clause-note g c = inl c.in-Ok.ensures.note

pub returns-in-Err-clause-note : goal.returns-in-Err-clause-note
returns-in-Err-clause-note g c =
    let inputs = inputs g.F.Folder g.F.Reader.ByteIn c.args.folder.now in
    let kinds = c.args.kinds.now in
    let path = c.args.files.now.scd.now in
    note_answered inputs kinds path c.args.note.now.items c.put.new.note.items (status_of_fault c.in-Err.fault) c.answer-in-Err.result
    c.answer-in-Err.ensures.said.status c.in-Err.ensures.note
