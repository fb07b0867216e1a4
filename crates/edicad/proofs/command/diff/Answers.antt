use Rattle.std.proofs.Common.{inl}
use Rattle.edi_answers.specs.Effects.{effects, inputs, written}
use Rattle.edi_outcome.specs.Status.{status_of_fault}
use Rattle.edicad.proofs.Differing.{put_status, unanswered_status}
use Rattle.edi_answers.proofs.Noted.{note_answered}
use Rattle.edi_answers.proofs.PairRuns.{pair_fault_names}
use Rattle.edicad.proofs.command.diff.Goals as goal

pub answer-requires : goal.answer-requires
answer-requires g c = pair_fault_names (inputs g.F.Folder g.F.Reader.ByteIn c.args.folder.now) c.args.kinds.now c.args.files.now c.in-Err.fault c.in-Err.ensures.0

pub returns-in-Ok-clause-answer : goal.returns-in-Ok-clause-answer
returns-in-Ok-clause-answer g c =
    let run = effects g.F.Folder g.F.Reader.ByteIn g.F.Sink.ByteOut g.F.NewFile.ByteOut c.args.folder.now c.args.folder.now in
    let put = c.put_difference in
    let out = written g.O.ByteOut c.args.out.now put.new.out in
    let err = written g.E.ByteOut c.args.err.now put.new.err in
    put_status run out err c.args.kinds.now c.args.files.now c.args.form put.result c.in-Ok.difference c.in-Ok.ensures.0
    put.ensures.status put.ensures.answer put.ensures.unsaid

pub returns-in-Err-clause-answer : goal.returns-in-Err-clause-answer
returns-in-Err-clause-answer g c =
    let run = effects g.F.Folder g.F.Reader.ByteIn g.F.Sink.ByteOut g.F.NewFile.ByteOut c.args.folder.now c.args.folder.now in
    let out = written g.O.ByteOut c.args.out.now c.answer.new.out in
    let err = written g.E.ByteOut c.args.err.now c.answer.new.err in
    unanswered_status run out err c.args.kinds.now c.args.files.now c.args.form c.answer.result c.in-Err.fault c.in-Err.ensures.0 c.answer.ensures.said

pub returns-in-Ok-clause-note : goal.returns-in-Ok-clause-note
returns-in-Ok-clause-note g c = inl c.in-Ok.ensures.1

pub returns-in-Err-clause-note : goal.returns-in-Err-clause-note
returns-in-Err-clause-note g c =
    let inputs = inputs g.F.Folder g.F.Reader.ByteIn c.args.folder.now in
    let kinds = c.args.kinds.now in
    let path = c.args.files.now.scd.now in
    note_answered inputs kinds path c.args.note.now.items c.diff.new.note.items (status_of_fault c.in-Err.fault) c.answer.result
    c.answer.ensures.said.status c.in-Err.ensures.1
