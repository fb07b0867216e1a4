use Rattle.std.proofs.Common.{subst}
use Rattle.edi_answers.specs.Effects.{effects, inputs, written}
use Rattle.edi_outcome.specs.Status.{status_for}
use Rattle.edi_answers.specs.inner.Outcome.{verified_outcome}
use Rattle.edi_answers.specs.Statuses.{IsAnsweredAs, IsSaid, verify_paths_of}
use Rattle.edi_answers.proofs.Pairings.{verified_names, verify_status}
use Rattle.edi_answers.proofs.Noted.{note_answered, note_verified}
use Rattle.edi_answers.proofs.commands.verify.Goals as goal

pub answer-requires : goal.answer-requires
answer-requires g c = rw c.outcome_of_verified-outcome.ensures (verified_names c.verify.result c.verify.ensures.names)

pub returns-clause-answer : goal.returns-clause-answer
returns-clause-answer g c =
    let run = effects g.F.Folder g.F.Reader.ByteIn g.F.Sink.ByteOut g.F.NewFile.ByteOut c.args.folder.now c.args.folder.now in
    let paths = verify_paths_of c.args.files.now c.args.pairing.now in
    let out = written g.O.ByteOut c.args.out.now c.answer.new.out in
    let err = written g.E.ByteOut c.args.err.now c.answer.new.err in
    verify_status run out err c.args.kinds.now c.args.files.now c.args.form c.args.pairing.now c.answer.result c.verify.result c.verify.ensures.ok c.verify.ensures.err
    (subst (λ o. IsSaid run.why out err c.args.form o paths c.answer.result) c.outcome_of_verified-outcome.ensures c.answer.ensures.said)

pub returns-clause-note : goal.returns-clause-note
returns-clause-note g c =
    let inputs = inputs g.F.Folder g.F.Reader.ByteIn c.args.folder.now in
    let kinds = c.args.kinds.now in
    let path = c.args.files.now.scd.now in
    let new = c.verify.new.note.items in
    note_answered inputs kinds path c.args.note.now.items new (status_for (verified_outcome c.verify.result)) c.answer.result
    (subst (λ o. IsAnsweredAs (status_for o) c.answer.result) c.outcome_of_verified-outcome.ensures c.answer.ensures.said.status)
    (note_verified inputs kinds path c.args.note.now.items new c.verify.result c.verify.ensures.note)
