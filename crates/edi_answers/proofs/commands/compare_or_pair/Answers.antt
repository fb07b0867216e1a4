use Rattle.std.proofs.Common.{codes, refl, subst}
use Rattle.edi_answers.specs.Effects.{effects, inputs, written}
use Rattle.edi_outcome.specs.Status.{status_for}
use Rattle.edi_answers.specs.inner.Outcome.{outcome_for, paired_outcome}
use Rattle.edi_answers.specs.Statuses.{IsAnsweredAs, IsSaid, pair_paths_of}
use Rattle.edi_answers.proofs.Refusals.{compare_status}
use Rattle.edi_answers.proofs.Pairings.{pairing_status}
use Rattle.edi_answers.proofs.Noted.{note_answered, note_compared, note_paired}
use Rattle.edi_answers.proofs.commands.compare_or_pair.Goals as goal

pub returns-in-Some-clause-answer : goal.returns-in-Some-clause-answer
returns-in-Some-clause-answer g c =
    let path = c.in-Some.path.now in
    let run = effects g.F.Folder g.F.Reader.ByteIn g.F.Sink.ByteOut g.F.NewFile.ByteOut c.args.folder.now c.pair.new.folder in
    let out = written g.O.ByteOut c.args.out.now c.answer.new.out in
    let err = written g.E.ByteOut c.args.err.now c.answer.new.err in
    rw c.in-Some.is
    (pairing_status run out err c.args.kinds.now c.args.files.now c.args.form path c.answer.result c.pair.result c.pair.ensures.ok c.pair.ensures.err c.pair.ensures.replaced
    (subst (λ o. IsSaid run.why out err c.args.form o (pair_paths_of c.args.files.now path) c.answer.result) c.outcome_of_paired-outcome.ensures c.answer.ensures.said))

pub returns-in-Some-clause-note : goal.returns-in-Some-clause-note
returns-in-Some-clause-note g c =
    let inputs = inputs g.F.Folder g.F.Reader.ByteIn c.args.folder.now in
    let kinds = c.args.kinds.now in
    let path = c.args.files.now.scd.now in
    let new = c.pair.new.note.items in
    note_answered inputs kinds path c.args.note.now.items new (status_for (paired_outcome c.pair.result)) c.answer.result
    (subst (λ o. IsAnsweredAs (status_for o) c.answer.result) c.outcome_of_paired-outcome.ensures c.answer.ensures.said.status)
    (note_paired inputs kinds path c.args.note.now.items new c.pair.result c.pair.ensures.note)

pub returns-in-None-clause-answer : goal.returns-in-None-clause-answer
returns-in-None-clause-answer g c =
    let answer = c.answer-in-None in
    let run = effects g.F.Folder g.F.Reader.ByteIn g.F.Sink.ByteOut g.F.NewFile.ByteOut c.args.folder.now c.args.folder.now in
    let out = written g.O.ByteOut c.args.out.now answer.new.out in
    let err = written g.E.ByteOut c.args.err.now answer.new.err in
    rw c.in-None.is (
      refl,
      compare_status run out err c.args.kinds.now c.args.files.now c.args.form answer.result c.compare.result c.compare.ensures.0
          (subst (λ o. IsSaid run.why out err c.args.form o (pair_paths_of c.args.files.now (codes "-")) answer.result) c.outcome_of-outcome.ensures answer.ensures.said),
    )

pub returns-in-None-clause-note : goal.returns-in-None-clause-note
returns-in-None-clause-note g c =
    let answer = c.answer-in-None in
    let inputs = inputs g.F.Folder g.F.Reader.ByteIn c.args.folder.now in
    let kinds = c.args.kinds.now in
    let path = c.args.files.now.scd.now in
    let new = c.compare.new.note.items in
    note_answered inputs kinds path c.args.note.now.items new (status_for (outcome_for c.compare.result)) answer.result
    (subst (λ o. IsAnsweredAs (status_for o) answer.result) c.outcome_of-outcome.ensures answer.ensures.said.status)
    (note_compared inputs kinds path c.args.note.now.items new c.compare.result c.compare.ensures.1)
