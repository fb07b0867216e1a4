use Rattle.std.proofs.Common.{[], subst}
use Rattle.edi_answers.specs.Census.{IsCensusStatus}
use Rattle.edi_answers.specs.Effects.{effects, written}
use Rattle.edi_answers.specs.Hashes.{IsHashStatus}
use Rattle.edi_answers.specs.declared.form.AnswerForm.{AnswerForm}
use Rattle.edicad.proofs.command.reply_on_many.Goals as goal

pub returns-in-CheckList-clause-answer : goal.returns-in-CheckList-clause-answer
returns-in-CheckList-clause-answer g c = rw c.in-CheckList.is c.check_list.ensures.answer

pub returns-in-Hash-clause-answer : goal.returns-in-Hash-clause-answer
returns-in-Hash-clause-answer g c =
    let run = effects g.F.Folder g.F.Reader.ByteIn g.F.Sink.ByteOut g.F.NewFile.ByteOut c.args.folder.now c.args.folder.now in
    let out = written g.O.ByteOut c.args.out.now c.hash.new.out in
    let err = written g.E.ByteOut c.args.err.now c.hash.new.err in
    rw c.in-Hash.is
    (subst (λ (form : AnswerForm). IsHashStatus run out err c.args.kinds.now c.args.files.now form c.in-Hash.with_schema [] c.hash.result)
    c.answer_form_asked-form.ensures c.hash.ensures.answer)

pub returns-in-ExplainAll-clause-answer : goal.returns-in-ExplainAll-clause-answer
returns-in-ExplainAll-clause-answer g c =
    let run = effects g.F.Folder g.F.Reader.ByteIn g.F.Sink.ByteOut g.F.NewFile.ByteOut c.args.folder.now c.args.folder.now in
    let out = written g.O.ByteOut c.args.out.now c.explain_all.new.out in
    let err = written g.E.ByteOut c.args.err.now c.explain_all.new.err in
    rw c.in-ExplainAll.is
    (subst (λ (form : AnswerForm). IsCensusStatus run out err c.args.kinds.now c.args.files.now form c.explain_all.result)
    c.answer_form_asked-form-in-ExplainAll.ensures c.explain_all.ensures.answer)
