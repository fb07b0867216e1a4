use Rattle.edi_answers.specs.Effects.{effects, written}
use Rattle.edi_answers.proofs.OneSheet.{explained_status, unexplained_status, unmoved}
use Rattle.edi_answers.proofs.explains.explain.Goals as goal

pub returns-in-Ok-clause-answer : goal.returns-in-Ok-clause-answer
returns-in-Ok-clause-answer g c =
    let run = effects g.F.Folder g.F.Reader.ByteIn g.F.Sink.ByteOut g.F.NewFile.ByteOut c.args.folder.now c.args.folder.now in
    let put = c.put_account in
    let out = written g.O.ByteOut c.args.out.now put.new.out in
    let err = written g.E.ByteOut c.args.err.now put.new.err in
    explained_status run out err c.args.kinds.now c.args.files.now c.args.form put.result c.in-Ok.account.is_accepted c.in-Ok.account.text.items c.in-Ok.ensures.ok
    put.ensures.status (λ few. let h = put.ensures.answer few in (h.0, unmoved g.E.ByteOut c.args.err.now put.new.err h.1)) put.ensures.unsaid

pub returns-in-Err-clause-answer : goal.returns-in-Err-clause-answer
returns-in-Err-clause-answer g c =
    let run = effects g.F.Folder g.F.Reader.ByteIn g.F.Sink.ByteOut g.F.NewFile.ByteOut c.args.folder.now c.args.folder.now in
    let out = written g.O.ByteOut c.args.out.now c.answer.new.out in
    let err = written g.E.ByteOut c.args.err.now c.answer.new.err in
    unexplained_status run out err c.args.kinds.now c.args.files.now c.args.form c.answer.result c.in-Err.fault c.in-Err.ensures.err c.in-Err.ensures.unrefused c.answer.ensures.said
