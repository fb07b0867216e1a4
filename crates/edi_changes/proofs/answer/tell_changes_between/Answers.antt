use Rattle.std.proofs.Common.{codes, inr}
use Rattle.edi_answers.specs.Effects.{effects, written}
use Rattle.edi_answers.proofs.Answering.{appends_nothing}
use Rattle.edi_changes.specs.Stated.{StatesNoDigests}
use Rattle.edi_changes.proofs.LackTold.{lack_told}
use Rattle.edi_changes.proofs.answer.tell_changes_between.Goals as goal

pub returns-in-Err-clause-answer : goal.returns-in-Err-clause-answer
returns-in-Err-clause-answer g c =
    let run = effects g.F.Folder g.F.Reader.ByteIn g.F.Sink.ByteOut g.F.NewFile.ByteOut c.args.folder.now c.args.folder.now in
    let err = written g.E.ByteOut c.args.err.now c.tell_lack.new.err in
    inr (
      lack_told StatesNoDigests (codes "neither a manifest nor a list of digests") run err c.args.before.now c.in-Err.lack c.tell_lack.result c.in-Err.ensures.err c.tell_lack.ensures.told,
      appends_nothing (g.O.ByteOut.contents c.args.out.now),
    )
