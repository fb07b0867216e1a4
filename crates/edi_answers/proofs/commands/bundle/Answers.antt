use Rattle.std.proofs.Common.{refl}
use Rattle.edi_answers.specs.Effects.{effects, written}
use Rattle.edi_answers.proofs.Answering.{appends_nothing}
use Rattle.edi_answers.proofs.Bundles.{bundle_status, unbundled_status}
use Rattle.edi_answers.proofs.commands.bundle.Goals as goal

pub returns-in-Ok-clause-answer : goal.returns-in-Ok-clause-answer
returns-in-Ok-clause-answer g c =
    let run = effects g.F.Folder g.F.Reader.ByteIn g.F.Sink.ByteOut g.F.NewFile.ByteOut c.args.folder.now c.args.folder.now in
    let out = written g.O.ByteOut c.args.out.now c.bundle.new.out in
    let err = written g.E.ByteOut c.args.err.now c.args.err.now in
    let h = c.in-Ok.ensures.ok in
    bundle_status run out err 0 h.0 h.1 h.2 (appends_nothing (g.E.ByteOut.contents c.args.err.now)) refl

pub returns-in-Err-clause-answer : goal.returns-in-Err-clause-answer
returns-in-Err-clause-answer g c =
    let run = effects g.F.Folder g.F.Reader.ByteIn g.F.Sink.ByteOut g.F.NewFile.ByteOut c.args.folder.now c.args.folder.now in
    let err = written g.E.ByteOut c.args.err.now c.answer.new.err in
    let h = c.in-Err.ensures.err in
    unbundled_status run g.O.ByteOut c.args.out.now c.bundle.new.out c.answer.new.out err c.answer.result c.in-Err.fault h.0
    h.1 h.2 c.in-Err.ensures.unwritten c.answer.ensures.said c.answer.ensures.kept
