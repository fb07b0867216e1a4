use Rattle.std.proofs.Common.{arith}
use Rattle.edi_answers.specs.Effects.{written}
use Rattle.edi_outcome.specs.Words.{texts}
use Rattle.edi_answers.proofs.Refusals.{said_of_warned}
use Rattle.edi_answers.proofs.report.answer.Goals as goal

pub returns-in-Fault-clause-said : goal.returns-in-Fault-clause-said
returns-in-Fault-clause-said g c =
    let err = written g.E.ByteOut c.args.err.now c.say_fault.new.err in
    rw c.in-Fault.is
    (said_of_warned (g.F.Folder.why c.args.folder.now) (g.O.ByteOut.contents c.args.out.now) (g.O.ByteOut.has_failed c.args.out.now) err c.args.form c.in-Fault.fault
    (texts c.args.paths.now) c.say_fault.result (omega arith) c.say_fault.ensures.said)
