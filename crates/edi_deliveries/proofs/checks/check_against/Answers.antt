use Rattle.std.proofs.Common.{inr}
use Rattle.edi_answers.proofs.Answering.{appends_nothing}
use Rattle.edi_deliveries.proofs.checks.check_against.Goals as goal

pub returns-in-Ok-clause-status : goal.returns-in-Ok-clause-status
returns-in-Ok-clause-status g c = c.check_open_delivery.ensures.status

pub returns-in-Err-clause-status : goal.returns-in-Err-clause-status
returns-in-Err-clause-status g c = inr c.in-Err.ensures.err.0

pub returns-in-Err-clause-answer : goal.returns-in-Err-clause-answer
returns-in-Err-clause-answer g c = inr (c.in-Err.ensures.err.1, appends_nothing (g.O.ByteOut.contents c.args.out.now))
