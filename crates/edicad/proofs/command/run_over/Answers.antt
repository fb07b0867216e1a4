use Rattle.edicad.proofs.command.run_over.Goals as goal

pub returns-clause-status : goal.returns-clause-status
returns-clause-status g c = (c.request_asked-request.result, c.request_asked-request.ensures, c.answer_request.ensures.status)

pub returns-clause-answer : goal.returns-clause-answer
returns-clause-answer g c = (c.request_asked-request.result, c.request_asked-request.ensures, c.answer_request.ensures.answer)
