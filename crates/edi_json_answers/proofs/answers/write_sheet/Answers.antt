use Rattle.edi_json_answers.proofs.answers.write_sheet.Goals as goal

pub returns-in-Memory-clause-tokens : goal.returns-in-Memory-clause-tokens
returns-in-Memory-clause-tokens c = rw c.in-Memory.is c.write_reasoned.ensures.tokens
