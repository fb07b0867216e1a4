use Rattle.edicad.proofs.command.run_words.Goals as goal

pub returns : goal.returns
returns g c = c.run_over.ensures.status
