use Rattle.edi_outcome.proofs.Texts.{text_in-texts}
use Rattle.edi_answers.proofs.paths.path_in.Goals as goal

pub returns : goal.returns
returns c = text_in-texts c.args.paths.now c.args.place _ c.requires
