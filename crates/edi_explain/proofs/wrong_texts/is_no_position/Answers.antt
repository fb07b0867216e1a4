use Rattle.edi_explain.proofs.Passing.{no_position_is}
use Rattle.edi_explain.proofs.wrong_texts.is_no_position.Goals as goal

pub returns : goal.returns
returns c = no_position_is c.args.text.now c.is_position.result c.is_position.ensures
