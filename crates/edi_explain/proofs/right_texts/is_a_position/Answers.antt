use Rattle.edi_explain.proofs.Passing.{position_is}
use Rattle.edi_explain.proofs.right_texts.is_a_position.Goals as goal

pub returns : goal.returns
returns c = position_is c.args.text.now c.is_position.result c.is_position.ensures
