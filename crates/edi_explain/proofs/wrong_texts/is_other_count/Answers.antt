use Rattle.edi_explain.proofs.Passing.{other_count_is}
use Rattle.edi_explain.proofs.wrong_texts.is_other_count.Goals as goal

pub returns : goal.returns
returns c = other_count_is c.args.text.now c.args.number c.is_count.result c.is_count.ensures
