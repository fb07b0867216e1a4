use Rattle.edi_explain.proofs.Passing.{no_pointer_is}
use Rattle.edi_explain.proofs.breaking.is_no_pointer.Goals as goal

pub returns : goal.returns
returns c = no_pointer_is c.args.text.now c.read.result c.is_none.result c.is_none.ensures c.read.ensures
