use Rattle.std.proofs.lemmas.Slice.Eq.{slice_eq-Decides}
use Rattle.edi_compare.proofs.Equal.{extra_decided}
use Rattle.edi_compare.proofs.contents.same_extras.Goals as goal

pub returns : goal.returns
returns c = slice_eq-Decides extra_decided c.args.others.now c.args.extras.now c.eq.result c.eq.ensures
