use Rattle.edi_record.specs.Texts.{shown}
use Rattle.edi_explain.proofs.Straying.{apart_by_subset}
use Rattle.edi_explain.proofs.astray.are_apart.Goals as goal

pub returns-else-differ : goal.returns-else-differ
returns-else-differ c =
    apart_by_subset c.args.text.now c.args.other.now (shown c.in-Some.pointer) (shown c.in-Some-read.named) c.in-Some.ensures c.in-Some-read.ensures
    (λ n. let t = c.differ.ensures.1 n in let f = c.if-differ.false in cc) c.differ-else-differ.result c.differ-else-differ.ensures
