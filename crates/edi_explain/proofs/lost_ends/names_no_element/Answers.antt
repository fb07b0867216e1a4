use Rattle.edi_record.specs.Texts.{shown}
use Rattle.edi_explain.proofs.LostEnds.{lost_is}
use Rattle.edi_explain.proofs.lost_ends.names_no_element.Goals as goal

pub returns : goal.returns
returns c = λ groups h.
    lost_is groups c.args.names.now.keys h c.args.text.now (shown c.in-Some.pointer) c.in-Some.ensures
    (λ e. let t = c.is_same.ensures.1 e in let f = c.if-is_same.false in cc) c.in_ok-there.there c.in_ok-there.ensures
