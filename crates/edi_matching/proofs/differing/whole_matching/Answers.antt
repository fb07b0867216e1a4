use Rattle.std.proofs.Common.{◌∙◌, ap, map, Some}
use Rattle.edi_matching.proofs.differing.whole_matching.Goals as goal

pub returns : goal.returns
returns c = λ i. record { to = (c.from_vec.ensures ∙ (c.in_ok-to.ensures ∙ ap (map Some) c.as_slice.ensures)) i; turned = c.args.pairing.turned }
