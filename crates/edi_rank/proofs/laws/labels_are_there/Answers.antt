use Rattle.edi_rank.proofs.LabelsThere.{labels, are_labels}
use Rattle.edi_rank.proofs.laws.labels_are_there.Goals as goal

pub returns : goal.returns
returns c = λ s p under joined sound distinct. (labels s p under.whole joined sound distinct, are_labels s p under.whole joined sound distinct)
