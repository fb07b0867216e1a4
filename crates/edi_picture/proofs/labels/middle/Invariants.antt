use Rattle.std.proofs.Common.{◌≡◌, fold, min, max, take}
use Rattle.edi_picture.proofs.labels.middle.Given as goal

abbrev pub invariant-loop-number : goal.invariant-loop-number
invariant-loop-number l = (l.least ≡ fold min l.initial.least (take l.number-index l.more)) × (l.greatest ≡ fold max l.initial.greatest (take l.number-index l.more))
