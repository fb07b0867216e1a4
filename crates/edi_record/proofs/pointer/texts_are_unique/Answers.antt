use Rattle.std.proofs.Common.{◌∙◌, sym}
use Rattle.edi_record.proofs.TextParts.{pointer_one, place_one}
use Rattle.edi_record.proofs.pointer.texts_are_unique.Goals as goal

pub returns-clause-pointer : goal.returns-clause-pointer
returns-clause-pointer c = pointer_one

pub returns-clause-position : goal.returns-clause-position
returns-clause-position c = place_one

pub returns-clause-count : goal.returns-clause-count
returns-clause-count c = λ text m n h k. h.2 ∙ sym k.2
