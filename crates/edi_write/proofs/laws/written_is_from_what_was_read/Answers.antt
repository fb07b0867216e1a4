use Rattle.edi_rank.specs.Arranged.{new_place}
use Rattle.edi_rank.specs.Labelling.{turned_at}
use Rattle.edi_rank.specs.Laws.{IsPlanUnder}
use Rattle.edi_rank.proofs.Arranging.{carries_arranged}
use Rattle.edi_rank.proofs.ArrangedUnder.{under_arranged}
use Rattle.edi_rank.proofs.Preserved.{joins_kept}
use Rattle.edi_write.specs.Laws.{ArrangedIsPlan}
use Rattle.edi_write.proofs.WrittenPrinted.{attribute_classes}
use Rattle.edi_write.proofs.laws.written_is_from_what_was_read.Goals as goal

arranged_kept : ArrangedIsPlan
arranged_kept s p l paired whole agrees joined labels =
    let under : IsPlanUnder s p = record { paired = paired; whole = whole; agrees = agrees } in
    let after = under_arranged s p l under labels in
    (after.whole, after.agrees, joins_kept s p _ under after (new_place l p, turned_at l.turned, carries_arranged s p l labels) joined)

pub returns-clause-plan : goal.returns-clause-plan
returns-clause-plan c = arranged_kept

pub returns-clause-classes : goal.returns-clause-classes
returns-clause-classes c = attribute_classes
