use Rattle.edi_rank.specs.Arranged.{new_place}
use Rattle.edi_rank.specs.Labelling.{turned_at}
use Rattle.edi_rank.proofs.Arranging.{carries_arranged}
use Rattle.edi_rank.proofs.laws.arranging_is_sound.Goals as goal

pub returns-clause-carries : goal.returns-clause-carries
returns-clause-carries c = carries_arranged

pub returns-clause-same : goal.returns-clause-same
returns-clause-same c = λ s p l labels. (new_place l p, turned_at l.turned, carries_arranged s p l labels)
