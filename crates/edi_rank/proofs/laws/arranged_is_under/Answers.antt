use Rattle.edi_rank.proofs.ArrangedUnder.{whole_arranged, under_arranged}
use Rattle.edi_rank.proofs.laws.arranged_is_under.Goals as goal

pub returns-clause-whole : goal.returns-clause-whole
returns-clause-whole c = whole_arranged

pub returns-clause-under : goal.returns-clause-under
returns-clause-under c = λ s p l labels under. under_arranged s p l under labels
