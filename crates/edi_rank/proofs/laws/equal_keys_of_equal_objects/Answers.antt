use Rattle.edi_rank.proofs.ObjectKeys.{equal_one_key, one_key_equal, labels_apart}
use Rattle.edi_rank.proofs.RankedApart.{ranked_apart}
use Rattle.edi_rank.proofs.laws.equal_keys_of_equal_objects.Goals as goal

pub returns-clause-equal : goal.returns-clause-equal
returns-clause-equal c = equal_one_key

pub returns-clause-keys : goal.returns-clause-keys
returns-clause-keys c = one_key_equal

pub returns-clause-labels : goal.returns-clause-labels
returns-clause-labels c = labels_apart

pub returns-clause-ranks : goal.returns-clause-ranks
returns-clause-ranks c = ranked_apart
