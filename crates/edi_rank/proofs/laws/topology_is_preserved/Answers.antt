use Rattle.edi_rank.proofs.Preserved.{topology_preserved, joins_kept}
use Rattle.edi_rank.proofs.laws.topology_is_preserved.Goals as goal

pub returns-clause-topology : goal.returns-clause-topology
returns-clause-topology c = topology_preserved

pub returns-clause-joins : goal.returns-clause-joins
returns-clause-joins c = joins_kept
