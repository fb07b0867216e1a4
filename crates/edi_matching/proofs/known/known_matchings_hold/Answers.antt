use Rattle.edi_matching.proofs.KnownMatchings.{kept_holds, kept_partial, both_refused}
use Rattle.edi_matching.proofs.known.known_matchings_hold.Goals as goal

pub returns-clause-holds : goal.returns-clause-holds
returns-clause-holds c = kept_holds

pub returns-clause-partial : goal.returns-clause-partial
returns-clause-partial c = kept_partial

pub returns-clause-moved : goal.returns-clause-moved
returns-clause-moved c = both_refused
