use Rattle.edi_profiles.proofs.Sheets.{high_refused, node_three, node_two, shared_refused, shared_refused_earlier}
use Rattle.edi_profiles.proofs.known.known_sheets_by_profile.Goals as goal

pub returns-clause-flat : goal.returns-clause-flat
returns-clause-flat c = node_two

pub returns-clause-flat_later : goal.returns-clause-flat_later
returns-clause-flat_later c = node_three

pub returns-clause-high : goal.returns-clause-high
returns-clause-high c = high_refused

pub returns-clause-shared : goal.returns-clause-shared
returns-clause-shared c = shared_refused

pub returns-clause-shared_earlier : goal.returns-clause-shared_earlier
returns-clause-shared_earlier c = shared_refused_earlier
