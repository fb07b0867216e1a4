use Rattle.edi_compare.proofs.KnownSheets.{sheet_accepted, states_node, node_form, empty_accepted, empty_form, sheets_differ, nothing_refused}
use Rattle.edi_compare.proofs.known.known_sheets_are_answered.Goals as goal

pub returns-clause-accepted : goal.returns-clause-accepted
returns-clause-accepted c = sheet_accepted

pub returns-clause-plan : goal.returns-clause-plan
returns-clause-plan c = states_node

pub returns-clause-canonical : goal.returns-clause-canonical
returns-clause-canonical c = node_form.canonical

pub returns-clause-same : goal.returns-clause-same
returns-clause-same c = node_form.same

pub returns-clause-without_records : goal.returns-clause-without_records
returns-clause-without_records c = empty_accepted

pub returns-clause-canonical_without_records : goal.returns-clause-canonical_without_records
returns-clause-canonical_without_records c = empty_form.canonical

pub returns-clause-different : goal.returns-clause-different
returns-clause-different c = sheets_differ

pub returns-clause-nothing : goal.returns-clause-nothing
returns-clause-nothing c = nothing_refused
