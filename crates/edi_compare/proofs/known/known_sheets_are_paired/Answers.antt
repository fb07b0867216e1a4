use Rattle.edi_compare.proofs.KnownSheetsForms.{same_verdict, different_verdict}
use Rattle.edi_compare.proofs.KnownSheetsPaired.{arc_paired, not_exchanged}
use Rattle.edi_compare.proofs.KnownSheetsStated.{arc_states, reversed_states, exchanged_states, states_same, not_same}
use Rattle.edi_compare.proofs.known.known_sheets_are_paired.Goals as goal

pub returns-clause-plan : goal.returns-clause-plan
returns-clause-plan c = arc_states

pub returns-clause-other_plan : goal.returns-clause-other_plan
returns-clause-other_plan c = reversed_states

pub returns-clause-paired : goal.returns-clause-paired
returns-clause-paired c = arc_paired

pub returns-clause-same : goal.returns-clause-same
returns-clause-same c = states_same

pub returns-clause-exchanged_plan : goal.returns-clause-exchanged_plan
returns-clause-exchanged_plan c = exchanged_states

pub returns-clause-plans_differ : goal.returns-clause-plans_differ
returns-clause-plans_differ c = not_exchanged

pub returns-clause-different : goal.returns-clause-different
returns-clause-different c = not_same

pub returns-clause-same_verdict : goal.returns-clause-same_verdict
returns-clause-same_verdict c = same_verdict

pub returns-clause-different_verdict : goal.returns-clause-different_verdict
returns-clause-different_verdict c = different_verdict
