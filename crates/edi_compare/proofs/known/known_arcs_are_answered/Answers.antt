use Rattle.edi_compare.proofs.KnownSheetsAccepted.{arc_accepted, reversed_accepted, exchanged_accepted}
use Rattle.edi_compare.proofs.KnownSheetsForms.{arc_form, reversed_form, exchanged_form}
use Rattle.edi_compare.proofs.known.known_arcs_are_answered.Goals as goal

pub returns-clause-accepted : goal.returns-clause-accepted
returns-clause-accepted c = arc_accepted

pub returns-clause-other_accepted : goal.returns-clause-other_accepted
returns-clause-other_accepted c = reversed_accepted

pub returns-clause-exchanged_accepted : goal.returns-clause-exchanged_accepted
returns-clause-exchanged_accepted c = exchanged_accepted

pub returns-clause-canonical : goal.returns-clause-canonical
returns-clause-canonical c = arc_form.canonical

pub returns-clause-form : goal.returns-clause-form
returns-clause-form c = arc_form

pub returns-clause-other_form : goal.returns-clause-other_form
returns-clause-other_form c = reversed_form

pub returns-clause-exchanged_form : goal.returns-clause-exchanged_form
returns-clause-exchanged_form c = exchanged_form
