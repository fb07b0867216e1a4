use Rattle.edi_profiles.proofs.Forms.{form_three, form_today, form_two}
use Rattle.edi_profiles.proofs.known.known_forms_by_profile.Goals as goal

pub returns-clause-of_two : goal.returns-clause-of_two
returns-clause-of_two c = form_two

pub returns-clause-of_three : goal.returns-clause-of_three
returns-clause-of_three c = form_three

pub returns-clause-of_today : goal.returns-clause-of_today
returns-clause-of_today c = form_today
