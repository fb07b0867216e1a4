use Rattle.edi_matching.proofs.Found.{not_there}
use Rattle.edi_matching.proofs.partners.Partners.partner_at.Goals as goal

pub returns-in-None : goal.returns-in-None
returns-in-None c = not_there c.args.self.now c.self.inside.plan.now c.self.inside.other.now c.self.view_is c.args.place c.args.target c.requires.only c.in_ok-turned.field-0 c.in-None.is c.in_ok-turned.ensures
