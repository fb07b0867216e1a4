use Rattle.std.proofs.Common.{◌∙◌}
use Rattle.edi_plan.proofs.HintLemmas.{found_named}
use Rattle.edi_plan.proofs.name_slots.NameHints.place.Goals as goal

pub returns : goal.returns
returns c = c.find.ensures ∙ found_named c.args.records.now c.args.self.now c.requires.links c.requires.all c.args.name.now.kind c.args.name.now.rid.now c.requires.no_link
