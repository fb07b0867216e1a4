use Rattle.std.proofs.Common.{◌∙◌, ap, sym}
use Rattle.edi_plan.specs.Plans.{PlanData}
use Rattle.edi_picture.specs.Faces.{arcs_round}
use Rattle.edi_picture.proofs.Joined.{round_there}
use Rattle.edi_picture.proofs.faces.push_face.Goals as goal

pub ends_of_arcs-requires : goal.ends_of_arcs-requires
ends_of_arcs-requires c = round_there c.plan.result.now c.args.face c.args.arcs.now (c.requires.arcs ∙ ap (λ (p : PlanData). arcs_round p c.args.face) (sym c.plan.ensures))

pub push_by_ends-requires-clause-arcs : goal.push_by_ends-requires-clause-arcs
push_by_ends-requires-clause-arcs c = round_there c.args.sheet.now.plan c.args.face c.args.arcs.now c.requires.arcs
