use Rattle.edi_census.proofs.JudgedMarks.{object_judged}
use Rattle.edi_census.proofs.findings.JudgedObjectsJudging.breaks.Goals as goal

pub returns-in-501 : goal.returns-in-501
returns-in-501 c =
    object_judged c.self.inside.sound.now c.args.self.now c.args.rule c.args.place c.self.inside.repeated.items c.index.result.now
    c.self.view_is c.in-501.is c.self.invariant c.requires c.index.ensures
