use Rattle.std.proofs.Common.{◌↔◌, ◌≡◌, ◌+◌, true, subst}
use Rattle.edi_plan.specs.Plans.{PlanData}
use Rattle.edi_topo.specs.TopologyRules.{BreaksTopologyRule}
use Rattle.edi_topo.proofs.findings.TopologyFindings.breaks.Goals as goal

pub returns-in-Pno : goal.returns-in-Pno
returns-in-Pno c = subst (λ (p : PlanData). (c.node_breaks.result ≡ true) ↔ BreaksTopologyRule p c.args.rule (c.args.place + 1)) c.self.view_is c.node_breaks.ensures

pub returns-in-Par : goal.returns-in-Par
returns-in-Par c = subst (λ (p : PlanData). (c.arc_breaks.result ≡ true) ↔ BreaksTopologyRule p c.args.rule (c.args.place + 1)) c.self.view_is c.arc_breaks.ensures

pub returns-in-Pfe : goal.returns-in-Pfe
returns-in-Pfe c = subst (λ (p : PlanData). (c.face_breaks.result ≡ true) ↔ BreaksTopologyRule p c.args.rule (c.args.place + 1)) c.self.view_is c.face_breaks.ensures
