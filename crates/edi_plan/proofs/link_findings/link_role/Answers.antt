use Rattle.std.proofs.Common.{◌≡◌, ◌∙◌, true, ap, sym}
use Rattle.edi_record.specs.Records.{is_link}
use Rattle.edi_record.specs.declared.name.Name.{Name}
use Rattle.edi_schema.specs.Classes.{place_of}
use Rattle.edi_plan.proofs.FindingLemmas.{role_of_none, unknown_role}
use Rattle.edi_plan.proofs.Resolved.{role_there}
use Rattle.edi_plan.proofs.StepLemmas.{role_of_true}
use Rattle.edi_plan.proofs.link_findings.link_role.Goals as goal

pub returns-in-Some : goal.returns-in-Some
returns-in-Some c =
    let s = c.args.schema.now in
    let r = c.args.«record».now in
    let place = ap (λ (name : Name). place_of s name) (sym c.scp.ensures) ∙ (sym c.class.ensures.class ∙ c.in-Some.is) in
    let link : is_link r.kind ≡ true = ap is_link (sym c.kind.ensures) ∙ (sym c.is_link.ensures ∙ c.if-not-is_link.false) in
    c.role.ensures ∙ sym (role_of_true s r _ link (role_there s r.scp c.in-Some.class place))

pub returns-in-None : goal.returns-in-None
returns-in-None c =
    let s = c.args.schema.now in
    let r = c.args.«record».now in
    let place = ap (λ (name : Name). place_of s name) (sym c.scp.ensures) ∙ (sym c.class.ensures.class ∙ c.in-None.is) in
    sym (role_of_none s r (unknown_role s r.scp place))
