use Rattle.std.proofs.Common.{◌≡◌, ◌∙◌, subst, sym}
use Rattle.std.proofs.lemmas.List.{length-map}
use Rattle.edi_matching.specs.inner.Proposals.{IsWithinPlans, proposal_of}
use Rattle.edi_matching.proofs.record.Proposed.of.Goals as goal

pub invariant_of-result : goal.invariant_of-result
invariant_of-result c =
    let m = c.args.matching.now in
    let same : proposal_of c.args.schema.now c.args.first.now c.args.second.now m
    ≡ record {
      classes = c.args.schema.now;
      plan = c.plan.result.now;
      other = c.plan-2.result.now;
      to = c.as_slice.result.now;
      targets = c.args.targets.now;
      turned = c.as_slice-2.result.now;
    } =
    λ i. record {
      classes = c.args.schema.now;
      plan = sym (c.plan.ensures.plan ∙ c.sound.ensures) i;
      other = sym (c.plan-2.ensures.plan ∙ c.sound-2.ensures) i;
      to = sym c.as_slice.ensures i;
      targets = sym c.requires.targets i;
      turned = sym c.as_slice-2.ensures i;
    } in
    subst IsWithinPlans same
    (record {
      classed = c.requires.classes;
      all_entered = c.requires.entered;
      all_directed = c.requires.directed;
      all_targeted = length-map m.to _ ∙ c.requires.entered;
      within = c.requires.within;
    })

pub returns : goal.returns
returns c = λ i. record {
  classes = c.args.schema.now;
  plan = (c.plan.ensures.plan ∙ c.sound.ensures) i;
  other = (c.plan-2.ensures.plan ∙ c.sound-2.ensures) i;
  to = c.as_slice.ensures i;
  targets = c.requires.targets i;
  turned = c.as_slice-2.ensures i;
}
