use Rattle.std.proofs.Common.{◌∙◌, ℕ, subst}
use Rattle.std.proofs.lemmas.Result.{IfOk-weaker}
use Rattle.edi_record.specs.declared.record.Kind.TheVariants.{Pfe}
use Rattle.edi_plan.specs.Joined.{IsJoined}
use Rattle.edi_plan.specs.Whole.{IsWholePlan}
use Rattle.edi_matching.specs.Matchings.{IsMatched}
use Rattle.edi_matching.specs.declared.matching.Matching.{Matching}
use Rattle.edi_matching.specs.inner.Links.{AddsOnly}
use Rattle.edi_matching.proofs.FacesAdded.{both_sides}
use Rattle.edi_matching.proofs.faces.with_all_faces.Goals as goal

pub returns-clause-faces : goal.returns-clause-faces
returns-clause-faces c =
    let first = c.plan-plan.ensures.plan ∙ c.sound.ensures in
    both_sides c.args.schema.now c.args.first.now c.args.second.now (subst IsWholePlan first c.keeps.ensures.whole) (subst IsJoined first c.keeps.ensures.joined)
    c.in_ok-more.more c.in_ok-more.ensures.faces c.with_faces-2.result c.with_faces-2.ensures.adds c.with_faces-2.ensures.faces

pub returns-clause-keeps : goal.returns-clause-keeps
returns-clause-keeps c =
    let more = c.in_ok-more.more in
    IfOk-weaker c.with_faces-2.result (AddsOnly Pfe c.args.first.now more) (λ (m : Matching). (i : ℕ) → IsMatched c.args.matching.to i → IsMatched m.to i)
    (λ m adds i w. (w.0, adds.keeps i w.0 (c.in_ok-more.ensures.adds.keeps i w.0 w.1))) c.with_faces-2.ensures.adds
