use Rattle.std.proofs.Common.{◌∙◌, subst}
use Rattle.edi_record.specs.declared.record.Kind.TheVariants.{Lnk}
use Rattle.edi_plan.specs.Joined.{IsJoined}
use Rattle.edi_plan.specs.Plans.{PlanData}
use Rattle.edi_plan.specs.Whole.{IsWholePlan}
use Rattle.edi_matching.specs.Differences.{MatchesPartners}
use Rattle.edi_matching.specs.Matchings.{MatchingHolds}
use Rattle.edi_matching.proofs.FacesAdded.{faces_kept, matched_kept}
use Rattle.edi_matching.proofs.PartnersHold.{partners_kept}
use Rattle.edi_matching.proofs.SamePlans.{accepted_classed}
use Rattle.edi_matching.proofs.differing.different_matching.Goals as goal

pub grow-requires : goal.grow-requires
grow-requires c =
    let s = c.args.schema.now in
    let m = c.in_ok-matching.matching in
    record {
      first = accepted_classed s c.args.first.now c.keeps.ensures c.requires.first;
      second = accepted_classed s c.args.second.now c.keeps.ensures c.requires.second;
      accepted = c.requires.first;
      other_accepted = c.requires.second;
      holds = subst (λ (x : PlanData). MatchingHolds s x c.args.second.now m) c.sound.ensures
          (subst (λ (y : PlanData). MatchingHolds s c.sound.result.now y m) c.sound-2.ensures (c.in_ok-matching.ensures.holds s));
    }

pub with_all_links-requires-clause-classes : goal.with_all_links-requires-clause-classes
with_all_links-requires-clause-classes c = accepted_classed c.args.schema.now c.args.first.now c.keeps.ensures c.requires.first

pub returns-clause-partners : goal.returns-clause-partners
returns-clause-partners c =
    let m = c.in_ok-matching.matching in
    let matched =
    subst (λ (x : PlanData). MatchesPartners x c.args.second.now m) c.sound.ensures
    (subst (λ (y : PlanData). MatchesPartners c.sound.result.now y m) c.sound-2.ensures c.in_ok-matching.ensures.partners) in
    let more : MatchesPartners c.args.first.now c.args.second.now c.in_ok-faces.faces = λ i j t both. c.in_ok-faces.ensures.keeps i (c.in_ok-more.ensures.keeps i (matched i j t both)) in
    partners_kept c.args.first.now c.args.second.now c.in_ok-faces.faces more c.with_all_links.result
    (matched_kept Lnk c.args.first.now c.in_ok-faces.faces c.with_all_links.result c.with_all_links.ensures.adds)

pub returns-clause-faces : goal.returns-clause-faces
returns-clause-faces c =
    let first = c.plan.ensures.plan ∙ c.sound-3.ensures in
    faces_kept c.args.schema.now c.args.first.now c.args.second.now (subst IsWholePlan first c.keeps-2.ensures.whole) (subst IsJoined first c.keeps-2.ensures.joined)
    c.in_ok-faces.faces c.in_ok-faces.ensures.faces c.with_all_links.result c.with_all_links.ensures.adds

pub with_all_faces-requires-clause-classes : goal.with_all_faces-requires-clause-classes
with_all_faces-requires-clause-classes c = accepted_classed c.args.schema.now c.args.first.now c.keeps.ensures c.requires.first
