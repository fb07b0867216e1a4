use Rattle.std.proofs.Common.{◌≡◌, ◌∙◌, ℕ, Some, sym, subst}
use Rattle.edi_schema.specs.declared.role.Role.{Role}
use Rattle.edi_plan.specs.Sides.{Side}
use Rattle.edi_matching.specs.Matchings.{GoesTo}
use Rattle.edi_matching.specs.Differences.{role_there}
use Rattle.edi_matching.specs.inner.Faces.{HasBeside}
use Rattle.edi_matching.specs.inner.Links.{matching_so}
use Rattle.edi_matching.specs.inner.Proposals.{ProposedMatching}
use Rattle.edi_matching.proofs.FacesAdded.{one_beside}
use Rattle.edi_matching.proofs.record.Proposed.faces_beside.Goals as goal

pub returns-in_default-side : goal.returns-in_default-side
returns-in_default-side c = λ f g b. c.in_default-side.ensures f (subst (λ (t : ProposedMatching). Side t.plan c.args.arc c.args.role f) (sym c.self.view_is) b.here)

pub returns-in_default-side-2 : goal.returns-in_default-side-2
returns-in_default-side-2 c = λ f g b.
    let m = c.args.self.now in
    let goes : GoesTo m.to c.args.arc c.in-Some.other = subst (λ (t : ProposedMatching). GoesTo t.to c.args.arc c.in-Some.other) c.self.view_is c.in-Some.is in
    let e : Some b.other ≡ Some c.in-Some.other = sym b.goes ∙ goes in
    let same : b.other ≡ c.in-Some.other = cc in
    let turned : Role = role_there (matching_so m m.to) c.args.arc c.args.role in
    c.in_default-side-2.ensures g
    (subst (λ (t : ProposedMatching). Side t.other c.in-Some.other c.role_there.result g) (sym c.self.view_is)
    (subst (λ (r : Role). Side m.other c.in-Some.other r g) (sym c.role_there.ensures)
    (subst (λ (x : ℕ). Side m.other x turned g) same b.there)))

pub returns : goal.returns
returns c =
    let m = c.args.self.now in
    let found : HasBeside m c.args.role c.args.arc c.in-Some-side.face c.in-Some-side-2.target = record {
      other = c.in-Some.other;
      goes = subst (λ (t : ProposedMatching). GoesTo t.to c.args.arc c.in-Some.other) c.self.view_is c.in-Some.is;
      here = subst (λ (t : ProposedMatching). Side t.plan c.args.arc c.args.role c.in-Some-side.face) c.self.view_is c.in-Some-side.ensures;
      there = subst (λ (r : Role). Side m.other c.in-Some.other r c.in-Some-side-2.target) c.role_there.ensures
          (subst (λ (t : ProposedMatching). Side t.other c.in-Some.other c.role_there.result c.in-Some-side-2.target) c.self.view_is c.in-Some-side-2.ensures);
    } in
    (found, λ f g b. one_beside m c.requires.joined c.requires.other_joined c.args.role c.args.arc c.in-Some-side.face c.in-Some-side-2.target f g found b)
