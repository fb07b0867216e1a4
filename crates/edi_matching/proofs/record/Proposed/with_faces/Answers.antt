use Rattle.std.proofs.Common.{◌∙◌, ◌+◌, ◌<◌, ◌≤◌, ℕ, List, Bool, Option, Some, Vec, Global, length, set, ap, get_or, sym, subst}
use Rattle.edi_record.specs.declared.record.Kind.TheVariants.{Par}
use Rattle.edi_plan.specs.Places.{places_of}
use Rattle.edi_plan.specs.Plans.{IsPlace}
use Rattle.edi_plan.proofs.PlaceLemmas.{place_there}
use Rattle.edi_matching.specs.inner.Faces.{IsForcedIfAny}
use Rattle.edi_matching.specs.inner.Links.{AreReached}
use Rattle.edi_matching.specs.inner.Proposals.{ProposedMatching}
use Rattle.edi_matching.proofs.FacesAdded.{AreFacesAdded, all_faces, no_face, no_faces, one_face}
use Rattle.edi_matching.proofs.record.Proposed.with_faces.Goals.{in-None, in-Some}
use Rattle.edi_matching.proofs.record.Proposed.with_faces.Goals as goal

pub loop-arc-init : goal.loop-arc-init
loop-arc-init c =
    let m = c.args.self.now in
    let reached = c.in_ok-reached.reached.items in
    let to_is = c.in_ok-to.ensures.items ∙ ap (λ (t : ProposedMatching). t.to) c.self.view_is in
    let count_is = c.len.ensures ∙ ap (λ (t : ProposedMatching). length t.other.list) c.self.view_is in
    let are = subst (λ (n : ℕ). AreReached m.to n reached) count_is
    (subst (λ (to : List (Option ℕ)). AreReached to c.len.result reached) (ap (λ (t : ProposedMatching). t.to) c.self.view_is) c.in_ok-reached.ensures) in
    subst (λ (to : List (Option ℕ)). AreFacesAdded c.args.role m reached to reached 0) (sym to_is) (no_faces c.args.role m reached c.requires.holds are)

pub face_for-requires-clause-arc : goal.face_for-requires-clause-arc
face_for-requires-clause-arc c =
    let p = c.args.self.now.plan in
    let n = c.loop-arc.arc-index in
    let places = c.places-arc-items.ensures ∙ ap (λ (t : ProposedMatching). places_of Par t.plan) c.self.view_is in
    subst (λ (xs : List ℕ). IsPlace p (get_or xs n 0)) (sym places) (place_there Par p n (subst (λ (xs : List ℕ). n < length xs) places c.loop-arc-test.true))

pub loop-arc-preserved : goal.loop-arc-preserved
loop-arc-preserved c =
    let m = c.args.self.now in
    let p = c.args.self.now.plan in
    let n = c.loop-arc.arc-index in
    let arc : ℕ = get_or c.places-arc-items.result.now n 0 in
    let before = c.in_ok-reached.reached.items in
    let to = c.loop-arc.to.items in
    let reached = c.loop-arc.reached.items in
    let places = c.places-arc-items.ensures ∙ ap (λ (t : ProposedMatching). places_of Par t.plan) c.self.view_is in
    let at = sym (ap (λ (xs : List ℕ). get_or xs n 0) places) in
    let found = subst (λ (xs : List (Option ℕ)). IsForcedIfAny m reached xs c.args.role arc c.in_ok-face.field-0) c.deref-in-loop-arc.ensures.value
    (subst (λ (bs : List Bool). IsForcedIfAny m bs c.deref-in-loop-arc.result.now c.args.role arc c.in_ok-face.field-0) c.deref.ensures.value c.in_ok-face.ensures) in
    elim c.match-branch-4.branch [
      | in-Some w ↦
          let forced = subst (λ (o : Option (ℕ × ℕ)). IsForcedIfAny m reached to c.args.role arc o) w.in-Some.is found in
          subst (λ (t : Vec (Option ℕ) Global). AreFacesAdded c.args.role m before t.items c.match-branch-4.reached.items (n + 1)) (sym w.to-is)
          (subst (λ (r : Vec Bool Global). AreFacesAdded c.args.role m before (set to w.in-Some.face (Some w.in-Some.target)) r.items (n + 1)) (sym w.reached-is)
          (one_face c.args.role m before to reached n c.loop-arc.invariant arc at c.requires.targets c.requires.holds.all_entered c.requires.joined c.requires.other_joined c.requires.side
          w.in-Some.face w.in-Some.target forced.0 forced.1 forced.2))
      | in-None w ↦
          let none = subst (λ (o : Option (ℕ × ℕ)). IsForcedIfAny m reached to c.args.role arc o) w.in-None.is found in
          subst (λ (t : Vec (Option ℕ) Global). AreFacesAdded c.args.role m before t.items c.match-branch-4.reached.items (n + 1)) (sym w.to-is)
          (subst (λ (r : Vec Bool Global). AreFacesAdded c.args.role m before to r.items (n + 1)) (sym w.reached-is)
          (no_face c.args.role m before to reached n c.loop-arc.invariant arc at none))
    ]

pub returns-clause-faces : goal.returns-clause-faces
returns-clause-faces c =
    let m = c.args.self.now in
    let places = c.places-arc-items.ensures ∙ ap (λ (t : ProposedMatching). places_of Par t.plan) c.self.view_is in
    all_faces c.args.role m c.in_ok-reached.reached.items c.loop-arc.to.items c.loop-arc.reached.items c.loop-arc.arc-index c.loop-arc.invariant
    (subst (λ (xs : List ℕ). length xs ≤ c.loop-arc.arc-index) places c.loop-arc-test.false) c.requires.whole c.requires.joined c.requires.side c.requires.targets
