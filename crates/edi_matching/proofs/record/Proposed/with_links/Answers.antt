use Rattle.std.proofs.Common.{◌∙◌, ◌+◌, ◌<◌, ◌≤◌, ◌≡◌, ℕ, List, Bool, Option, Some, Vec, Global, length, set, IsSorted, ap, arith, get_or, sym, subst}
use Rattle.std.specs.Ordering.{nat_cmp, ordering_then}
use Rattle.edi_record.specs.declared.record.Kind.TheVariants.{Lnk}
use Rattle.edi_plan.specs.Places.{places_of}
use Rattle.edi_plan.specs.Plans.{IsPlace, record_at}
use Rattle.edi_plan.proofs.PlaceLemmas.{place_of_kind, place_there}
use Rattle.edi_rank.specs.Keys.{link_key_cmp}
use Rattle.edi_rank.specs.declared.keys.LinkKey.{LinkKey}
use Rattle.edi_matching.specs.inner.Links.{AreReached, IsLeftIfAny}
use Rattle.edi_matching.specs.inner.Proposals.{ProposedMatching}
use Rattle.edi_matching.proofs.LinksAdded.{AreLinksAdded, all_links, no_links, no_more, one_link}
use Rattle.edi_matching.proofs.record.Proposed.with_links.Goals.{in-None, in-Some}
use Rattle.edi_matching.proofs.record.Proposed.with_links.Goals as goal

pub loop-place-init : goal.loop-place-init
loop-place-init c =
    let m = c.args.self.now in
    let reached = c.in_ok-reached.reached.items in
    let to_is = c.in_ok-to.ensures.items ∙ ap (λ (t : ProposedMatching). t.to) c.self.view_is in
    let count_is = c.len.ensures ∙ ap (λ (t : ProposedMatching). length t.other.list) c.self.view_is in
    let are = subst (λ (n : ℕ). AreReached m.to n reached) count_is
    (subst (λ (to : List (Option ℕ)). AreReached to c.len.result reached) (ap (λ (t : ProposedMatching). t.to) c.self.view_is) c.in_ok-reached.ensures) in
    subst (λ (to : List (Option ℕ)). AreLinksAdded m reached to reached 0) (sym to_is) (no_links m reached c.requires.holds are)

pub link_for-requires-clause-place : goal.link_for-requires-clause-place
link_for-requires-clause-place c =
    let p = c.args.self.now.plan in
    let n = c.loop-place.place-index in
    let places = c.places-place-items.ensures ∙ ap (λ (t : ProposedMatching). places_of Lnk t.plan) c.self.view_is in
    subst (λ (xs : List ℕ). IsPlace p (get_or xs n 0)) (sym places) (place_there Lnk p n (subst (λ (xs : List ℕ). n < length xs) places c.loop-place-test.true))

pub link_for-requires-clause-link : goal.link_for-requires-clause-link
link_for-requires-clause-link c =
    let p = c.args.self.now.plan in
    let n = c.loop-place.place-index in
    let places = c.places-place-items.ensures ∙ ap (λ (t : ProposedMatching). places_of Lnk t.plan) c.self.view_is in
    subst (λ (xs : List ℕ). (record_at p (get_or xs n 0)).kind ≡ Lnk) (sym places) (place_of_kind Lnk p n (subst (λ (xs : List ℕ). n < length xs) places c.loop-place-test.true))

pub link_for-requires-clause-sorted : goal.link_for-requires-clause-sorted
link_for-requires-clause-sorted c =
    subst (λ (xs : List (LinkKey × ℕ)). IsSorted (λ x y. ordering_then (link_key_cmp x.0 y.0) (nat_cmp x.1 y.1)) xs) (sym c.deref-in-loop-place.ensures.value) c.in_ok-links.ensures.sorted

pub index_mut-requires : goal.index_mut-requires
index_mut-requires c =
    let p = c.args.self.now.plan in
    let n = c.loop-place.place-index in
    let places = c.places-place-items.ensures ∙ ap (λ (t : ProposedMatching). places_of Lnk t.plan) c.self.view_is in
    let there = subst (λ (xs : List ℕ). IsPlace p (get_or xs n 0)) (sym places) (place_there Lnk p n (subst (λ (xs : List ℕ). n < length xs) places c.loop-place-test.true)) in
    omega (arith, there, c.loop-place.invariant.added.adds.long, c.requires.holds.all_entered)

pub loop-place-preserved : goal.loop-place-preserved
loop-place-preserved c =
    let m = c.args.self.now in
    let p = c.args.self.now.plan in
    let n = c.loop-place.place-index in
    let place : ℕ = get_or c.places-place-items.result.now n 0 in
    let before = c.in_ok-reached.reached.items in
    let to = c.loop-place.to.items in
    let reached = c.loop-place.reached.items in
    let places = c.places-place-items.ensures ∙ ap (λ (t : ProposedMatching). places_of Lnk t.plan) c.self.view_is in
    let at = sym (ap (λ (xs : List ℕ). get_or xs n 0) places) in
    let within = subst (λ (xs : List ℕ). n < length xs) places c.loop-place-test.true in
    let here = subst (λ (xs : List ℕ). IsPlace p (get_or xs n 0)) (sym places) (place_there Lnk p n within) in
    let link = subst (λ (xs : List ℕ). (record_at p (get_or xs n 0)).kind ≡ Lnk) (sym places) (place_of_kind Lnk p n within) in
    let found = subst (λ (xs : List (Option ℕ)). IsLeftIfAny m reached xs place c.in_ok-target.field-0) c.deref-in-loop-place-3.ensures.value
    (subst (λ (bs : List Bool). IsLeftIfAny m bs c.deref-in-loop-place-3.result.now place c.in_ok-target.field-0) c.deref-in-loop-place-2.ensures.value c.in_ok-target.ensures) in
    elim c.match-branch-5.branch [
      | in-Some w ↦
          let missed = subst (λ (o : Option ℕ). IsLeftIfAny m reached to place o) w.in-Some.is found in
          subst (λ (t : Vec (Option ℕ) Global). AreLinksAdded m before t.items c.match-branch-5.reached.items (n + 1)) (sym w.to-is)
          (subst (λ (r : Vec Bool Global). AreLinksAdded m before (set to place (Some w.in-Some.target)) r.items (n + 1)) (sym w.reached-is)
          (one_link m before to reached n c.loop-place.invariant place at c.requires.targets c.requires.holds.all_entered here link missed.0 w.in-Some.target missed.1))
      | in-None w ↦
          let none = subst (λ (o : Option ℕ). IsLeftIfAny m reached to place o) w.in-None.is found in
          subst (λ (t : Vec (Option ℕ) Global). AreLinksAdded m before t.items c.match-branch-5.reached.items (n + 1)) (sym w.to-is)
          (subst (λ (r : Vec Bool Global). AreLinksAdded m before to r.items (n + 1)) (sym w.reached-is)
          (no_more m before to reached n c.loop-place.invariant place at none))
    ]

pub returns-clause-links : goal.returns-clause-links
returns-clause-links c =
    let m = c.args.self.now in
    let places = c.places-place-items.ensures ∙ ap (λ (t : ProposedMatching). places_of Lnk t.plan) c.self.view_is in
    all_links m c.in_ok-reached.reached.items c.loop-place.to.items c.loop-place.reached.items c.loop-place.place-index c.loop-place.invariant
    (subst (λ (xs : List ℕ). length xs ≤ c.loop-place.place-index) places c.loop-place-test.false) c.requires.whole c.requires.targets
