use Rattle.std.proofs.Common.{◌≡◌, ◌+◌, ◌∙◌, ℕ, false, true, length, get_or, slice_index, set, sym, ap, subst, arith}
use Rattle.std.proofs.lemmas.Option.{MatchOption-at_some}
use borrow.Author.Count.{below_more}
use Rattle.edi_compare.specs.inner.Checking.{AreMarked, IsCarriedAt, PairedPlans}
use Rattle.edi_compare.proofs.Marking.{one_more_marked}
use Rattle.edi_compare.proofs.Stops.{all_met, one_unmet, where_none}
use Rattle.edi_compare.proofs.carrier.Carrier.first_stop.Goals as goal

pub returns-in-Some : goal.returns-in-Some
returns-in-Some c = record {
  there = omega (arith, c.loop-place-test.true, c.len-place-end.ensures, ap (λ (m : PairedPlans). length m.plan.list) c.self.view_is);
  before = c.loop-place.invariant.0;
  wrong = MatchOption-at_some _ _ c.in-Some.why c.in-Some.is c.in_ok-why.ensures;
}

pub loop-place-preserved : goal.loop-place-preserved
loop-place-preserved c =
    let m = c.args.self.now in
    let place = c.loop-place.place in
    let carried : IsCarriedAt m place = where_none _ _ _ c.in_default.not-Some c.in_ok-why.ensures in (
      below_more _ place c.loop-place.invariant.0 carried,
      subst (λ t. AreMarked (slice_index m.to) (set c.loop-place.marks.items t true) (length m.other.list) (place + 1)) (sym (ap (λ (m : PairedPlans). slice_index m.to place) c.self.view_is))
          (one_more_marked (slice_index m.to) c.loop-place.marks.items (length m.other.list) place c.loop-place.invariant.1 carried.within),
    )

pub returns-in-Some-first_unmarked : goal.returns-in-Some-first_unmarked
returns-in-Some-first_unmarked c =
    let m = c.args.self.now in
    let marks = c.loop-place.marks.items in
    let found = c.in-Some-first_unmarked.ensures in
    let same : (j : ℕ) → get_or marks j false ≡ get_or c.deref-2.result.now j false = λ j. sym (ap (λ bs. get_or bs j false) c.deref-2.ensures.value) in
    let all : c.loop-place.place ≡ length m.plan.list = omega (arith, c.loop-place-test.false, c.loop-place.auto.place-end, c.len-place-end.ensures, ap (λ (m : PairedPlans). length m.plan.list) c.self.view_is) in
    one_unmet m marks (subst (AreMarked (slice_index m.to) marks (length m.other.list)) all c.loop-place.invariant.1) (λ i h. c.loop-place.invariant.0 i (omega (arith, h, all)))
    c.in-Some-first_unmarked.place found.0 (same c.in-Some-first_unmarked.place ∙ found.1) (λ l h. same l ∙ found.2 l h)

pub returns : goal.returns
returns c =
    let m = c.args.self.now in
    let marks = c.loop-place.marks.items in
    let all : c.loop-place.place ≡ length m.plan.list = omega (arith, c.loop-place-test.false, c.loop-place.auto.place-end, c.len-place-end.ensures, ap (λ (m : PairedPlans). length m.plan.list) c.self.view_is) in
    all_met m marks (subst (AreMarked (slice_index m.to) marks (length m.other.list)) all c.loop-place.invariant.1) (λ i h. c.loop-place.invariant.0 i (omega (arith, h, all)))
    (λ j h. sym (ap (λ bs. get_or bs j false) c.deref-2.ensures.value) ∙ c.in-None.ensures j h)
