use Rattle.std.proofs.Common.{◌≡◌, ◌∙◌, ◌<◌, ◌+◌, ℕ, Bool, true, false, not, nat_eq, Some, length, length-append, slice_get, refl, sym, ap, subst, arith}
use Rattle.edi_record.specs.Shapes.{stated_at}
use Rattle.edi_record.proofs.StatedAt.{stated_there}
use Rattle.edi_plan.specs.inner.Findings.{EachAt}
use Rattle.edi_plan.specs.inner.Names.{place_in, RepeatsNameAt}
use Rattle.edi_plan.proofs.FindingLemmas.{each_pushed, repeats_record, record_repeats}
use Rattle.edi_plan.proofs.NameLemmas.{first_own, first_put, repeats_here}
use Rattle.edi_plan.proofs.repeated_names.repeated_names.Goals as goal

pub loop-place-preserved : goal.loop-place-preserved
loop-place-preserved c =
    let records = c.args.records.now in
    let n = c.loop-place.place in
    let r = stated_at records n in
    let table = c.loop-place.places.entries in
    let name = c.name_at.result in
    let new = c.place_or.new.places.entries in
    let here : slice_get records n ≡ Some r = stated_there records n (subst (λ m. n < m) c.len-place-end.ensures.len c.loop-place-test.true) in
    let own = first_own records n r here false refl name c.name_at.ensures table new c.in_ok-first.ensures.put c.loop-place.invariant.first in
    let P : ℕ → Bool → Type 0 = λ k b. (b ≡ true → RepeatsNameAt records k) × (RepeatsNameAt records k → b ≡ true) in
    record {
      first = first_put records n r here false refl name c.name_at.ensures table new c.in_ok-first.ensures.put c.loop-place.invariant.first;
      long = ap length c.in_ok-push.ensures.items ∙ (length-append c.loop-place.found.items _ ∙ ap (λ k. k + 1) c.loop-place.invariant.long);
      each =
          subst (EachAt P) (sym c.in_ok-push.ensures.items)
          (each_pushed P c.loop-place.found.items _ c.loop-place.invariant.each
          (subst (λ k. P k (not (nat_eq c.in_ok-first.first n))) (sym c.loop-place.invariant.long) (repeats_here records n r here (place_in table name) own c.in_ok-first.first c.in_ok-first.ensures.first)));
    }

pub returns : goal.returns
returns c =
    let records = c.args.records.now in
    λ s. record {
      long = omega (arith, c.loop-place.invariant.long, c.len-place-end.ensures.len, c.loop-place-test.false, c.loop-place.auto.place-end);
      each = λ k b at. (λ h. repeats_record s records k ((c.loop-place.invariant.each k b at).0 h), λ d. (c.loop-place.invariant.each k b at).1 (record_repeats s records k d));
    }
