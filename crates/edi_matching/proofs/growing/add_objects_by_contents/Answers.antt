use Rattle.std.proofs.Common.{◌∙◌, ◌≡◌, ℕ, Bool, List, Option, is_some, map, subst, sym, IsPermutation, IsSorted}
use Rattle.std.specs.List.{filter_map}
use Rattle.std.specs.Ordering.{ordering_then}
use Rattle.std.proofs.lemmas.Result.{on_ok_weaker}
use Rattle.edi_record.specs.declared.record.Kind.TheVariants.{Fea}
use Rattle.edi_plan.specs.Places.{places_of}
use Rattle.edi_matching.specs.contracts.entries.ContentKeyOrd.TheImpl.{ghosts as keys}
use Rattle.edi_matching.specs.contracts.entries.ContentKeyPartialEq.TheImpl.{ghosts as keys_eq}
use Rattle.edi_matching.specs.contracts.ranked.MemberOrd.TheImpl.{ghosts as members}
use Rattle.edi_matching.specs.declared.entries.ContentKey.{ContentKey}
use Rattle.edi_matching.specs.declared.ranked.Member.{Member}
use Rattle.edi_matching.specs.inner.Additions.{AddsPairs}
use Rattle.edi_matching.specs.inner.Entries.{content_entry}
use Rattle.edi_matching.proofs.KeysAdded.{Alone, Shared}
use Rattle.edi_matching.proofs.LoneKeys.{paired_by_key}
use Rattle.edi_matching.proofs.PairsAdded.{adds_wider}
use Rattle.edi_matching.proofs.growing.add_objects_by_contents.Goals as goal

pub returns : goal.returns
returns c =
    let p = c.args.first.plan.now in
    let q = c.args.second.plan.now in
    let l = c.args.first.labels.now in
    let k = c.args.second.labels.now in
    let to = c.args.to.now in
    let taken = c.args.taken.now in
    let more = c.add_lone_objects.new.to in
    let marks = c.add_lone_objects.new.taken in
    let here = c.deref-2.result.now in
    let there = c.deref-3.result.now in
    let made : List Bool → List (ContentKey × Member) = λ (done : List Bool). filter_map (content_entry p l done) (places_of Fea p) in
    let others : List (ContentKey × Member) = filter_map (content_entry q k c.args.taken.now) (places_of Fea q) in
    let done_is : c.deref.result.now ≡ map (λ (target : Option ℕ). is_some target) to = c.deref.ensures.value ∙ c.in_ok-done.ensures in
    let listed : IsPermutation (made (map (λ (target : Option ℕ). is_some target) to)) here = subst (λ (xs : List (ContentKey × Member)). IsPermutation (made (map (λ (target : Option ℕ). is_some target) to)) xs) (sym c.deref-2.ensures.value)
    (subst (λ (done : List Bool). IsPermutation (made done) c.in_ok-objects.objects.items) done_is c.in_ok-objects.ensures.objects) in
    let listed_there : IsPermutation others there = subst (λ (xs : List (ContentKey × Member)). IsPermutation others xs) (sym c.deref-3.ensures.value) c.in_ok-others.ensures.objects in
    let order = subst (λ (xs : List (ContentKey × Member)). IsSorted (λ x y. ordering_then (keys.cmp x.0 y.0) (members.cmp x.1 y.1)) xs) (sym c.deref-2.ensures.value) c.in_ok-objects.ensures.sorted in
    let other_order = subst (λ (xs : List (ContentKey × Member)). IsSorted (λ x y. ordering_then (keys.cmp x.0 y.0) (members.cmp x.1 y.1)) xs) (sym c.deref-3.ensures.value) c.in_ok-others.ensures.sorted in
    paired_by_key c.add_lone_objects.result keys.cmp keys_eq.eq members.cmp p q (made (map (λ (target : Option ℕ). is_some target) to)) others here there to taken more marks listed listed_there order other_order
    (on_ok_weaker {P = AddsPairs (Alone keys_eq.eq p q here there) to taken more marks} {Q = AddsPairs (Shared keys_eq.eq p q here there) to taken more marks} c.add_lone_objects.result
    (adds_wider (Alone keys_eq.eq p q here there) (Shared keys_eq.eq p q here there) to taken more marks (λ i j w. (w.0.one, w.1))) c.add_lone_objects.ensures.pairs) c.add_lone_objects.ensures.none_left
