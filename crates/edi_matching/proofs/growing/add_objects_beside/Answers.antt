use Rattle.std.proofs.Common.{◌∙◌, ◌≡◌, ℕ, Bool, List, Option, is_some, map, subst, sym, IsPermutation, IsSorted}
use Rattle.std.specs.List.{flat_map}
use Rattle.std.specs.Ordering.{ordering_then}
use Rattle.edi_record.specs.declared.record.Kind.TheVariants.{Lnk}
use Rattle.edi_plan.specs.Places.{places_of}
use Rattle.edi_matching.specs.contracts.entries.NeighbourKeyOrd.TheImpl.{ghosts as keys}
use Rattle.edi_matching.specs.contracts.entries.NeighbourKeyPartialEq.TheImpl.{ghosts as keys_eq}
use Rattle.edi_matching.specs.contracts.ranked.MemberOrd.TheImpl.{ghosts as members}
use Rattle.edi_matching.specs.declared.entries.NeighbourKey.{NeighbourKey}
use Rattle.edi_matching.specs.declared.ranked.Member.{Member}
use Rattle.edi_matching.specs.inner.Entries.{link_entries}
use Rattle.edi_matching.proofs.LoneKeys.{paired_by_key}
use Rattle.edi_matching.proofs.growing.add_objects_beside.Goals as goal

pub returns : goal.returns
returns c =
    let p = c.args.first.plan.now in
    let q = c.args.second.plan.now in
    let l = c.args.first.labels.now in
    let k = c.args.second.labels.now in
    let to = c.args.to.now in
    let taken = c.args.taken.now in
    let more = c.add_objects.new.to in
    let marks = c.add_objects.new.taken in
    let here = c.deref-4.result.now in
    let there = c.deref-5.result.now in
    let numbers = c.args.contents.now.here.items in
    let made_by : List ℕ → List Bool → List (NeighbourKey × Member) = λ (ns : List ℕ) (done : List Bool). flat_map (link_entries p l k ns c.args.to.now done) (places_of Lnk p) in
    let others_by : List ℕ → List (NeighbourKey × Member) = λ (ns : List ℕ). flat_map (link_entries q k k ns c.args.itself.now c.args.taken.now) (places_of Lnk q) in
    let made : List Bool → List (NeighbourKey × Member) = made_by numbers in
    let others : List (NeighbourKey × Member) = flat_map (link_entries q k k c.args.contents.now.there.items c.args.itself.now c.args.taken.now) (places_of Lnk q) in
    let done_is : c.deref-2.result.now ≡ map (λ (target : Option ℕ). is_some target) to = c.deref-2.ensures.value ∙ c.in_ok-done.ensures in
    let listed : IsPermutation (made (map (λ (target : Option ℕ). is_some target) to)) here = subst (λ (xs : List (NeighbourKey × Member)). IsPermutation (made (map (λ (target : Option ℕ). is_some target) to)) xs) (sym c.deref-4.ensures.value)
    (subst (λ (done : List Bool). IsPermutation (made done) c.in_ok-objects.objects.items) done_is
    (subst (λ (ns : List ℕ). IsPermutation (made_by ns c.deref-2.result.now) c.in_ok-objects.objects.items) c.deref.ensures.value c.in_ok-objects.ensures.objects)) in
    let listed_there : IsPermutation others there = subst (λ (xs : List (NeighbourKey × Member)). IsPermutation others xs) (sym c.deref-5.ensures.value)
    (subst (λ (ns : List ℕ). IsPermutation (others_by ns) c.in_ok-others.others.items) c.deref-3.ensures.value c.in_ok-others.ensures.objects) in
    let order = subst (λ (xs : List (NeighbourKey × Member)). IsSorted (λ x y. ordering_then (keys.cmp x.0 y.0) (members.cmp x.1 y.1)) xs) (sym c.deref-4.ensures.value) c.in_ok-objects.ensures.sorted in
    let other_order = subst (λ (xs : List (NeighbourKey × Member)). IsSorted (λ x y. ordering_then (keys.cmp x.0 y.0) (members.cmp x.1 y.1)) xs) (sym c.deref-5.ensures.value) c.in_ok-others.ensures.sorted in
    paired_by_key c.add_objects.result keys.cmp keys_eq.eq members.cmp p q (made (map (λ (target : Option ℕ). is_some target) to)) others here there to taken more marks listed listed_there order other_order
    c.add_objects.ensures.pairs c.add_objects.ensures.none_left
