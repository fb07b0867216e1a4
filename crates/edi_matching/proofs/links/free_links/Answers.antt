use Rattle.std.proofs.Common.{◌∙◌, true≢false, ◌+◌, ◌<◌, ◌≤◌, ℕ, length, List, Vec, Global, ap, get_or, sym, subst, Ordering, IsSorted}
use Rattle.std.specs.List.{slice_index}
use Rattle.std.specs.Ordering.{nat_cmp, ordering_then}
use Rattle.std.proofs.lemmas.List.Sorted.{Contains-permutation}
use Rattle.edi_record.specs.declared.record.Kind.TheVariants.{Lnk}
use Rattle.edi_plan.specs.Plans.{IsPlace, record_at}
use Rattle.edi_plan.proofs.PlaceLemmas.{place_there}
use Rattle.edi_rank.specs.Keys.{link_key}
use Rattle.edi_rank.specs.declared.keys.LinkKey.{LinkKey}
use Rattle.edi_rank.proofs.KeyOrders.{link_order}
use Rattle.edi_matching.specs.inner.Links.{moved_key}
use Rattle.edi_matching.proofs.FreeLinks.{ListsSoFar, all_listed, listed_more, listed_none}
use Rattle.edi_matching.proofs.LinkKeys.{key_itself}
use Rattle.edi_matching.proofs.links.free_links.Goals.{then-is_free+in_ok-key+in_ok-push, else-is_free}
use Rattle.edi_matching.proofs.links.free_links.Goals as goal

pub loop-place-preserved : goal.loop-place-preserved
loop-place-preserved c =
    let q = c.args.other.now in
    let marks = c.args.reached.now in
    let n = c.loop-place.place-index in
    let place = get_or c.places-place-items.result.now n 0 in
    let is = ap (λ (xs : List ℕ). get_or xs n 0) c.places-place-items.ensures in
    let here = subst (λ (k : ℕ). IsPlace q k) (sym is) (place_there Lnk q n (subst (λ (xs : List ℕ). n < length xs) c.places-place-items.ensures c.loop-place-test.true)) in
    let r = record_at q place in
    elim c.if-is_free.branch [
      | then-is_free+in_ok-key+in_ok-push w ↦
          subst (λ (ls : Vec (LinkKey × ℕ) Global). ListsSoFar q marks ls.items (n + 1)) (sym w.links-is)
          (listed_more q marks c.loop-place.links.items n place c.loop-place.invariant is w.in_ok-key.key w.push.new.self.items
          (w.in_ok-key.ensures ∙ (ap (λ (xs : List ℕ). moved_key q (slice_index xs) w.scp.result r) w.deref.ensures.value
          ∙ (ap (λ (class : ℕ). moved_key q (slice_index c.in_ok-itself.itself.items) class r) w.scp.ensures
          ∙ key_itself q c.in_ok-itself.itself.items r c.in_ok-itself.ensures.each (c.keeps.ensures.whole.there place here))))
          w.in_ok-push.ensures.items)
      | else-is_free w ↦
          subst (λ (ls : Vec (LinkKey × ℕ) Global). ListsSoFar q marks ls.items (n + 1)) (sym w.links-is)
          (listed_none q marks c.loop-place.links.items n place c.loop-place.invariant is (λ e. true≢false (sym (w.if-is_free.ensures.1 e))))
    ]

pub returns-clause-lists : goal.returns-clause-lists
returns-clause-lists c =
    let q = c.args.other.now in
    let all = all_listed q c.args.reached.now c.loop-place.links.items c.loop-place.place-index c.loop-place.invariant
    (subst (λ (xs : List ℕ). length xs ≤ c.loop-place.place-index) c.places-place-items.ensures c.loop-place-test.false) in
    λ j there link free. Contains-permutation c.loop-place.links.items c.sort_unstable.new.self.items (link_key q (λ k. k) (record_at q j), j) c.sort_unstable.ensures.permutation (all j there link free)

pub returns-clause-sorted : goal.returns-clause-sorted
returns-clause-sorted c =
    subst (λ (cmp : LinkKey → LinkKey → Ordering). IsSorted (λ x y. ordering_then (cmp x.0 y.0) (nat_cmp x.1 y.1)) c.sort_unstable.new.self.items) (λ i a b. link_order a b i)
    c.sort_unstable.ensures.sorted
