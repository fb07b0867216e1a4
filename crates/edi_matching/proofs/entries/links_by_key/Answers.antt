use Rattle.std.proofs.Common.{◌∙◌, ◌≡◌, ℕ, None, Option, Vec, Global, Ordering, IsSorted, ap, get_or, nat_cmp, option_map, rules, subst, sym}
use Rattle.std.specs.Ordering.{ordering_then}
use Rattle.edi_record.specs.declared.record.Kind.TheVariants.{Lnk}
use Rattle.edi_plan.specs.Places.{places_of}
use Rattle.edi_plan.specs.Plans.{record_at}
use Rattle.edi_rank.specs.declared.keys.LinkKey.{LinkKey}
use Rattle.edi_rank.proofs.KeyOrders.{link_order}
use Rattle.edi_matching.specs.inner.Entries.{link_there}
use Rattle.edi_matching.proofs.Listed.{known_none, known_one}
use Rattle.edi_matching.proofs.entries.links_by_key.Goals.{in-Some+in_ok-push, in_default}
use Rattle.edi_matching.proofs.entries.links_by_key.Goals as goal

pub loop-place-preserved : goal.loop-place-preserved
loop-place-preserved c =
    let p = c.args.plan.now in
    let items = c.places-place-items.result.now in
    let n = c.loop-place.place-index in
    let place : ℕ = get_or items n 0 in
    let entry : ℕ → Option (LinkKey × ℕ) = λ k. option_map (λ x. (x, k)) (link_there c.args.schema.now p c.args.to.now c.args.turned.now (record_at p k)) in
    let found : entry place ≡ option_map (λ x. (x, place)) c.in_ok-key.field-0 = ap (option_map (λ x. (x, place))) (sym c.in_ok-key.ensures) in
    elim c.match-branch-2.branch [
      | in-Some+in_ok-push w ↦
          ap (λ (v : Vec (LinkKey × ℕ) Global). v.items) w.links-is
          ∙ known_one (places_of Lnk p) items c.places-place-items.ensures n 0 entry c.loop-place.links.items w.push.new.self.items (w.in-Some.key, place) c.loop-place-test.true c.loop-place.invariant
          (found ∙ ap (option_map (λ x. (x, place))) w.in-Some.is) w.in_ok-push.ensures.items
      | in_default w ↦
          let none : c.in_ok-key.field-0 ≡ None = search rules in
          ap (λ (v : Vec (LinkKey × ℕ) Global). v.items) w.links-is
          ∙ known_none (places_of Lnk p) items c.places-place-items.ensures n 0 entry c.loop-place.links.items c.loop-place-test.true c.loop-place.invariant
          (found ∙ ap (option_map (λ x. (x, place))) none)
    ]

pub returns-clause-sorted : goal.returns-clause-sorted
returns-clause-sorted c =
    subst (λ (cmp : LinkKey → LinkKey → Ordering). IsSorted (λ x y. ordering_then (cmp x.0 y.0) (nat_cmp x.1 y.1)) c.sort_unstable.new.self.items) (λ i a b. link_order a b i)
    c.sort_unstable.ensures.sorted
