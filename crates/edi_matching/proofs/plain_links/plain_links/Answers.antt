use Rattle.std.proofs.Common.{◌∙◌, ◌≡◌, ℕ, None, Option, Vec, Global, ap, get_or, option_map, rules, sym}
use Rattle.edi_record.specs.declared.record.Kind.TheVariants.{Lnk}
use Rattle.edi_plan.specs.Places.{places_of}
use Rattle.edi_plan.specs.Plans.{record_at}
use Rattle.edi_matching.specs.declared.plain_links.PlainLink.{PlainLink}
use Rattle.edi_matching.specs.inner.Entries.{keyed_places}
use Rattle.edi_matching.specs.inner.PlainLinks.{plain_link}
use Rattle.edi_matching.proofs.Listed.{known_none, known_one, whole_sorted}
use Rattle.edi_matching.proofs.plain_links.plain_links.Goals.{in-Some+in_ok-push, in_default}
use Rattle.edi_matching.proofs.plain_links.plain_links.Goals as goal

pub loop-place-preserved : goal.loop-place-preserved
loop-place-preserved c =
    let p = c.args.plan.now in
    let items = c.places-places.result.now in
    let n = c.loop-place.place-index in
    let place : ℕ = get_or items n 0 in
    let entry : ℕ → Option (PlainLink × ℕ) = λ k. option_map (λ x. (x, k)) (plain_link c.args.schema.now c.args.to.now c.args.turned.now (record_at p k)) in
    let found : entry place ≡ option_map (λ x. (x, place)) c.plain_link.result = ap (option_map (λ x. (x, place))) (sym c.plain_link.ensures) in
    elim c.match-plain_link.branch [
      | in-Some+in_ok-push w ↦
          ap (λ (v : Vec (PlainLink × ℕ) Global). v.items) w.links-is
          ∙ known_one (places_of Lnk p) items c.places-places.ensures n 0 entry c.loop-place.links.items w.push.new.self.items (w.in-Some.link, place) c.loop-place-test.true c.loop-place.invariant
          (found ∙ ap (option_map (λ x. (x, place))) w.in-Some.is) w.in_ok-push.ensures.items
      | in_default w ↦
          let none : c.plain_link.result ≡ None = search rules in
          ap (λ (v : Vec (PlainLink × ℕ) Global). v.items) w.links-is
          ∙ known_none (places_of Lnk p) items c.places-places.ensures n 0 entry c.loop-place.links.items c.loop-place-test.true c.loop-place.invariant
          (found ∙ ap (option_map (λ x. (x, place))) none)
    ]

pub returns-clause-links : goal.returns-clause-links
returns-clause-links c =
    whole_sorted (keyed_places (λ (k : ℕ). plain_link c.args.schema.now c.args.to.now c.args.turned.now (record_at c.args.plan.now k))) (places_of Lnk c.args.plan.now) c.places-places.result.now c.loop-place.place-index
    c.loop-place.links.items c.sort_unstable.new.self.items c.places-places.ensures c.loop-place-test.false c.loop-place.invariant c.sort_unstable.ensures.permutation
