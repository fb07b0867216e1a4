use Rattle.std.proofs.Common.{◌<◌, ◌∙◌, ◌&&◌, ℕ, [], ap, sym, subst, arith, length, get_or, rules}
use Rattle.std.proofs.lemmas.List.{get_or_default}
use Rattle.edi_record.specs.declared.record.Kind.TheVariants.{Lnk}
use Rattle.edi_plan.specs.Plans.{IsPlace, others_of, record_at}
use Rattle.edi_plan.proofs.PlaceLemmas.{place_there}
use Rattle.edi_rank.specs.EndOrder.{PutsInOrder}
use Rattle.edi_plan.specs.Orders.{attribute_cmp}
use Rattle.edi_rank.specs.inner.Layers.{LinkSource}
use Rattle.edi_rank.specs.inner.PlacedLinks.{has_neither, is_empty}
use Rattle.edi_rank.proofs.PlacedLinks.{sorted_empty}
use Rattle.edi_rank.proofs.SameLaws.{record_agrees}
use Rattle.edi_rank.proofs.link_layer.LinkLayerLayer.key.Goals as goal

pub class_after_reversals-class-requires-clause-place : goal.class_after_reversals-class-requires-clause-place
class_after_reversals-class-requires-clause-place c = subst (λ (l : LinkSource). c.place-place.result < length l.plan.list) (sym c.self.view_is)
    (subst (IsPlace c.args.self.now.plan) (sym c.place-place.ensures) (place_there Lnk c.args.self.now.plan c.args.member c.requires))

pub class_after_reversals-class-requires-clause-class : goal.class_after_reversals-class-requires-clause-class
class_after_reversals-class-requires-clause-class c =
    let there : c.place-place.result < length c.self.inside.plan.now.list = subst (λ (l : LinkSource). c.place-place.result < length l.plan.list) (sym c.self.view_is)
    (subst (IsPlace c.args.self.now.plan) (sym c.place-place.ensures) (place_there Lnk c.args.self.now.plan c.args.member c.requires)) in
    (record_agrees c.self.inside.schema.now c.self.inside.plan.now.list c.self.invariant.1 c.place-place.result there).known

pub link_key_at-requires-clause-place : goal.link_key_at-requires-clause-place
link_key_at-requires-clause-place c = subst (λ (l : LinkSource). c.place-place.result < length l.plan.list) (sym c.self.view_is)
    (subst (IsPlace c.args.self.now.plan) (sym c.place-place.ensures) (place_there Lnk c.args.self.now.plan c.args.member c.requires))

pub bounds-self-inside-place : goal.bounds-self-inside-place
bounds-self-inside-place c =
    let there : c.place-place.result < length c.self.inside.plan.now.list = subst (λ (l : LinkSource). c.place-place.result < length l.plan.list) (sym c.self.view_is)
    (subst (IsPlace c.args.self.now.plan) (sym c.place-place.ensures) (place_there Lnk c.args.self.now.plan c.args.member c.requires)) in
    omega (arith, there, c.self.invariant.4)

pub link_key_at-requires-clause-order : goal.link_key_at-requires-clause-order
link_key_at-requires-clause-order c =
    let there : c.place-place.result < length c.self.inside.plan.now.list = subst (λ (l : LinkSource). c.place-place.result < length l.plan.list) (sym c.self.view_is)
    (subst (IsPlace c.args.self.now.plan) (sym c.place-place.ensures) (place_there Lnk c.args.self.now.plan c.args.member c.requires)) in
    let number : ℕ → ℕ = λ k. get_or c.self.inside.numbers.now k 0 in
    subst (λ order. PutsInOrder c.self.inside.plan.now number order (others_of (record_at c.self.inside.plan.now c.place-place.result)))
    (sym (c.as_slice-order.ensures ∙ get_or_default c.self.inside.orders.now c.place-place.result c.index-self-place.result [] (omega (arith, there, c.self.invariant.4))))
    (c.self.invariant.5 c.place-place.result there)

pub plain_pair-requires-clause-place : goal.plain_pair-requires-clause-place
plain_pair-requires-clause-place c = subst (λ (l : LinkSource). c.place-place.result < length l.plan.list) (sym c.self.view_is)
    (subst (IsPlace c.args.self.now.plan) (sym c.place-place.ensures) (place_there Lnk c.args.self.now.plan c.args.member c.requires))

pub is_bare-requires : goal.is_bare-requires
is_bare-requires c = subst (λ (l : LinkSource). c.place-place.result < length l.plan.list) (sym c.self.view_is)
    (subst (IsPlace c.args.self.now.plan) (sym c.place-place.ensures) (place_there Lnk c.args.self.now.plan c.args.member c.requires))

pub from_key-requires : goal.from_key-requires
from_key-requires c =
    let r = record_at c.self.inside.plan.now c.place-place.result in
    c.is_bare.ensures ∙ (ap (λ b. b && is_empty r.extras) (sym (sorted_empty attribute_cmp r.attributes)) ∙ sym (ap has_neither c.in_ok-key.ensures))

pub returns-in-Some : goal.returns-in-Some
returns-in-Some c =
    let key = c.in-Some.ensures c.class_after_reversals-class.result in
    search (key, rules)
