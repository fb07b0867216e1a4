use Rattle.std.proofs.Common.{◌≡◌, ◌<◌, ◌∙◌, ℕ, [], sym, subst, ap, ap₂, arith, length, map, filter_map, get_or}
use Rattle.std.specs.List.{AllByRecursion}
use Rattle.std.proofs.lemmas.List.{get_or_read}
use Rattle.edi_record.specs.declared.record.Kind.TheVariants.{Fea}
use Rattle.edi_plan.specs.Plans.{IsPlace, record_at, is_object}
use Rattle.edi_plan.specs.Orders.{attribute_cmp}
use Rattle.edi_plan.proofs.PlaceLemmas.{place_there, place_of_kind}
use Rattle.edi_schema.specs.Sorted.{sort_by}
use Rattle.edi_rank.specs.EndOrder.{OthersInOrder}
use Rattle.edi_rank.specs.Keys.{link_key, link_key_cmp, piece_by}
use Rattle.edi_rank.specs.Pieces.{ObjectSource, object_key_at}
use Rattle.edi_rank.specs.inner.Pieces.{piece_places}
use Rattle.edi_rank.specs.declared.keys.ObjectKey.{ObjectKey}
use Rattle.edi_rank.proofs.PieceLists.{pieces_there, pieces_with, pieces_keyed_by}
use Rattle.edi_rank.proofs.object_layer.ObjectLayerLayer.key.Goals as goal

there_in : (l q : ObjectSource) (m k : ℕ) → q ≡ l → k ≡ get_or (Rattle.edi_plan.specs.Places.places_of Fea l.plan) m 0 → m < length (Rattle.edi_plan.specs.Places.places_of Fea l.plan) → IsPlace q.plan k × (is_object (record_at q.plan k).kind ≡ Rattle.std.proofs.Common.true)
there_in l q m k e is h = subst (λ (r : ObjectSource). IsPlace r.plan k × (is_object (record_at r.plan k).kind ≡ Rattle.std.proofs.Common.true)) (sym e)
    (subst (λ j. IsPlace l.plan j × (is_object (record_at l.plan j).kind ≡ Rattle.std.proofs.Common.true)) (sym is) (place_there Fea l.plan m h, ap is_object (place_of_kind Fea l.plan m h)))

pub attributes-requires : goal.attributes-requires
attributes-requires c = (there_in c.args.self.now (record { plan = c.self.inside.plan.now; numbers = c.self.inside.numbers.items }) c.args.member c.place-place.result c.self.view_is c.place-place.ensures c.requires).0

pub extras-requires : goal.extras-requires
extras-requires c = (there_in c.args.self.now (record { plan = c.self.inside.plan.now; numbers = c.self.inside.numbers.items }) c.args.member c.place-place.result c.self.view_is c.place-place.ensures c.requires).0

pub scp-requires : goal.scp-requires
scp-requires c = (there_in c.args.self.now (record { plan = c.self.inside.plan.now; numbers = c.self.inside.numbers.items }) c.args.member c.place-place.result c.self.view_is c.place-place.ensures c.requires).0

pub bounds-links-place : goal.bounds-links-place
bounds-links-place c =
    let there = there_in c.args.self.now (record { plan = c.self.inside.plan.now; numbers = c.self.inside.numbers.items }) c.args.member c.place-place.result c.self.view_is c.place-place.ensures c.requires in
    omega (arith, ap length c.deref-links.ensures.value, c.self.invariant.2, there.0)

pub sorted_pieces-requires-clause-links : goal.sorted_pieces-requires-clause-links
sorted_pieces-requires-clause-links c =
    let there = there_in c.args.self.now (record { plan = c.self.inside.plan.now; numbers = c.self.inside.numbers.items }) c.args.member c.place-place.result c.self.view_is c.place-place.ensures c.requires in
    let within : c.place-place.result < length c.deref-links.result.now = omega (arith, ap length c.deref-links.ensures.value, c.self.invariant.2, there.0) in
    let is : c.as_slice-own.result.now ≡ piece_places c.self.inside.plan.now c.place-place.result = c.as_slice-own.ensures ∙ (get_or_read c.deref-links.result.now c.place-place.result c.index-links-place.result within c.index-links-place.is []
    ∙ (ap (λ ls. get_or ls c.place-place.result []) c.deref-links.ensures.value ∙ c.self.invariant.4 c.place-place.result there.0 there.1)) in
    subst (AllByRecursion (IsPlace c.self.inside.plan.now)) (sym is) (pieces_there c.self.inside.plan.now c.place-place.result)

pub sorted_pieces-requires-clause-orders : goal.sorted_pieces-requires-clause-orders
sorted_pieces-requires-clause-orders c =
    let there = there_in c.args.self.now (record { plan = c.self.inside.plan.now; numbers = c.self.inside.numbers.items }) c.args.member c.place-place.result c.self.view_is c.place-place.ensures c.requires in
    let within : c.place-place.result < length c.deref-links.result.now = omega (arith, ap length c.deref-links.ensures.value, c.self.invariant.2, there.0) in
    let is : c.as_slice-own.result.now ≡ piece_places c.self.inside.plan.now c.place-place.result = c.as_slice-own.ensures ∙ (get_or_read c.deref-links.result.now c.place-place.result c.index-links-place.result within c.index-links-place.is []
    ∙ (ap (λ ls. get_or ls c.place-place.result []) c.deref-links.ensures.value ∙ c.self.invariant.4 c.place-place.result there.0 there.1)) in
    subst (λ numbers. AllByRecursion (OthersInOrder c.self.inside.plan.now (λ k. get_or numbers k 0) c.deref-2.result.now) c.as_slice-own.result.now) (sym c.deref.ensures.value)
    (subst (λ orders. AllByRecursion (OthersInOrder c.self.inside.plan.now (λ k. get_or c.self.inside.numbers.items k 0) orders) c.as_slice-own.result.now) (sym c.deref-2.ensures.value)
    (subst (AllByRecursion (OthersInOrder c.self.inside.plan.now (λ k. get_or c.self.inside.numbers.items k 0) c.self.inside.orders.items)) (sym is)
    (pieces_with c.self.inside.plan.now c.place-place.result (OthersInOrder c.self.inside.plan.now (λ k. get_or c.self.inside.numbers.items k 0) c.self.inside.orders.items) c.self.invariant.6)))

pub returns : goal.returns
returns c =
    let there = there_in c.args.self.now (record { plan = c.self.inside.plan.now; numbers = c.self.inside.numbers.items }) c.args.member c.place-place.result c.self.view_is c.place-place.ensures c.requires in
    let within : c.place-place.result < length c.deref-links.result.now = omega (arith, ap length c.deref-links.ensures.value, c.self.invariant.2, there.0) in
    let is : c.as_slice-own.result.now ≡ piece_places c.self.inside.plan.now c.place-place.result = c.as_slice-own.ensures ∙ (get_or_read c.deref-links.result.now c.place-place.result c.index-links-place.result within c.index-links-place.is []
    ∙ (ap (λ ls. get_or ls c.place-place.result []) c.deref-links.ensures.value ∙ c.self.invariant.4 c.place-place.result there.0 there.1)) in
    let p = c.self.inside.plan.now in
    let o = c.place-place.result in
    let numbers = c.self.inside.numbers.items in
    let q : ObjectSource = record { plan = p; numbers = numbers } in
    let class : c.scp.result ≡ (record_at p o).class = c.scp.ensures in
    let attributes : c.from_vec.result ≡ sort_by attribute_cmp (record_at p o).attributes = c.from_vec.ensures ∙ (c.in_ok-attributes.ensures ∙ ap (sort_by attribute_cmp) c.attributes.ensures) in
    let extras : c.of.result ≡ (record_at p o).extras = c.of.ensures ∙ c.extras.ensures in
    let pieces : c.from_vec-2.result ≡ sort_by link_key_cmp (filter_map (piece_by p (λ k. get_or numbers k 0) o) p.list) = c.from_vec-2.ensures ∙ (c.in_ok-pieces.ensures
    ∙ (ap (λ ns. sort_by link_key_cmp (map (λ k. link_key p (λ j. get_or ns j 0) (record_at p k)) c.as_slice-own.result.now)) c.deref.ensures.value
    ∙ ap (sort_by link_key_cmp) (ap (map (λ k. link_key p (λ j. get_or numbers j 0) (record_at p k))) is ∙ pieces_keyed_by p o (λ k. get_or numbers k 0) (c.self.invariant.3 o there.0 there.1)))) in
    let own : ObjectKey = record { class = c.scp.result; attributes = c.from_vec.result; extras = c.of.result; pieces = c.from_vec-2.result } in
    let made : own ≡ object_key_at q o = λ i. record { class = class i; attributes = attributes i; extras = extras i; pieces = pieces i } in
    made ∙ ap₂ object_key_at c.self.view_is c.place-place.ensures
