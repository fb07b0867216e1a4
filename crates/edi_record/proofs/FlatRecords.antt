-- Records in flat lists: a record that is added leaves those before it as they are.
use Rattle.std.proofs.Common.{◌≡◌, ℕ, zero, suc, ◌+◌, ◌-◌, ◌<◌, ◌≤◌, List, [], ◌∷◌, ◌++◌, Some}
use Rattle.std.proofs.Common.{length, get_or, take, drop, refl, sym, ap, ◌∙◌, subst, arith, length-append}
use Rattle.std.specs.List.{slice_get, slice_range}
use Rattle.std.proofs.Math.Seq.{drop-append_seam, take-length}
use Rattle.std.proofs.lemmas.List.{take-append-le, drop-append-le, length-drop}
use Rattle.edi_record.specs.declared.block.Head.{Head}
use Rattle.edi_record.specs.declared.part_lists.Stops.{Stops}
use Rattle.edi_record.specs.AnyRecords.{Parts, AnyRecord}
use Rattle.edi_record.specs.inner.FlatRecords.{no_stops, stops_before, parts_between, records_from}
use Rattle.edi_record.specs.inner.FlatRecords.{IsPartWithin, ArePartsTo, AreEnds, FillLists}
use Rattle.edi_record.specs.inner.PartLists.{AreStopsAfter}

pub records_long : {H A E : Type 0} (all : Parts A E) (from : Stops) (hs : List (Head H))
    → length (records_from all from hs) ≡ length hs
records_long all from [] = refl
records_long all from (h ∷ hs) = ap suc (records_long all h.stops hs)

-- a part of a list that grows is the same part, and what is added to the list is one more
module _ {X : Type 0} (xs ys : List X) (from to : ℕ) where
  part_stays : IsPartWithin (length xs) from to
      → IsPartWithin (length (xs ++ ys)) from to × (slice_range (xs ++ ys) from to ≡ slice_range xs from to)
  part_stays is =
      let left : to - from ≤ length (drop from xs) = omega (arith, is.rises, is.ends, length-drop from xs) in (
        record { rises = is.rises; ends = omega (arith, is.ends, length-append xs ys) },
        ap (take (to - from)) (drop-append-le from xs ys (omega (arith, is.rises, is.ends)))
            ∙ take-append-le (to - from) (drop from xs) ys left,
      )

  part_added : from ≡ length xs → to ≡ length xs + length ys
      → IsPartWithin (length (xs ++ ys)) from to × (slice_range (xs ++ ys) from to ≡ ys) × (to ≡ length (xs ++ ys))
  part_added begins stops =
      let long : to - from ≡ length ys = omega (arith, begins, stops) in (
        record { rises = omega (arith, begins, stops); ends = omega (arith, stops, length-append xs ys) },
        ap (λ n. take (to - from) (drop n (xs ++ ys))) begins
            ∙ (ap (take (to - from)) (drop-append_seam xs ys) ∙ (ap (λ n. take n ys) long ∙ take-length ys)),
        stops ∙ sym (length-append xs ys),
      )

module _ {H A E : Type 0} (old : Parts A E) (e : AnyRecord H A E) where
  -- the lists once the record is added
  abbrev grown : Parts A E
  grown = record {
    points = old.points ++ e.parts.points;
    ends = old.ends ++ e.parts.ends;
    attributes = old.attributes ++ e.parts.attributes;
    extras = old.extras ++ e.parts.extras;
  }

  -- its parts end here
  abbrev AreStops : Stops → Type 0
  AreStops to =
      AreStopsAfter old (length e.parts.points) (length e.parts.ends) (length e.parts.attributes)
      (length e.parts.extras) to

  parts_stay : (from to : Stops) → ArePartsTo old from to
      → ArePartsTo grown from to × (parts_between grown from to ≡ parts_between old from to)
  parts_stay from to are =
      let p = part_stays old.points e.parts.points from.points to.points are.points in
      let n = part_stays old.ends e.parts.ends from.ends to.ends are.ends in
      let a = part_stays old.attributes e.parts.attributes from.attributes to.attributes are.attributes in
      let x = part_stays old.extras e.parts.extras from.extras to.extras are.extras in (
        record { points = p.0; ends = n.0; attributes = a.0; extras = x.0 },
        λ i. record { points = p.1 i; ends = n.1 i; attributes = a.1 i; extras = x.1 i },
      )

  parts_added : (from to : Stops) → AreEnds old from → AreStops to
      → ArePartsTo grown from to × (parts_between grown from to ≡ e.parts) × AreEnds grown to
  parts_added from to ends stops =
      let p = part_added old.points e.parts.points from.points to.points ends.points stops.points in
      let n = part_added old.ends e.parts.ends from.ends to.ends ends.ends stops.ends in
      let a = part_added old.attributes e.parts.attributes from.attributes to.attributes ends.attributes
      stops.attributes in
      let x = part_added old.extras e.parts.extras from.extras to.extras ends.extras stops.extras in (
        record { points = p.0; ends = n.0; attributes = a.0; extras = x.0 },
        λ i. record { points = p.1 i; ends = n.1 i; attributes = a.1 i; extras = x.1 i },
        record { points = p.2; ends = n.2; attributes = a.2; extras = x.2 },
      )

  -- its head
  abbrev head_to : Stops → Head H
  head_to to = record { head = e.head; stops = to }

  records_more : (from to : Stops) (hs : List (Head H)) → AreStops to → FillLists old from hs
      → FillLists grown from (hs ++ head_to to ∷ [])
      × (records_from grown from (hs ++ head_to to ∷ []) ≡ records_from old from hs ++ e ∷ [])
  records_more from to [] stops ends =
      let added = parts_added from to ends stops in
      ((added.0, added.2), λ i. record { head = e.head; parts = added.1 i } ∷ [])
  records_more from to (h ∷ hs) stops all =
      let first = parts_stay from h.stops all.0 in
      let more = records_more h.stops to hs stops all.1 in
      ((first.0, more.0), λ i. record { head = h.head; parts = first.1 i } ∷ more.1 i)

  module _ (mid now : Parts A E) (hs heads : List (Head H)) (to : Stops) where
    -- the lists and heads are those of before with the parts and the head of the record
    pub record IsPushed : Type 0 where
      pub same : mid ≡ old
      pub points : now.points ≡ mid.points ++ e.parts.points
      pub ends : now.ends ≡ mid.ends ++ e.parts.ends
      pub attributes : now.attributes ≡ mid.attributes ++ e.parts.attributes
      pub extras : now.extras ≡ mid.extras ++ e.parts.extras
      pub heads_are : heads ≡ hs ++ head_to to ∷ []
      pub stops : AreStops to

    pub pushed : IsPushed → FillLists old no_stops hs
        → FillLists now no_stops heads × (records_from now no_stops heads ≡ records_from old no_stops hs ++ e ∷ [])
    pushed is all =
        let grows : now ≡ grown = λ i. record {
          points = (is.points ∙ ap (λ (q : Parts A E). q.points ++ e.parts.points) is.same) i;
          ends = (is.ends ∙ ap (λ (q : Parts A E). q.ends ++ e.parts.ends) is.same) i;
          attributes = (is.attributes ∙ ap (λ (q : Parts A E). q.attributes ++ e.parts.attributes) is.same) i;
          extras = (is.extras ∙ ap (λ (q : Parts A E). q.extras ++ e.parts.extras) is.same) i;
        } in
        rw (grows, is.heads_are) (records_more no_stops to hs is.stops all)

-- the record at a place

pub stops_there : {H : Type 0} (from : Stops) (hs : List (Head H)) (k : ℕ) (h : Head H)
    → k < length hs → h ≡ get_or hs k h → h.stops ≡ stops_before (suc k) from hs
stops_there from [] k h less is = absurd (omega (arith, less))
stops_there from (x ∷ hs) zero h less is = ap (λ (y : Head _). y.stops) is
stops_there from (x ∷ hs) (suc k) h less is = stops_there x.stops hs k h (omega (arith, less)) is

module _ {H A E : Type 0} (all : Parts A E) where
  pub parts_there : (from : Stops) (hs : List (Head H)) (k : ℕ) (h : Head H) → k < length hs → h ≡ get_or hs k h
      → FillLists all from hs → ArePartsTo all (stops_before k from hs) h.stops
  parts_there from [] k h less is are = absurd (omega (arith, less))
  parts_there from (x ∷ hs) zero h less is are = subst (λ (y : Head _). ArePartsTo all from y.stops) (sym is) are.0
  parts_there from (x ∷ hs) (suc k) h less is are = parts_there x.stops hs k h (omega (arith, less)) is are.1

  pub record_there : (from : Stops) (hs : List (Head H)) (k : ℕ) (h : Head H) → k < length hs → h ≡ get_or hs k h
      → slice_get (records_from all from hs) k
      ≡ Some (record { head = h.head; parts = parts_between all (stops_before k from hs) h.stops })
  record_there from [] k h less is = absurd (omega (arith, less))
  record_there from (x ∷ hs) zero h less is =
      ap (λ (y : Head _). Some (record { head = y.head; parts = parts_between all from y.stops })) (sym is)
  record_there from (x ∷ hs) (suc k) h less is = record_there x.stops hs k h (omega (arith, less)) is
