-- Records made of others: one that is made leaves those before it as they are.
use Rattle.std.proofs.Common.{◌≡◌, ℕ, zero, suc, ◌+◌, ◌-◌, ◌<◌, ◌≤◌, List, [], ◌∷◌, ◌++◌}
use Rattle.std.proofs.Common.{length, get_or, take, drop, refl, sym, ap, ◌∙◌, arith, length-append}
use Rattle.std.specs.List.{slice_get, slice_range}
use Rattle.std.proofs.Math.ListN.{drop_of_length-le}
use Rattle.std.proofs.Math.Seq.{take-append-add, drop-cons}
use Rattle.std.proofs.lemmas.List.{length-drop, length-take-le, take-append-drop}
use Rattle.std.proofs.lemmas.Option.{get_or_from_slice_get}
use Rattle.edi_record.specs.declared.block.Head.{Head}
use Rattle.edi_record.specs.declared.part_lists.Stops.{Stops}
use Rattle.edi_record.specs.AnyRecords.{Parts, AnyRecord, any_record}
use Rattle.edi_record.specs.inner.FlatRecords.{no_stops, stops_before, parts_between, records_from}
use Rattle.edi_record.specs.inner.FlatRecords.{IsPartWithin, ArePartsTo}
use Rattle.edi_record.specs.inner.Remaking.{parts_of_first, AreMadeOf}
use Rattle.edi_record.proofs.FlatRecords.{records_long, parts_there, record_there, stops_there, pushed}

-- the first part of a list grows by what follows it
part_taken : {X : Type 0} (xs : List X) (from to : ℕ) → IsPartWithin (length xs) from to
    → (take to xs ≡ take from xs ++ slice_range xs from to)
    × (to ≡ length (take from xs) + length (slice_range xs from to))
part_taken xs from to is =
    let front : length (take from xs) ≡ from = length-take-le from xs (omega (arith, is.rises, is.ends)) in
    let left : to - from ≤ length (drop from xs) = omega (arith, is.rises, is.ends, length-drop from xs) in
    let long : length (slice_range xs from to) ≡ to - from = length-take-le (to - from) (drop from xs) left in
    let sum : to ≡ length (take from xs) + (to - from) = omega (arith, front, is.rises) in (
      (λ i. take (sum i) (sym (take-append-drop from xs) i))
          ∙ take-append-add (take from xs) (drop from xs) (to - from),
      omega (arith, sum, long),
    )

-- the first of the records that are left, and how many these are
pub first_of_left : {X : Type 0} (xs : List X) (k : ℕ) → slice_get (drop k xs) 0 ≡ slice_get xs k
first_of_left xs zero = refl
first_of_left [] (suc k) = refl
first_of_left (x ∷ xs) (suc k) = first_of_left xs k

module _ {G B F : Type 0} (olds : List (Head G)) (old : Parts B F) (n : ℕ) where
  pub left_long : length (drop n (records_from old no_stops olds)) ≡ length olds - n
  left_long = length-drop n (records_from old no_stops olds) ∙ ap (λ l. l - n) (records_long old no_stops olds)

  pub none_left : length olds ≤ n → drop n (records_from old no_stops olds) ≡ []
  none_left past =
      let long = records_long old no_stops olds in
      drop_of_length-le (records_from old no_stops olds) (omega (arith, past, long))

  pub all_made : n ≤ length olds → drop n (records_from old no_stops olds) ≡ [] → n ≡ length olds
  all_made within none = let long = sym left_long ∙ ap length none in omega (arith, within, long)

-- the old record of this head, which comes after so many
abbrev pub old_after : {G B F : Type 0} → List (Head G) → Parts B F → Head G → ℕ → AnyRecord G B F
old_after olds old h n = record { head = h.head; parts = parts_between old (stops_before n no_stops olds) h.stops }

-- the record that is made of an old one, with this head and these attributes and ends
abbrev pub made_of : {G B F H A E : Type 0} → H → List A → List E → AnyRecord G B F → AnyRecord H A E
made_of head attributes ends r = any_record head r.parts.points ends attributes r.parts.extras

module _ {G B F H A E : Type 0} (olds : List (Head G)) (old : Parts B F) (h : Head G)
    (heads : List (Head H)) (attributes : List A) (ends : List E) where
  -- so many records are made, and the head is that of the next old one
  pub record IsNext (place : ℕ) : Type 0 where
    pub made : AreMadeOf olds old heads attributes ends
    pub place_is : place ≡ length heads
    pub there : place < length olds
    pub found : h ≡ get_or olds place h

  module _ (head : H) (more : List A) (further : List E) (to : Stops)
      (heads_now : List (Head H)) (attributes_now : List A) (ends_now : List E) where
    -- a record with this head and these attributes and ends is made of it
    pub record IsPut : Type 0 where
      pub heads_are : heads_now ≡ heads ++ record { head = head; stops = to } ∷ []
      pub attributes_are : attributes_now ≡ attributes ++ more
      pub ends_are : ends_now ≡ ends ++ further
      pub points_end : to.points ≡ h.stops.points
      pub ends_end : to.ends ≡ length ends + length further
      pub attributes_end : to.attributes ≡ length attributes + length more
      pub extras_end : to.extras ≡ h.stops.extras

    module _ (place : ℕ) (next : IsNext place) (is : IsPut) where
      long : length heads_now ≡ suc (length heads)
      long = ap length is.heads_are ∙ omega (arith, length-append heads (record { head = head; stops = to } ∷ []))

      there : length heads < length olds
      there = omega (arith, next.place_is, next.there)

      found : h ≡ get_or olds (length heads) h
      found = next.found ∙ ap (λ n. get_or olds n h) next.place_is

      stops : stops_before (length heads_now) no_stops olds ≡ h.stops
      stops = ap (λ n. stops_before n no_stops olds) long ∙ sym (stops_there no_stops olds (length heads) h there found)

      between : ArePartsTo old (stops_before (length heads) no_stops olds) h.stops
      between = parts_there old no_stops olds (length heads) h there found next.made.old_fill

      pub left_put : drop (length heads) (records_from old no_stops olds)
          ≡ old_after olds old h (length heads) ∷ drop (length heads_now) (records_from old no_stops olds)
      left_put =
          let olds_long = records_long old no_stops olds in
          let r = old_after olds old h (length heads) in
          let same =
          get_or_from_slice_get (records_from old no_stops olds) (length heads) r r
          (record_there old no_stops olds (length heads) h there found)
          in
          drop-cons (records_from old no_stops olds) (length heads) r (omega (arith, there, olds_long))
          ∙ (λ i. same i ∷ drop (sym long i) (records_from old no_stops olds))

      pub made_put : AreMadeOf olds old heads_now attributes_now ends_now
          × (records_from (parts_of_first olds old (length heads_now) attributes_now ends_now) no_stops heads_now
          ≡ records_from (parts_of_first olds old (length heads) attributes ends) no_stops heads
          ++ made_of head more further (old_after olds old h (length heads)) ∷ [])
      made_put =
          let from = stops_before (length heads) no_stops olds in
          let now = parts_of_first olds old (length heads_now) attributes_now ends_now in
          let points = part_taken old.points from.points h.stops.points between.points in
          let extras = part_taken old.extras from.extras h.stops.extras between.extras in
          let all =
          pushed (parts_of_first olds old (length heads) attributes ends)
          (made_of head more further (old_after olds old h (length heads)))
          (parts_of_first olds old (length heads) attributes ends) now heads heads_now to
          (record {
            same = refl;
            points = ap (λ (s : Stops). take s.points old.points) stops ∙ points.0;
            ends = is.ends_are;
            attributes = is.attributes_are;
            extras = ap (λ (s : Stops). take s.extras old.extras) stops ∙ extras.0;
            heads_are = is.heads_are;
            stops = record {
              points = is.points_end ∙ points.1;
              ends = is.ends_end;
              attributes = is.attributes_end;
              extras = is.extras_end ∙ extras.1;
            };
          }) next.made.fill in (
            record { within = omega (arith, long, there); old_fill = next.made.old_fill; fill = all.0 },
            all.1,
          )
