-- The zones that are done, and the one that is open.
use Rattle.std.proofs.Common.{◌≡◌, ℕ, zero, suc, ◌+◌, ◌-◌, ◌≤◌, Bool, true, false, refl, sym, ap, ◌∙◌, List, [], ◌∷◌, ◌++◌, length, map, Option, Some, None, option_map, option_to_list, slice_index_or, slice_set, take, arith}
use Rattle.std.proofs.lemmas.List.{append-nil, append_assoc, map-append}
use Rattle.edi_line.specs.ZoneData.{ZoneData, entry, entries}
use Rattle.edi_line.specs.Feeding.{Zoned}
use Rattle.edi_line.specs.inner.Borrowed.{begins_at}
use Rattle.edi_line.specs.inner.ZoneLists.{all_but_last, last_if_any, done_of, open_of}
use Rattle.edi_line.specs.inner.Zones.{with_more}
use Rattle.edi_line.specs.declared.zone.Zone.{Zone}

done_pushed : {X : Type 0} (xs : List X) (x : X) → all_but_last (xs ++ x ∷ []) ≡ xs
done_pushed [] x = refl
done_pushed (y ∷ []) x = refl
done_pushed (y ∷ (z ∷ zs)) x = ap (λ l. y ∷ l) (done_pushed (z ∷ zs) x)

open_pushed : {X : Type 0} (xs : List X) (x : X) → last_if_any (xs ++ x ∷ []) ≡ Some x
open_pushed [] x = refl
open_pushed (y ∷ []) x = refl
open_pushed (y ∷ (z ∷ zs)) x = open_pushed (z ∷ zs) x

and_last : {X : Type 0} (xs : List X) → xs ≡ all_but_last xs ++ option_to_list (last_if_any xs)
and_last [] = refl
and_last (x ∷ []) = refl
and_last (x ∷ (y ∷ ys)) = ap (λ l. x ∷ l) (and_last (y ∷ ys))

-- those that are done, and the one that is open, are all
pub all_zones : {X : Type 0} (is_open : Bool) (xs : List X) → xs ≡ done_of is_open xs ++ option_to_list (open_of is_open xs)
all_zones true xs = and_last xs
all_zones false xs = sym (append-nil xs)

-- a zone is opened where none is open
pub done_opened : {X : Type 0} (is_open : Bool) (xs ys : List X) (x : X) → open_of is_open xs ≡ None → ys ≡ xs ++ x ∷ [] → all_but_last ys ≡ done_of is_open xs
done_opened is_open xs ys x none e =
    ap all_but_last e ∙ done_pushed xs x ∙ all_zones is_open xs ∙ ap (λ o. done_of is_open xs ++ option_to_list o) none ∙ append-nil (done_of is_open xs)

pub open_opened : {X : Type 0} (xs ys : List X) (x : X) → ys ≡ xs ++ x ∷ [] → last_if_any ys ≡ Some x
open_opened xs ys x e = ap last_if_any e ∙ open_pushed xs x

front_taken : {X : Type 0} (xs : List X) (n : ℕ) → n + 1 ≡ length xs → take n xs ≡ all_but_last xs
front_taken [] n e = absurd (omega arith)
front_taken (x ∷ []) zero e = refl
front_taken (x ∷ []) (suc n) e = absurd (omega arith)
front_taken (x ∷ (y ∷ ys)) zero e = absurd (omega arith)
front_taken (x ∷ (y ∷ ys)) (suc n) e = ap (λ l. x ∷ l) (front_taken (y ∷ ys) n (omega arith))

pub done_taken : {X : Type 0} (is_open : Bool) (xs : List X) → is_open ≡ true → 1 ≤ length xs → take (length xs - 1) xs ≡ done_of is_open xs
done_taken true xs is some = front_taken xs (length xs - 1) (omega arith)
done_taken false xs is some = absurd cc

-- the open zone is all that is left
pub open_left : {X : Type 0} (is_open : Bool) (front xs ys : List X) (x : X) → is_open ≡ true → xs ≡ front ++ x ∷ [] → ys ≡ x ∷ [] → open_of is_open ys ≡ open_of is_open xs
open_left true front xs ys x is e left = ap last_if_any left ∙ sym (open_opened front xs x e)
open_left false front xs ys x is e left = absurd cc

-- ---- the open zone is lengthened

item_last : {X : Type 0} (xs : List X) (n : ℕ) (d : X) → n + 1 ≡ length xs → last_if_any xs ≡ Some (slice_index_or xs n d)
item_last [] n d e = absurd (omega arith)
item_last (x ∷ []) zero d e = refl
item_last (x ∷ []) (suc n) d e = absurd (omega arith)
item_last (x ∷ (y ∷ ys)) zero d e = absurd (omega arith)
item_last (x ∷ (y ∷ ys)) (suc n) d e = item_last (y ∷ ys) n d (omega arith)

done_set : {X : Type 0} (xs : List X) (n : ℕ) (v : X) → n + 1 ≡ length xs → all_but_last (slice_set xs n v) ≡ all_but_last xs
done_set [] n v e = absurd (omega arith)
done_set (x ∷ []) zero v e = refl
done_set (x ∷ []) (suc n) v e = absurd (omega arith)
done_set (x ∷ (y ∷ ys)) zero v e = absurd (omega arith)
done_set (x ∷ (y ∷ [])) (suc zero) v e = refl
done_set (x ∷ (y ∷ [])) (suc (suc n)) v e = absurd (omega arith)
done_set (x ∷ (y ∷ (z ∷ zs))) (suc zero) v e = absurd (omega arith)
done_set (x ∷ (y ∷ (z ∷ zs))) (suc (suc n)) v e = ap (λ l. x ∷ l) (done_set (y ∷ (z ∷ zs)) (suc n) v (omega arith))

open_set : {X : Type 0} (xs : List X) (n : ℕ) (v : X) → n + 1 ≡ length xs → last_if_any (slice_set xs n v) ≡ Some v
open_set [] n v e = absurd (omega arith)
open_set (x ∷ []) zero v e = refl
open_set (x ∷ []) (suc n) v e = absurd (omega arith)
open_set (x ∷ (y ∷ ys)) zero v e = absurd (omega arith)
open_set (x ∷ (y ∷ [])) (suc zero) v e = refl
open_set (x ∷ (y ∷ [])) (suc (suc n)) v e = absurd (omega arith)
open_set (x ∷ (y ∷ (z ∷ zs))) (suc zero) v e = absurd (omega arith)
open_set (x ∷ (y ∷ (z ∷ zs))) (suc (suc n)) v e = open_set (y ∷ (z ∷ zs)) (suc n) v (omega arith)

pub done_lengthened : {X : Type 0} (is_open : Bool) (xs : List X) (n : ℕ) (v : X) → is_open ≡ true → n + 1 ≡ length xs → done_of is_open (slice_set xs n v) ≡ done_of is_open xs
done_lengthened true xs n v is e = done_set xs n v e
done_lengthened false xs n v is e = absurd cc

pub open_lengthened : (is_open : Bool) (xs : List Zone) (n : ℕ) (old new : Zone) (more : List ℕ) → is_open ≡ true → n + 1 ≡ length xs → old ≡ slice_index_or xs n old → entry new ≡ with_more more (entry old)
    → option_map entry (open_of is_open (slice_set xs n new)) ≡ option_map (with_more more) (option_map entry (open_of is_open xs))
open_lengthened true xs n old new more is e at longer =
    let was : last_if_any xs ≡ Some old = item_last xs n old e ∙ ap (λ z. Some z) (sym at) in
    ap (option_map entry) (open_set xs n new e) ∙ ap (λ z. Some z) longer ∙ sym (ap (λ o. option_map (with_more more) (option_map entry o)) was)
open_lengthened false xs n old new more is e at longer = absurd cc

pub begun_lengthened : (is_open : Bool) (xs : List Zone) (n : ℕ) (old new : Zone) (more : List ℕ) → is_open ≡ true → n + 1 ≡ length xs → old ≡ slice_index_or xs n old → entry new ≡ with_more more (entry old)
    → begins_at (open_of is_open (slice_set xs n new)) ≡ begins_at (open_of is_open xs)
begun_lengthened true xs n old new more is e at longer =
    let was : last_if_any xs ≡ Some old = item_last xs n old e ∙ ap (λ z. Some z) (sym at) in
    ap begins_at (open_set xs n new e) ∙ ap (λ z. Some z.line) longer ∙ sym (ap begins_at was)
begun_lengthened false xs n old new more is e at longer = absurd cc

-- ---- zones of the same entries

done_mapped : {X Y : Type 0} (f : X → Y) (is_open : Bool) (xs : List X) → map f (done_of is_open xs) ≡ done_of is_open (map f xs)
done_mapped f false xs = refl
done_mapped f true [] = refl
done_mapped f true (x ∷ []) = refl
done_mapped f true (x ∷ (y ∷ ys)) = ap (λ l. f x ∷ l) (done_mapped f true (y ∷ ys))

open_mapped : {X Y : Type 0} (f : X → Y) (is_open : Bool) (xs : List X) → option_map f (open_of is_open xs) ≡ open_of is_open (map f xs)
open_mapped f false xs = refl
open_mapped f true [] = refl
open_mapped f true (x ∷ []) = refl
open_mapped f true (x ∷ (y ∷ ys)) = open_mapped f true (y ∷ ys)

abbrev zoned_by : List ZoneData → Option ZoneData → Zoned
zoned_by done open_zone = record { done = done; open_zone = open_zone }

pub same_zoned : (is_open : Bool) (xs ys : List Zone) → entries xs ≡ entries ys
    → zoned_by (entries (done_of is_open xs)) (option_map entry (open_of is_open xs)) ≡ zoned_by (entries (done_of is_open ys)) (option_map entry (open_of is_open ys))
same_zoned is_open xs ys e =
    let done = done_mapped entry is_open xs ∙ ap (done_of is_open) e ∙ sym (done_mapped entry is_open ys) in
    let last = open_mapped entry is_open xs ∙ ap (open_of is_open) e ∙ sym (open_mapped entry is_open ys) in
    ap (λ d. zoned_by d (option_map entry (open_of is_open xs))) done ∙ ap (zoned_by (entries (done_of is_open ys))) last

-- a zone more whose entry is that of the next one
pub zone_moved : (all : List ZoneData) (moved zone : Zone) (rest : List Zone) (moved_all : List Zone) → entries moved_all ++ entries (zone ∷ rest) ≡ all → entry moved ≡ entry zone
    → entries (moved_all ++ moved ∷ []) ++ entries rest ≡ all
zone_moved all moved zone rest moved_all e same =
    ap (λ l. l ++ entries rest) (map-append entry moved_all (moved ∷ []))
    ∙ append_assoc (entries moved_all) (entry moved ∷ []) (entries rest)
    ∙ ap (λ z. entries moved_all ++ z ∷ entries rest) same
    ∙ e
