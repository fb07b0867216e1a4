-- A file whose lines break no rule has at most 9,999,999 records.
use Rattle.std.proofs.Common.{◌≡◌, ◌⊎◌, ℕ, zero, suc, ◌+◌, ◌<◌, ◌≤◌, Bool, true, false, cond, ◌&&◌, ◌==◌, List, [], ◌∷◌, ◌++◌, length, Some, None, Ok, Err, count_by, codes, bytes_eq, refl, sym, ap, ◌∙◌, subst, arith, inl, inr, eq-eqb}
use Rattle.std.proofs.lemmas.List.Sums.{sum_by-cons}
use Rattle.std.proofs.lemmas.Slice.Eq.{bytes_eq-Decides}
use Rattle.edi_line.specs.ZoneData.{ZoneData}
use Rattle.edi_line.specs.Spelling.{Spelling, Reading}
use Rattle.edi_line.specs.LineRules.{IsZonesOf, BreaksLineRule, BreaksAt}
use Rattle.edi_line.specs.Zones.{groups_of}
use Rattle.edi_line.specs.inner.Zones.{Part, part_by, parts_after, readings_of}
use Rattle.edi_line.proofs.ZonesFound.{whole_zones, zones_of}
use Rattle.edi_line.specs.LineKinds.{code_is, bears}
use Rattle.edi_line.specs.inner.Kinds.{kind_of}
use Rattle.edi_line.specs.Refusal.{IsUnbroken}
use Rattle.edi_line.proofs.Readings.{unbroken_read}
use Rattle.edi_line.proofs.ZonesSaid.{zones_read}

count-cons : {X : Type 0} (test : X → Bool) (x : X) (xs : List X) → count_by test (x ∷ xs) ≡ cond (test x) 1 0 + count_by test xs
count-cons test x xs = sum_by-cons (λ x. cond (test x) 1 0) x xs

pub zones_are : (b : List ℕ) (zones : List ZoneData) → IsZonesOf b zones → zones ≡ zones_of b
zones_are b zones h = (zones_read b zones h).is

by_code : (code text : List ℕ) (P : List ℕ → Type 0) → P text → (bytes_eq code text ≡ false → P code) → P code
by_code code text P here other = go (bytes_eq code text) refl
  where
    go : (t : Bool) → bytes_eq code text ≡ t → P code
    go true e = subst P (sym ((bytes_eq-Decides code text).0 e)) here
    go false e = other e

-- the same line with this code
abbrev coded : List ℕ → Spelling → Spelling
coded code s = record { code = code; nature = s.nature; format = s.format; value = s.value }

-- a line opens a record exactly if its code is RTY
abbrev Opens : ℕ → Spelling → List Part → List ℕ → Type 0
Opens n s parts code =
    length (groups_of (whole_zones (part_by (kind_of code) n (coded code s) ∷ parts))) ≡ cond (code_is "RTY" code) 1 0 + length (groups_of (whole_zones parts))

none_added : (m : ℕ) → m ≡ 0 + m
none_added m = omega arith

opens_one : (n : ℕ) (s : Spelling) (parts : List Part) (code : List ℕ) → Opens n s parts code
opens_one n s parts code =
    by_code code (codes "BOM") (Opens n s parts) (omega arith) (λ bom.
    by_code code (codes "CSE") (Opens n s parts) (omega arith) (λ cse.
    by_code code (codes "RTY") (Opens n s parts) (omega arith) (λ rty.
    by_code code (codes "EOM") (Opens n s parts) (omega arith) (λ eom.
    by_code code (codes "NEX") (Opens n s parts) (omega arith) (λ nex.
    by_code code (codes "REM") (Opens n s parts) (omega arith) (λ rem.
    rw (bom, cse, rty, eom, nex, rem) (rw rty (none_added (length (groups_of (whole_zones parts)))))))))))

groups_counted : (n : ℕ) (lines : List Reading) → length (groups_of (whole_zones (parts_after n lines))) ≡ count_by (bears (code_is "RTY")) lines
groups_counted n [] = refl
groups_counted n (Ok None ∷ lines) = omega (arith, groups_counted (suc n) lines, count-cons (bears (code_is "RTY")) (Ok None) lines)
groups_counted n (Err rule ∷ lines) = omega (arith, groups_counted (suc n) lines, count-cons (bears (code_is "RTY")) (Err rule) lines)
groups_counted n (Ok (Some s) ∷ lines) =
    opens_one (suc n) s (parts_after (suc n) lines) s.code
    ∙ (ap (λ m. cond (code_is "RTY" s.code) 1 0 + m) (groups_counted (suc n) lines) ∙ sym (count-cons (bears (code_is "RTY")) (Ok (Some s)) lines))

-- the one after so many that pass
numbered : {X : Type 0} (p : X → Bool) (n : ℕ) (xs : List X) → n < count_by p xs → (before : List X) × (x : X) × (after : List X) × (xs ≡ before ++ x ∷ after) × (p x ≡ true) × (count_by p before ≡ n)
numbered p n [] below = absurd (omega arith)
numbered {X} p n (x ∷ xs) below = go (p x) refl n below (λ m l. numbered p m xs l)
  where
    go : (b : Bool) → p x ≡ b → (n : ℕ) → n < count_by p (x ∷ xs)
        → ((n : ℕ) → n < count_by p xs → (before : List X) × (y : X) × (after : List X) × (xs ≡ before ++ y ∷ after) × (p y ≡ true) × (count_by p before ≡ n))
        → (before : List X) × (y : X) × (after : List X) × (x ∷ xs ≡ before ++ y ∷ after) × (p y ≡ true) × (count_by p before ≡ n)
    go true e zero below more = ([], x, xs, refl, e, refl)
    go true e (suc n) below more =
        let total : count_by p (x ∷ xs) ≡ 1 + count_by p xs = count-cons p x xs ∙ ap (λ b. cond b 1 0 + count_by p xs) e in
        let found = more n (omega (arith, total, below)) in
        (x ∷ found.0, found.1, found.2, ap (λ t. x ∷ t) found.3, found.4, count-cons p x found.0 ∙ (ap (λ b. cond b 1 0 + count_by p found.0) e ∙ omega (arith, found.5)))
    go false e n below more =
        let total : count_by p (x ∷ xs) ≡ 0 + count_by p xs = count-cons p x xs ∙ ap (λ b. cond b 1 0 + count_by p xs) e in
        let found = more n (omega (arith, total, below)) in
        (x ∷ found.0, found.1, found.2, ap (λ t. x ∷ t) found.3, found.4, count-cons p x found.0 ∙ (ap (λ b. cond b 1 0 + count_by p found.0) e ∙ omega (arith, found.5)))

few_records : (lines : List Reading) → ((place : ℕ) → ¬ (BreaksAt lines 110 place)) → count_by (bears (code_is "RTY")) lines ≤ 9999999
few_records lines sound = go (Rattle.std.proofs.lemmas.Bool.cases_order (count_by (bears (code_is "RTY")) lines) 9999999)
  where
    too_many : 9999999 < count_by (bears (code_is "RTY")) lines → ⊥
    too_many many =
        let found = numbered (bears (code_is "RTY")) 9999999 lines many in
        let last : (bears (code_is "RTY") found.1 && (count_by (bears (code_is "RTY")) found.0 == 9999999)) ≡ true = rw (found.4, eq-eqb _ _ found.5) refl in
        sound (length found.0 + 1) (record { before = found.0; line = found.1; after = found.2; cut = found.3; place_is = refl; breaks = inr (inr (inr (inr (inr (inr (refl, last)))))) })

    go : (count_by (bears (code_is "RTY")) lines ≡ 9999999) ⊎ ((count_by (bears (code_is "RTY")) lines < 9999999) ⊎ (9999999 < count_by (bears (code_is "RTY")) lines)) → count_by (bears (code_is "RTY")) lines ≤ 9999999
    go (inl e) = omega (arith, e)
    go (inr (inl l)) = omega (arith, l)
    go (inr (inr l)) = absurd (too_many l)

pub few_groups : (b : List ℕ) (zones : List ZoneData) → IsZonesOf b zones → IsUnbroken (BreaksLineRule b) → length (groups_of zones) ≤ 9999999
few_groups b zones is sound =
    let few = few_records (readings_of b) (λ place h. unbroken_read b sound 110 place (inl h)) in
    omega (arith, ap (λ z. length (groups_of z)) (zones_are b zones is), groups_counted 0 (readings_of b), few)
