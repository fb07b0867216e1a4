-- The first line in which two files differ.
use Rattle.std.proofs.Common.{◌≡◌, ◌≢◌, ℕ, zero, suc, ◌+◌, ◌-◌, ◌<◌, ◌≤◌, ◌⊎◌, inl, inr, eqb, eq-eqb, cond, count_by, true, false, Bool, List, [], ◌∷◌, ◌++◌, length, drop, take, get_or, min, MatchOption, Option, Some, None, refl, sym, ap, ap₂, ◌∙◌, subst, arith}
use Rattle.std.specs.List.{onto_first, slice_get}
use Rattle.std.proofs.lemmas.Bool.{ne_eqb, cases_eq, cases_lt}
use Rattle.std.proofs.lemmas.List.{drop_all, drop-drop, length-take-le, take-append-drop}
use Rattle.std.proofs.lemmas.List.Sums.{sum_by-cons}
use Rattle.std.proofs.Math.Seq.{drop-append-add, drop-cons, take-add, take-append-add}
use Rattle.edi_line.specs.inner.Lines.{lines_in}
use Rattle.edi_line.proofs.Cut.{lines_exist}
use Rattle.edi_compare.specs.Verdicts.{IsFirstDifference}
use Rattle.edi_compare.specs.inner.Differing.{differ_from}

-- the lines before this place are equal, and those at it aren't
pub record DifferAt (lines others : List (List ℕ)) (place : ℕ) : Type 0 where
  pub differ : get_or lines place [] ≢ get_or others place []
  pub before : (k : ℕ) → k < place → slice_get lines k ≡ slice_get others k

-- a byte before the first line

first_onto : (c : ℕ) (lines : List (List ℕ)) → slice_get (onto_first c lines) 0 ≡ Some (c ∷ get_or lines 0 [])
first_onto c [] = refl
first_onto c (line ∷ lines) = refl

head_onto : (c : ℕ) (lines : List (List ℕ)) → get_or (onto_first c lines) 0 [] ≡ c ∷ get_or lines 0 []
head_onto c [] = refl
head_onto c (line ∷ lines) = refl

later_onto : (c : ℕ) (lines : List (List ℕ)) (k : ℕ) → slice_get (onto_first c lines) (suc k) ≡ slice_get lines (suc k)
later_onto c [] k = refl
later_onto c (line ∷ lines) k = refl

after_onto : (c : ℕ) (lines : List (List ℕ)) (k : ℕ) → get_or (onto_first c lines) (suc k) [] ≡ get_or lines (suc k) []
after_onto c [] k = refl
after_onto c (line ∷ lines) k = refl

heads_alike : (lines others : List (List ℕ)) → slice_get lines 0 ≡ slice_get others 0 → get_or lines 0 [] ≡ get_or others 0 []
heads_alike [] [] e = refl
heads_alike [] (y ∷ ys) e = cc
heads_alike (x ∷ xs) [] e = cc
heads_alike (x ∷ xs) (y ∷ ys) e = cc

differ_onto : (c : ℕ) (lines others : List (List ℕ)) (place : ℕ) → DifferAt lines others place → DifferAt (onto_first c lines) (onto_first c others) place
differ_onto c lines others zero d = record {
  differ = λ e. let same : c ∷ get_or lines 0 [] ≡ c ∷ get_or others 0 [] = sym (head_onto c lines) ∙ (e ∙ head_onto c others) in d.differ (cc);
  before = λ k h. absurd (omega arith);
}
differ_onto c lines others (suc place) d = record {
  differ = λ e. d.differ (sym (after_onto c lines place) ∙ (e ∙ after_onto c others place));
  before = before;
}
  where
    before : (k : ℕ) → k < suc place → slice_get (onto_first c lines) k ≡ slice_get (onto_first c others) k
    before zero h = first_onto c lines ∙ (ap (λ l. Some (c ∷ l)) (heads_alike lines others (d.before 0 h)) ∙ sym (first_onto c others))
    before (suc k) h = later_onto c lines k ∙ (d.before (suc k) h ∙ sym (later_onto c others k))

differ_behind : (line : List ℕ) (lines others : List (List ℕ)) (place : ℕ) → DifferAt lines others place → DifferAt (line ∷ lines) (line ∷ others) (suc place)
differ_behind line lines others place d = record { differ = d.differ; before = before }
  where
    before : (k : ℕ) → k < suc place → slice_get (line ∷ lines) k ≡ slice_get (line ∷ others) k
    before zero h = refl
    before (suc k) h = d.before k (omega arith)

-- the first line begins with the first byte
begins : (c : ℕ) (cs : List ℕ) → (rest : List ℕ) × (get_or (lines_in (c ∷ cs)) 0 [] ≡ c ∷ rest)
begins c cs = go (eqb c 10) refl
  where
    go : (b : Bool) → eqb c 10 ≡ b → (rest : List ℕ) × (get_or (lines_in (c ∷ cs)) 0 [] ≡ c ∷ rest)
    go true e = ([], rw e refl)
    go false e = (get_or (lines_in cs) 0 [], rw e (head_onto c (lines_in cs)))

-- a byte more of both

differ_fed : (x y : ℕ) (xs ys : List ℕ) (place : ℕ) → x ≡ 10 → y ≡ 10 → DifferAt (lines_in xs) (lines_in ys) place → DifferAt (lines_in (x ∷ xs)) (lines_in (y ∷ ys)) (suc place)
differ_fed x y xs ys place feed feed' d = rw (feed, feed') (differ_behind (10 ∷ []) (lines_in xs) (lines_in ys) place d)

differ_unfed : (x y : ℕ) (xs ys : List ℕ) (place : ℕ) → x ≡ y → (x ≡ 10 → ⊥) → DifferAt (lines_in xs) (lines_in ys) place → DifferAt (lines_in (x ∷ xs)) (lines_in (y ∷ ys)) place
differ_unfed x y xs ys place same other d =
    subst (λ c. DifferAt (lines_in (x ∷ xs)) (lines_in (c ∷ ys)) place) same (rw (ne_eqb x 10 other) (differ_onto x (lines_in xs) (lines_in ys) place d))

later : (line x y : ℕ) (xs ys : List ℕ) (n : ℕ) → x ≡ y → differ_from line (x ∷ xs) (y ∷ ys) ≡ Some n → differ_from (cond (eqb x 10) (line + 1) line) xs ys ≡ Some n
later line x y xs ys n same e = sym (ap (λ b. cond b (differ_from (cond (eqb x 10) (line + 1) line) xs ys) (Some line)) (eq-eqb x y same)) ∙ e

-- where a place is given, they differ there

pub record Found (line : ℕ) (xs ys : List ℕ) (n : ℕ) : Type 0 where
  pub place : ℕ
  pub counts : n ≡ line + place
  pub differ : DifferAt (lines_in xs) (lines_in ys) place

here : (line : ℕ) (xs ys : List ℕ) (n : ℕ) → line ≡ n → get_or (lines_in xs) 0 [] ≢ get_or (lines_in ys) 0 [] → Found line xs ys n
here line xs ys n e ne = record { place = 0; counts = omega (arith, e); differ = record { differ = ne; before = λ k h. absurd (omega arith) } }

pub found : (line : ℕ) (xs ys : List ℕ) (n : ℕ) → differ_from line xs ys ≡ Some n → Found line xs ys n
found line [] [] n e = cc
found line [] (y ∷ ys) n e = let b = begins y ys in here line [] (y ∷ ys) n (cc) (λ same. let f : [] ≡ y ∷ b.0 = same ∙ b.1 in cc)
found line (x ∷ xs) [] n e = let b = begins x xs in here line (x ∷ xs) [] n (cc) (λ same. let f : x ∷ b.0 ≡ [] = sym b.1 ∙ same in cc)
found line (x ∷ xs) (y ∷ ys) n e = go (cases_eq x y) (cases_eq x 10) (found (cond (eqb x 10) (line + 1) line) xs ys n)
  where
    go : (x ≡ y) ⊎ (x ≡ y → ⊥) → (x ≡ 10) ⊎ (x ≡ 10 → ⊥) → (differ_from (cond (eqb x 10) (line + 1) line) xs ys ≡ Some n → Found (cond (eqb x 10) (line + 1) line) xs ys n)
        → Found line (x ∷ xs) (y ∷ ys) n
    go (inr other) feed more =
        let b = begins x xs in
        let d = begins y ys in
        let later : Some line ≡ Some n = sym (ap (λ b. cond b (differ_from (cond (eqb x 10) (line + 1) line) xs ys) (Some line)) (ne_eqb x y other)) ∙ e in
        here line (x ∷ xs) (y ∷ ys) n (cc) (λ same. let f : x ∷ b.0 ≡ y ∷ d.0 = sym b.1 ∙ (same ∙ d.1) in other (cc))
    go (inl same) (inl feed) more =
        let f = more (later line x y xs ys n same e) in
        let counts : n ≡ (line + 1) + f.place = f.counts ∙ ap (λ b. cond b (line + 1) line + f.place) (eq-eqb x 10 feed) in
        record { place = suc f.place; counts = omega (arith, counts); differ = differ_fed x y xs ys f.place feed (sym same ∙ feed) f.differ }
    go (inl same) (inr no_feed) more =
        let f = more (later line x y xs ys n same e) in
        let counts : n ≡ line + f.place = f.counts ∙ ap (λ b. cond b (line + 1) line + f.place) (ne_eqb x 10 no_feed) in
        record { place = f.place; counts = counts; differ = differ_unfed x y xs ys f.place same no_feed f.differ }

-- and where none is given, they are equal
pub none_found : (line : ℕ) (xs ys : List ℕ) → differ_from line xs ys ≡ None → xs ≡ ys
none_found line [] [] e = refl
none_found line [] (y ∷ ys) e = cc
none_found line (x ∷ xs) [] e = cc
none_found line (x ∷ xs) (y ∷ ys) e = go (cases_eq x y) (none_found (cond (eqb x 10) (line + 1) line) xs ys)
  where
    go : (x ≡ y) ⊎ (x ≡ y → ⊥) → (differ_from (cond (eqb x 10) (line + 1) line) xs ys ≡ None → xs ≡ ys) → x ∷ xs ≡ y ∷ ys
    go (inl same) more = let f : xs ≡ ys = more (sym (ap (λ b. cond b (differ_from (cond (eqb x 10) (line + 1) line) xs ys) (Some line)) (eq-eqb x y same)) ∙ e) in cc
    go (inr other) more = let f : Some line ≡ None = sym (ap (λ b. cond b (differ_from (cond (eqb x 10) (line + 1) line) xs ys) (Some line)) (ne_eqb x y other)) ∙ e in cc

-- a differing line has the next number

pub first_difference : (xs ys : List ℕ) (n : ℕ) → differ_from 1 xs ys ≡ Some n → IsFirstDifference xs ys n
first_difference xs ys n e =
    let f = found 1 xs ys n e in
    record {
      lines = lines_in xs;
      others = lines_in ys;
      place = f.place;
      is_lines = lines_exist xs;
      is_others = lines_exist ys;
      counts = omega (arith, f.counts);
      differ = λ same. f.differ.differ (line_read (lines_in xs) (lines_in ys) f.place same);
      before = f.differ.before;
    }
  where
    line_read : (lines others : List (List ℕ)) (place : ℕ) → slice_get lines place ≡ slice_get others place → get_or lines place [] ≡ get_or others place []
    line_read [] [] place e = refl
    line_read [] (y ∷ ys) zero e = cc
    line_read [] (y ∷ ys) (suc place) e = line_read [] ys place e
    line_read (x ∷ xs) [] zero e = cc
    line_read (x ∷ xs) [] (suc place) e = line_read xs [] place e
    line_read (x ∷ xs) (y ∷ ys) zero e = cc
    line_read (x ∷ xs) (y ∷ ys) (suc place) e = line_read xs ys place e

-- what is found, or not, is what the files are asked for
pub answered : (xs ys : List ℕ) (line : Option ℕ) → line ≡ differ_from 1 xs ys → MatchOption line (xs ≡ ys) (IsFirstDifference xs ys)
answered xs ys None e = none_found 1 xs ys (sym e)
answered xs ys (Some line) e = first_difference xs ys line (sym e)

-- behind a front that both have

pub fronts_equal : (xs ys : List ℕ) (at end : ℕ) → at ≤ end → take at xs ≡ take at ys → take (end - at) (drop at xs) ≡ take (end - at) (drop at ys) → take end xs ≡ take end ys
fronts_equal xs ys at end h front more =
    let here : end ≡ at + (end - at) = omega (arith, h) in
    subst (λ n. take n xs ≡ take n ys) (sym here) (take-add at (end - at) xs ∙ (ap₂ (λ (a b : List ℕ). a ++ b) front more ∙ sym (take-add at (end - at) ys)))

differ_past : (line : ℕ) (front xs ys : List ℕ) → differ_from line (front ++ xs) (front ++ ys) ≡ differ_from (line + count_by (λ c. eqb c 10) front) xs ys
differ_past line [] xs ys = ap (λ n. differ_from n xs ys) (omega arith)
differ_past line (c ∷ cs) xs ys =
    rw (sum_by-cons (λ c. cond (eqb c 10) 1 0) c cs, eq-eqb c c refl) (
    differ_past (cond (eqb c 10) (line + 1) line) cs xs ys
    ∙ ap (λ n. differ_from n xs ys) (counts (eqb c 10) (count_by (λ c. eqb c 10) cs)))
  where
    counts : (b : Bool) (more : ℕ) → cond b (line + 1) line + more ≡ line + (cond b 1 0 + more)
    counts true more = omega arith
    counts false more = omega arith

pub behind_front : (xs ys : List ℕ) (front : ℕ) → take front xs ≡ take front ys
    → differ_from (1 + count_by (λ c. eqb c 10) (take front xs)) (drop front xs) (drop front ys) ≡ differ_from 1 xs ys
behind_front xs ys front same =
    sym (differ_past 1 (take front xs) (drop front xs) (drop front ys))
    ∙ ap₂ (λ (a b : List ℕ). differ_from 1 a b) (take-append-drop front xs) (ap (λ a. a ++ drop front ys) same ∙ take-append-drop front ys)

-- where one ends before the other
pub differ_end : (line : ℕ) (xs ys : List ℕ) (i : ℕ) → i ≡ min (length xs) (length ys) → length xs ≢ length ys → differ_from line (drop i xs) (drop i ys) ≡ Some line
differ_end line xs ys i e other = go (cases_lt (length xs) (length ys))
  where
    go : (length xs < length ys) ⊎ (length ys ≤ length xs) → differ_from line (drop i xs) (drop i ys) ≡ Some line
    go (inl less) = rw (drop_all i xs (omega (arith, e, less)), drop-cons ys i 0 (omega (arith, e, less))) refl
    go (inr more) =
        let long : length ys < length xs = omega (arith, more, other) in
        rw (drop-cons xs i 0 (omega (arith, e, long)), drop_all i ys (omega (arith, e, long))) refl

-- where the second file is a front of the first one and a rest

module _ (xs rest : List ℕ) (front : ℕ) (within : front ≤ length xs) where
  abbrev ys : List ℕ
  ys = take front xs ++ rest

  shared : length (take front xs) ≡ front
  shared = length-take-le front xs within

  same_fronts : (more : ℕ) → take more (drop front xs) ≡ take more rest → take (front + more) xs ≡ take (front + more) ys
  same_fronts more same =
      take-add front more xs ∙ (ap (λ zs. take front xs ++ zs) same
      ∙ sym (ap (λ n. take (n + more) ys) (sym shared) ∙ take-append-add (take front xs) rest more))

  pub answered_behind : (more : ℕ) (line : Option ℕ) → take more (drop front xs) ≡ take more rest
      → line ≡ differ_from (1 + count_by (λ c. eqb c 10) (take (front + more) xs)) (drop more (drop front xs)) (drop more rest) → MatchOption line (xs ≡ ys) (IsFirstDifference xs ys)
  answered_behind more line same e =
      let behind : drop (front + more) ys ≡ drop more rest = ap (λ n. drop (n + more) ys) (sym shared) ∙ drop-append-add (take front xs) rest more in
      answered xs ys line
      (e ∙ (ap₂ (λ (a b : List ℕ). differ_from (1 + count_by (λ c. eqb c 10) (take (front + more) xs)) a b) (drop-drop more front xs) (sym behind)
      ∙ behind_front xs ys (front + more) (same_fronts more same)))

  pub none_behind : drop front xs ≡ rest → xs ≡ ys
  none_behind same = sym (take-append-drop front xs) ∙ ap (λ zs. take front xs ++ zs) same
