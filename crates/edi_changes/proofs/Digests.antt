-- The digests that a list has of a subject.
use Rattle.std.proofs.Common.{◌≡◌, ◌+◌, ◌&&◌, ◌∙◌, ℕ, Bool, true, false, cond, List, [], ◌∷◌, ◌++◌, map, append-nil, refl, sym, ap, ap₂, zero-add, count_by, filter, bytes_eq, IsPermutation, Equal, is_gt}
use Rattle.std.specs.List.{AllByRecursion}
use Rattle.std.specs.Ordering.{ordering_then}
use Rattle.std.proofs.lemmas.Cmp.{tied_itself}
use Rattle.std.proofs.lemmas.Slice.Eq.{bytes_eq-Decides}
use Rattle.edi_line.proofs.EachElement.{each_weaker}
use Rattle.edi_record.specs.Orders.{bytes_cmp}
use Rattle.edi_schema.specs.Sorted.{NeverFalls, sort_by}
use Rattle.edi_schema.proofs.SortedLists.{count_by-cons, counts_from_permutation, sort_by-in_order, sort_by-same}
use Rattle.edi_manifest.proofs.ByteOrder.{bytes_total, bytes_exact}
use Rattle.edi_changes.specs.Changes.{digests_of}
use Rattle.edi_changes.specs.declared.entry.Entry.{Entry}
use Rattle.edi_changes.specs.inner.Merging.{digest_in, entry_cmp}

abbrev pub is_of : List ℕ → Entry → Bool
is_of s e = bytes_eq s e.subject

-- ---- what a test keeps

pub filter_none : {X : Type 0} (p : X → Bool) (xs : List X) → AllByRecursion (λ x. p x ≡ false) xs → filter p xs ≡ []
filter_none p [] h = refl
filter_none p (x ∷ xs) h = ap (λ b. cond b (x ∷ filter p xs) (filter p xs)) h.0 ∙ filter_none p xs h.1

filter_all : {X : Type 0} (p : X → Bool) (xs : List X) → AllByRecursion (λ x. p x ≡ true) xs → filter p xs ≡ xs
filter_all p [] h = refl
filter_all p (x ∷ xs) h = ap (λ b. cond b (x ∷ filter p xs) (filter p xs)) h.0 ∙ ap (λ l. x ∷ l) (filter_all p xs h.1)

kept_both : {X : Type 0} (b : Bool) (x : X) (all front back : List X) → all ≡ front ++ back → cond b (x ∷ all) all ≡ cond b (x ∷ front) front ++ back
kept_both true x all front back e = ap (λ l. x ∷ l) e
kept_both false x all front back e = e

filter_both : {X : Type 0} (p : X → Bool) (xs ys : List X) → filter p (xs ++ ys) ≡ filter p xs ++ filter p ys
filter_both p [] ys = refl
filter_both p (x ∷ xs) ys = kept_both (p x) x (filter p (xs ++ ys)) (filter p xs) (filter p ys) (filter_both p xs ys)

-- ---- parts of a list

-- a part without the subject adds nothing
pub digests_before : (s : List ℕ) (xs ys : List Entry) → AllByRecursion (λ (e : Entry). bytes_eq s e.subject ≡ false) ys → digests_of s (xs ++ ys) ≡ digests_of s xs
digests_before s xs ys h =
    ap (λ (l : List Entry). sort_by bytes_cmp (map digest_in l))
    (filter_both (is_of s) xs ys ∙ (ap (λ l. filter (is_of s) xs ++ l) (filter_none (is_of s) ys h) ∙ append-nil (filter (is_of s) xs)))

pub digests_behind : (s : List ℕ) (xs ys : List Entry) → AllByRecursion (λ (e : Entry). bytes_eq s e.subject ≡ false) xs → digests_of s (xs ++ ys) ≡ digests_of s ys
digests_behind s xs ys h =
    ap (λ (l : List Entry). sort_by bytes_cmp (map digest_in l)) (filter_both (is_of s) xs ys ∙ ap (λ l. l ++ filter (is_of s) ys) (filter_none (is_of s) xs h))

-- ---- entries of one subject, in order

pub run_rises : (s : List ℕ) (es : List Entry) → AllByRecursion (λ (e : Entry). e.subject ≡ s) es → NeverFalls entry_cmp es → NeverFalls bytes_cmp (map digest_in es)
run_rises s [] h up = tt
run_rises s (e ∷ es) h up = (below es h.1 up.0, run_rises s es h.1 up.1)
  where
    below : (ys : List Entry) → AllByRecursion (λ (y : Entry). y.subject ≡ s) ys → AllByRecursion (λ (y : Entry). is_gt (entry_cmp e y) ≡ false) ys
        → AllByRecursion (λ d. is_gt (bytes_cmp e.digest d) ≡ false) (map digest_in ys)
    below [] are k = tt
    below (y ∷ ys) are k =
        let tied : bytes_cmp e.subject y.subject ≡ Equal = ap₂ bytes_cmp h.0 are.0 ∙ tied_itself bytes_total s in
        (sym (ap (λ o. is_gt (ordering_then o (bytes_cmp e.digest y.digest))) tied) ∙ k.0, below ys are.1 k.1)

pub digests_of_run : (s : List ℕ) (es : List Entry) → AllByRecursion (λ (e : Entry). e.subject ≡ s) es → NeverFalls entry_cmp es → digests_of s es ≡ map digest_in es
digests_of_run s es h up =
    ap (λ (l : List Entry). sort_by bytes_cmp (map digest_in l))
    (filter_all (is_of s) es (each_weaker (λ (e : Entry). e.subject ≡ s) (λ (e : Entry). is_of s e ≡ true) (λ e is. (bytes_eq-Decides s e.subject).1 (sym is)) es h))
    ∙ sort_by-in_order bytes_cmp bytes_total bytes_exact (map digest_in es) (run_rises s es h up)

-- ---- a list in another order

counted : {X Y : Type 0} (f : X → Y) (p : X → Bool) (test : Y → Bool) (xs : List X) → count_by test (map f (filter p xs)) ≡ count_by (λ x. p x && test (f x)) xs
counted f p test [] = refl
counted {X} f p test (x ∷ xs) = go (p x) (counted f p test xs) ∙ sym (count_by-cons (λ (y : X). p y && test (f y)) x xs)
  where
    go : (b : Bool) → count_by test (map f (filter p xs)) ≡ count_by (λ (y : X). p y && test (f y)) xs
        → count_by test (map f (cond b (x ∷ filter p xs) (filter p xs))) ≡ cond (b && test (f x)) 1 0 + count_by (λ (y : X). p y && test (f y)) xs
    go true e = count_by-cons test (f x) (map f (filter p xs)) ∙ ap (λ n. cond (test (f x)) 1 0 + n) e
    go false e = e ∙ sym (zero-add (count_by (λ (y : X). p y && test (f y)) xs))

pub digests_moved : (s : List ℕ) (xs ys : List Entry) → IsPermutation xs ys → digests_of s ys ≡ digests_of s xs
digests_moved s xs ys moved =
    sort_by-same bytes_cmp bytes_total bytes_exact (map digest_in (filter (is_of s) ys)) (map digest_in (filter (is_of s) xs)) (λ test.
    counted digest_in (is_of s) test ys
    ∙ (sym (counts_from_permutation xs ys moved (λ (e : Entry). is_of s e && test (digest_in e))) ∙ sym (counted digest_in (is_of s) test xs)))
