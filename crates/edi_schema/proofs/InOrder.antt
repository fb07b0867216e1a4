-- Drafts in the order of their names.
use Rattle.std.proofs.Common.{◌≡◌, ℕ, ◌+◌, ◌<◌, ◌≤◌, Bool, true, false, List, [], ◌∷◌, ◌++◌, length, take, drop, map, get_or, None, refl, sym, ap, ◌∙◌, subst, arith, IsPermutation, Less}
use Rattle.std.specs.List.{IsDistinct}
use Rattle.std.specs.List.Sorted.{IsStrictlySortedBy}
use Rattle.std.specs.Ordering.{is_lt}
use Rattle.std.specs.Map.{lookup, keys_of}
use Rattle.std.proofs.lemmas.List.{get_or-map, length-map, map_more, take-append-drop, map-append, append_assoc}
use Rattle.std.proofs.lemmas.List.Sorted.{IsPermutation-map}
use Rattle.std.proofs.lemmas.Map.Keys.{IsDistinct-IsPermutation, apart_from_distinct, sorted_from_all_adjacent}
use Rattle.edi_record.specs.declared.name.Name.{Name}
use Rattle.edi_schema.specs.Classes.{is_name, name_cmp}
use Rattle.edi_schema.specs.inner.Drafts.{title_name, drafted}
use Rattle.edi_schema.specs.Sorted.{AlwaysRises}
use Rattle.edi_schema.specs.declared.class.Class.{Class}
use Rattle.edi_schema.specs.declared.draft.ClassDraft.{ClassDraft}
use Rattle.edi_schema.proofs.Names.{same_name, name_itself, less_name, absent_before}
use Rattle.edi_schema.proofs.Ordered.{name_total}

rises_from : (ns : List Name) → IsStrictlySortedBy name_cmp ns → AlwaysRises name_cmp ns
unfolding IsStrictlySortedBy
rises_from [] up = tt
rises_from (n ∷ ns) up = (up.0, rises_from ns up.1)

flips : (a b : Name) → is_name a b ≡ is_name b a
flips a b = go (is_name a b) (is_name b a) refl refl
  where
    go : (x y : Bool) → is_name a b ≡ x → is_name b a ≡ y → x ≡ y
    go true true e f = refl
    go false false e f = refl
    go true false e f = let t : true ≡ false = sym (ap (λ c. is_name c a) (sym (same_name a b e)) ∙ name_itself a) ∙ f in absurd cc
    go false true e f = let t : true ≡ false = sym (ap (λ c. is_name c b) (sym (same_name b a f)) ∙ name_itself b) ∙ e in absurd cc

abbrev names : List ClassDraft → List Name
names ds = keys_of (map drafted ds)

title_at : (ds : List ClassDraft) (k : ℕ) (d : ClassDraft) (e : Name) → k < length ds → get_or (names ds) k e ≡ title_name (get_or ds k d).title
title_at ds k d e below =
    let more : k < length (map drafted ds) = omega (arith, length-map ds drafted) in
    get_or-map (λ p. p.0) (map drafted ds) k (drafted d) e more ∙ ap (λ p. p.0) (get_or-map drafted ds k d (drafted d) below)

-- each title is no less than the one before it
abbrev pub AscendTitles : List ClassDraft → Type 0
AscendTitles ds = (k : ℕ) (d : ClassDraft) → 0 ≤ k → k + 1 < length ds → is_lt (name_cmp (title_name (get_or ds (k + 1) d).title) (title_name (get_or ds k d).title)) ≡ false

pub sorted_rises : (ds : List ClassDraft) → AscendTitles ds → IsDistinct is_name (names ds) → AlwaysRises name_cmp (names ds)
sorted_rises [] sorted distinct = tt
sorted_rises (x ∷ xs) sorted distinct = rises_from (names (x ∷ xs)) (sorted_from_all_adjacent name_total (names (x ∷ xs)) (title_name x.title) (λ k below. adjacent k below))
  where
    count : length (names (x ∷ xs)) ≡ length (x ∷ xs)
    count = length-map (map drafted (x ∷ xs)) (λ p. p.0) ∙ length-map (x ∷ xs) drafted

    adjacent : (k : ℕ) → k + 1 < length (names (x ∷ xs)) → name_cmp (get_or (names (x ∷ xs)) k (title_name x.title)) (get_or (names (x ∷ xs)) (k + 1) (title_name x.title)) ≡ Less
    adjacent k below =
        let here : k + 1 < length (x ∷ xs) = omega (arith, below, count) in
        let first = title_at (x ∷ xs) k x (title_name x.title) (omega (arith, here)) in
        let second = title_at (x ∷ xs) (k + 1) x (title_name x.title) here in
        let up = sorted k x (omega arith) here in
        let apart = apart_from_distinct is_name (names (x ∷ xs)) k (k + 1) (title_name x.title) distinct (omega arith) below in
        joined _ _ _ _ first second up apart
      where
        joined : (m n a b : Name) → m ≡ a → n ≡ b → is_lt (name_cmp b a) ≡ false → is_name m n ≡ false → name_cmp m n ≡ Less
        joined m n a b e f up apart = rw (e, f) (less_name a b up (sym (ap (λ c. is_name c b) e) ∙ (sym (ap (is_name m) f) ∙ apart)))

pub still_distinct : (ds es : List ClassDraft) → IsPermutation ds es → IsDistinct is_name (names ds) → IsDistinct is_name (names es)
still_distinct ds es moved distinct = IsDistinct-IsPermutation is_name flips (names ds) (names es) (IsPermutation-map (λ p. p.0) (map drafted ds) (map drafted es) (IsPermutation-map drafted ds es moved)) distinct

-- ---- the map of the classes, an entry at a time

split_names : (ds : List ClassDraft) (i : ℕ) (d : ClassDraft) → i < length ds → names ds ≡ names (take i ds) ++ (drafted (get_or ds i d)).0 ∷ names (drop (i + 1) ds)
split_names ds i d below =
    ap names (sym (take-append-drop (i + 1) ds))
    ∙ (ap keys_of (map-append drafted (take (i + 1) ds) (drop (i + 1) ds) ∙ ap (λ t. t ++ map drafted (drop (i + 1) ds)) (map_more drafted ds i d below))
    ∙ (map-append (λ p. p.0) (map drafted (take i ds) ++ drafted (get_or ds i d) ∷ []) (map drafted (drop (i + 1) ds))
    ∙ (ap (λ t. t ++ names (drop (i + 1) ds)) (map-append (λ p. p.0) (map drafted (take i ds)) (drafted (get_or ds i d) ∷ []))
    ∙ append_assoc (names (take i ds)) ((drafted (get_or ds i d)).0 ∷ []) (names (drop (i + 1) ds)))))

pub not_yet : (ds : List ClassDraft) (i : ℕ) (d : ClassDraft) (es : List (Name × Class)) (name : Name) → AlwaysRises name_cmp (names ds) → i < length ds → es ≡ map drafted (take i ds)
    → name ≡ (drafted (get_or ds i d)).0 → lookup (is_name name) es ≡ None
not_yet ds i d es name up below kept is =
    ap (λ n. lookup (is_name n) es) is ∙ (ap (lookup (is_name (drafted (get_or ds i d)).0)) kept
    ∙ absent_before (map drafted (take i ds)) (drafted (get_or ds i d)).0 (names (drop (i + 1) ds)) (subst (AlwaysRises name_cmp) (split_names ds i d below) up))

pub entry_more : (ds : List ClassDraft) (i : ℕ) (d : ClassDraft) (es new : List (Name × Class)) (name : Name) → i < length ds → es ≡ map drafted (take i ds)
    → name ≡ (drafted (get_or ds i d)).0 → new ≡ es ++ (name, (get_or ds i d).class) ∷ [] → new ≡ map drafted (take (i + 1) ds)
entry_more ds i d es new name below kept is pushed =
    pushed ∙ (ap (λ t. t ++ (name, (get_or ds i d).class) ∷ []) kept ∙ (ap (λ n. map drafted (take i ds) ++ (n, (get_or ds i d).class) ∷ []) is ∙ sym (map_more drafted ds i d below)))
