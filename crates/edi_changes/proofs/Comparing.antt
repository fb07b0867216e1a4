-- Whether two lists of entries have the same digests.
use Rattle.std.proofs.Common.{◌≡◌, ◌≢◌, ◌∙◌, ◌+◌, ◌<◌, ◌≤◌, ℕ, zero, suc, List, [], ◌∷◌, ◌++◌, length, map, get_or, take, refl, sym, ap, ap₂, arith}
use Rattle.std.proofs.lemmas.List.{length-map, take_all, take_more}
use Rattle.edi_changes.specs.declared.entry.Entry.{Entry}
use Rattle.edi_changes.specs.inner.Merging.{digest_in}

digest_at : (xs : List Entry) (i : ℕ) (d e : Entry) → i < length xs → e ≡ get_or xs i d → get_or (map digest_in xs) i [] ≡ e.digest
digest_at [] i d e h is = absurd (omega (arith, h))
digest_at (x ∷ xs) zero d e h is = ap digest_in (sym is)
digest_at (x ∷ xs) (suc i) d e h is = digest_at xs i d e (omega (arith, h)) is

module _ (xs ys : List Entry) (i : ℕ) (c d a b : Entry) (here : i < length xs) (long : length xs ≡ length ys) (is : a ≡ get_or xs i c) (is' : b ≡ get_or ys i d) where
  there : i < length ys
  there = omega (arith, here, long)

  -- one more digest is the same
  pub same_more : a.digest ≡ b.digest → take i (map digest_in xs) ≡ take i (map digest_in ys) → take (i + 1) (map digest_in xs) ≡ take (i + 1) (map digest_in ys)
  same_more e so_far =
      let one : i < length (map digest_in xs) = omega (arith, here, length-map xs digest_in) in
      let other : i < length (map digest_in ys) = omega (arith, there, length-map ys digest_in) in
      let digests : get_or (map digest_in xs) i [] ≡ get_or (map digest_in ys) i [] = digest_at xs i c a here is ∙ (e ∙ sym (digest_at ys i d b there is')) in
      take_more (map digest_in xs) i [] one ∙ (ap₂ (λ t e. t ++ e ∷ []) so_far digests ∙ sym (take_more (map digest_in ys) i [] other))

  -- one is another
  pub one_differs : a.digest ≢ b.digest → map digest_in xs ≢ map digest_in ys
  one_differs apart same = apart (sym (digest_at xs i c a here is) ∙ (ap (λ l. get_or l i []) same ∙ digest_at ys i d b there is'))

pub all_same : (xs ys : List Entry) (i : ℕ) → length xs ≤ i → length xs ≡ length ys → take i (map digest_in xs) ≡ take i (map digest_in ys) → map digest_in xs ≡ map digest_in ys
all_same xs ys i h long e =
    sym (take_all i (map digest_in xs) (omega (arith, h, length-map xs digest_in))) ∙ (e ∙ take_all i (map digest_in ys) (omega (arith, h, long, length-map ys digest_in)))

pub lengths_differ : (xs ys : List Entry) → length xs ≢ length ys → map digest_in xs ≢ map digest_in ys
lengths_differ xs ys apart same = apart (sym (length-map xs digest_in) ∙ (ap length same ∙ length-map ys digest_in))

pub some_digests : (xs : List Entry) → xs ≢ [] → map digest_in xs ≢ []
some_digests [] some none = some refl
some_digests (x ∷ xs) some none = cc
