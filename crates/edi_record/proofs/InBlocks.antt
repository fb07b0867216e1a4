-- Lists in blocks: which block has the element at a place.
use Rattle.std.proofs.Common.{◌≡◌, ℕ, zero, suc, ◌+◌, ◌-◌, ◌*◌, ◌/◌, ◌%◌, ◌<◌, ◌≤◌, List, [], ◌∷◌, ◌++◌}
use Rattle.std.proofs.Common.{length, get_or, flat_map, refl, sym, ap, ◌∙◌, arith, length-append, append_assoc}
use Rattle.std.specs.List.{AllByRecursion, slice_get}
use Rattle.edi_record.specs.inner.BlockLists.{blocks_joined, IsFull, AreBlocks}

module _ {X : Type 0} where
  get_left : (xs ys : List X) (k : ℕ) → k < length xs → slice_get (xs ++ ys) k ≡ slice_get xs k
  get_left [] ys k less = absurd (omega (arith, less))
  get_left (x ∷ xs) ys zero less = refl
  get_left (x ∷ xs) ys (suc k) less = get_left xs ys k (omega (arith, less))

  get_right : (xs ys : List X) (k : ℕ) → length xs ≤ k → slice_get (xs ++ ys) k ≡ slice_get ys (k - length xs)
  get_right [] ys k later = ap (slice_get ys) (omega arith)
  get_right (x ∷ xs) ys zero later = absurd (omega (arith, later))
  get_right (x ∷ xs) ys (suc k) later = get_right xs ys k (omega (arith, later)) ∙ ap (slice_get ys) (omega arith)

  full_long : (blocks : List (List X)) → AllByRecursion IsFull blocks
      → length (flat_map (λ xs. xs) blocks) ≡ length blocks * 256
  full_long [] all = refl
  full_long (b ∷ bs) all =
      let more = full_long bs all.1 in
      let both = length-append b (flat_map (λ xs. xs) bs) in
      omega (arith, all.0, more, both)

  -- the element at a place in a full block
  in_full : (blocks : List (List X)) (rest : List X) (k : ℕ) (d : List X) → AllByRecursion IsFull blocks
      → k / 256 < length blocks
      → slice_get (flat_map (λ xs. xs) blocks ++ rest) k ≡ slice_get (get_or blocks (k / 256) d) (k % 256)
  in_full [] rest k d all less = absurd (omega (arith, less))
  in_full (b ∷ bs) rest k d all less = go (k / 256) refl less (λ j within. in_full bs rest j d all.1 within)
    where
      whole : List X
      whole = flat_map (λ xs. xs) bs ++ rest

      parted : flat_map (λ xs. xs) (b ∷ bs) ++ rest ≡ b ++ whole
      parted = append_assoc b (flat_map (λ xs. xs) bs) rest

      go : (n : ℕ) → k / 256 ≡ n → n < length (b ∷ bs)
          → ((j : ℕ) → j / 256 < length bs → slice_get whole j ≡ slice_get (get_or bs (j / 256) d) (j % 256))
          → slice_get (flat_map (λ xs. xs) (b ∷ bs) ++ rest) k ≡ slice_get (get_or (b ∷ bs) n d) (k % 256)
      go zero e less more =
          let here : k < length b = omega (arith, e, all.0) in
          let same : k ≡ k % 256 = omega (arith, e) in
          ap (λ xs. slice_get xs k) parted ∙ (get_left b whole k here ∙ ap (slice_get b) same)
      go (suc n) e less more =
          let later : 256 ≤ k = omega (arith, e) in
          let place : (k - 256) / 256 ≡ n = omega (arith, e) in
          let same : (k - 256) % 256 ≡ k % 256 = omega (arith, later) in
          ap (λ xs. slice_get xs k) parted ∙ (get_right b whole k (omega (arith, later, all.0))
          ∙ (ap (λ n. slice_get whole (k - n)) all.0
          ∙ (more (k - 256) (omega (arith, place, less)) ∙ λ i. slice_get (get_or bs (place i) d) (same i))))

  module _ (closed : List (List X)) (last : List X) (are : AreBlocks closed last) where
    pub joined_long : length (blocks_joined closed last) ≡ length closed * 256 + length last
    unfolding blocks_joined
    joined_long = omega (arith, length-append (flat_map (λ xs. xs) closed) last, full_long closed are.full)

    module _ (place : ℕ) where
      pub closed_same : (b : List X) → place / 256 < length closed → b ≡ get_or closed (place / 256) b
          → slice_get (blocks_joined closed last) place ≡ slice_get b (place % 256)
      unfolding blocks_joined
      closed_same b less is = in_full closed last place b are.full less ∙ ap (λ c. slice_get c (place % 256)) (sym is)

      module _ (there : place < length (blocks_joined closed last)) (later : length closed ≤ place / 256) where
        at_last : place - length closed * 256 ≡ place % 256
        at_last = omega (arith, joined_long, are.short, there, later)

        pub last_there : place % 256 < length last
        last_there = omega (arith, joined_long, there, at_last, later)

        pub last_same : slice_get (blocks_joined closed last) place ≡ slice_get last (place % 256)
        unfolding blocks_joined
        last_same =
            let long = full_long closed are.full in
            get_right (flat_map (λ xs. xs) closed) last place (omega (arith, later, long))
            ∙ (ap (λ n. slice_get last (place - n)) long ∙ ap (slice_get last) at_last)

  -- a record more in the last block is one more of all
  pub joined_more : (closed : List (List X)) (last : List X) (x : X)
      → blocks_joined closed (last ++ x ∷ []) ≡ blocks_joined closed last ++ x ∷ []
  unfolding blocks_joined
  joined_more closed last x = sym (append_assoc (flat_map (λ xs. xs) closed) last (x ∷ []))

  -- a full block more leaves all full
  pub one_more_full : (closed : List (List X)) (b : List X) → AllByRecursion IsFull closed → IsFull b
      → AllByRecursion IsFull (closed ++ b ∷ [])
  one_more_full [] b all full = (full, tt)
  one_more_full (c ∷ cs) b all full = (all.0, one_more_full cs b all.1 full)
