-- How steps over a folder go on.
use Rattle.std.proofs.Common.{◌≡◌, ◌≢◌, ◌⊎◌, ℕ, List, [], ◌++◌, Option, Some, None, IfSome, inl, inr, sym, ◌∙◌, ap, subst, ⊎_elim, arith}
use Rattle.std.specs.Io.KnownBytes.{Appends}
use Rattle.edi_files.specs.Folders.{Goes, Leavings}
use Rattle.edi_files.specs.Outputs.{IsWholeOrNew}

-- nothing was done
pub stays : (now : ℕ) (left : Leavings) (P : List ℕ → Option (List ℕ) → Type 0) → Goes now now left left P
stays now left P = record { later = omega arith; each = λ t path c le since. inl since }

-- what a step leaves has Q, where what it said has P
pub goes_map : (before now : ℕ) (past since : Leavings) (P Q : List ℕ → Option (List ℕ) → Type 0) → ((path : List ℕ) (c : Option (List ℕ)) → P path c → Q path c)
    → Goes before now past since P → Goes before now past since Q
goes_map before now past since P Q f h = record {
  later = h.later;
  each = λ t path c le left. ⊎_elim (λ old. inl old) (λ p. inr (f path c p)) (h.each t path c le left);
}

-- one step after the other
pub goes_on : (before mid now : ℕ) (past then since : Leavings) (P : List ℕ → Option (List ℕ) → Type 0) → Goes before mid past then P → Goes mid now then since P
    → Goes before now past since P
goes_on before mid now past then since P first second = record {
  later = omega (arith, first.later, second.later);
  each = λ t path c le left. ⊎_elim (first.each t path c le) (λ p. inr p) (second.each t path c (omega (arith, le, first.later)) left);
}

-- what was put into an empty file is what it tells
pub filled : (old new : Option (List ℕ)) (bytes : List ℕ) (c : Option (List ℕ)) → old ≡ Some [] → Appends old new bytes → IfSome new (λ b. c ≡ Some b)
    → (b : List ℕ) × (b ≡ bytes) × (c ≡ Some b)
filled None new bytes c e h is = absurd (cc)
filled (Some xs) None bytes c e h is = absurd h
filled (Some xs) (Some ys) bytes c e h is =
    let empty : xs ≡ [] = cc in
    (ys, h ∙ ap (λ (l : List ℕ). l ++ bytes) empty, is)

-- after a step in which a new file came to be at a name where nothing was
module _ (Spare : List ℕ → Type 0) (start mid end : ℕ) (past then since : Leavings) (out name : List ℕ) (drafted : Goes start mid past then (λ p c. (p ≢ out) × Spare p))
    (apart : (name ≢ out) × Spare name) where
  at_name : (W : List ℕ → Type 0) (p : List ℕ) (c : Option (List ℕ)) → p ≡ name → IsWholeOrNew out Spare W p c
  at_name W p c is = inr (subst (λ q. (q ≢ out) × Spare q) (sym is) apart)

  so_far : (W : List ℕ → Type 0) → Goes start mid past then (IsWholeOrNew out Spare W)
  so_far W = goes_map start mid past then (λ p c. (p ≢ out) × Spare p) (IsWholeOrNew out Spare W) (λ p c h. inr h) drafted

  -- the new file goes
  pub discarded : (W : List ℕ → Type 0) → Goes mid end then since (λ p c. p ≡ name) → Goes start end past since (IsWholeOrNew out Spare W)
  discarded W gone =
      goes_on start mid end past then since (IsWholeOrNew out Spare W) (so_far W)
      (goes_map mid end then since (λ p c. p ≡ name) (IsWholeOrNew out Spare W) (at_name W) gone)

  -- the new file, with these bytes, takes the path
  pub published : (empty full : Option (List ℕ)) (bytes : List ℕ) → empty ≡ Some [] → Appends empty full bytes
      → Goes mid end then since (λ p c. ((p ≡ out) × IfSome full (λ b. c ≡ Some b)) ⊎ (p ≡ name)) → Goes start end past since (IsWholeOrNew out Spare (λ b. b ≡ bytes))
  published empty full bytes is appends moved =
      goes_on start mid end past then since (IsWholeOrNew out Spare (λ b. b ≡ bytes)) (so_far (λ b. b ≡ bytes))
      (goes_map mid end then since (λ p c. ((p ≡ out) × IfSome full (λ b. c ≡ Some b)) ⊎ (p ≡ name)) (IsWholeOrNew out Spare (λ b. b ≡ bytes))
      (λ p c h. ⊎_elim (λ whole. inl (whole.0, filled empty full bytes c is appends whole.1)) (at_name (λ b. b ≡ bytes) p c) h) moved)
