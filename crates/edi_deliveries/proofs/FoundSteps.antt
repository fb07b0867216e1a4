-- One finding after the other.
use Rattle.std.proofs.Common.{◌≡◌, ◌∙◌, ℕ, ◌+◌, ◌<◌, ◌≤◌, Bool, List, [], ◌∷◌, ◌++◌, Option, IsTrue, drop, get_or, length, refl, sym, ap, subst, arith, append_assoc, append-nil}
use Rattle.std.specs.Prelude.{max}
use Rattle.edi_manifest.specs.declared.line.ManifestLine.{ManifestLine}
use Rattle.edi_answers.proofs.Answering.{over}
use Rattle.edi_deliveries.specs.Found.{EachFound, Finding, OneFoundThenOther}
use Rattle.edi_deliveries.specs.inner.Finding.{AddsLines}
use Rattle.edi_deliveries.proofs.Steps.{drop_all, drop_at}

-- nothing is added
pub none_added : (a : List ManifestLine) (P : List ManifestLine → Type 0) → P [] → AddsLines a a P
none_added a P h = ([], sym (append-nil a), h)

-- one line is added
pub one_added : (a b : List ManifestLine) (line : ManifestLine) (P : List ManifestLine → Type 0) → b ≡ a ++ line ∷ [] → P (line ∷ []) → AddsLines a b P
one_added a b line P is h = (line ∷ [], is, h)

-- what is added is this as well
pub adds_map : (a b : List ManifestLine) (P Q : List ManifestLine → Type 0) → ((l : List ManifestLine) → P l → Q l) → AddsLines a b P → AddsLines a b Q
adds_map a b P Q f h = (h.0, h.1, f h.0 h.2)

-- one finding behind another
pub found_behind : (First Rest : Finding) (a b c : List ManifestLine) (e f r : Option (List ℕ)) (ff rf : Bool) (x y s : ℕ)
    → AddsLines a b (λ l. First l (over e f ff) x) → AddsLines b c (λ l. Rest l (over f r rf) y) → (IsTrue ff → IsTrue rf) → s ≡ max x y
    → AddsLines a c (λ l. OneFoundThenOther First Rest l (over e r rf) s)
found_behind First Rest a b c e f r ff rf x y s one other stays is = (
  one.0 ++ other.0,
  other.1 ∙ (ap (λ l. l ++ other.0) one.1 ∙ append_assoc a one.0 other.0),
  record {
    first_lines = one.0;
    rest_lines = other.0;
    between = f;
    failed = ff;
    stays = stays;
    first = x;
    rest = y;
    one = one.2;
    other = other.2;
    all = refl;
    greater = is;
  },
)

-- the findings of those that are left, behind what was found so far, are the findings of all
abbrev pub CompletesFound : {X : Type 0} → (X → Finding) → List X → ℕ → List ManifestLine → List ManifestLine → Option (List ℕ) → Option (List ℕ) → Bool → ℕ → Type 0
CompletesFound Found xs i a b e f ff worst =
    (c : List ManifestLine) (r : Option (List ℕ)) (rf : Bool) (t : ℕ) → (IsTrue ff → IsTrue rf)
    → AddsLines b c (λ l. EachFound Found (drop i xs) l (over f r rf) t) → AddsLines a c (λ l. EachFound Found xs l (over e r rf) (max worst t))

module _ {X : Type 0} (Found : X → Finding) (xs : List X) (a : List ManifestLine) (e : Option (List ℕ)) where
  pub none_found : (ff : Bool) → CompletesFound Found xs 0 a a e e ff 0
  none_found ff c r rf t stays h =
      let is : t ≡ max 0 t = omega arith in
      subst (λ s. AddsLines a c (λ l. EachFound Found xs l (over e r rf) s)) is h

  pub one_found : (i : ℕ) (d : X) (b b' : List ManifestLine) (f f' : Option (List ℕ)) (ff ff' : Bool) (worst status : ℕ) → i < length xs
      → CompletesFound Found xs i a b e f ff worst
      → AddsLines b b' (λ l. Found (get_or xs i d) l (over f f' ff') status) → (IsTrue ff → IsTrue ff')
      → CompletesFound Found xs (i + 1) a b' e f' ff' (max worst status)
  one_found i d b b' f f' ff ff' worst status h so_far here stays c r rf t later rest =
      let cons = found_behind (Found (get_or xs i d)) (EachFound Found (drop (i + 1) xs)) b b' c f f' r ff' rf status t (max status t) here rest later refl in
      let is : max worst (max status t) ≡ max (max worst status) t = omega arith in
      subst (λ s. AddsLines a c (λ l. EachFound Found xs l (over e r rf) s)) is
      (so_far c r rf (max status t) (λ w. later (stays w))
      (subst (λ ys. AddsLines b c (λ l. EachFound Found ys l (over f r rf) (max status t))) (sym (drop_at xs i d h)) cons))

  pub each_found : (i : ℕ) (b : List ManifestLine) (f : Option (List ℕ)) (ff : Bool) (worst : ℕ) → length xs ≤ i → CompletesFound Found xs i a b e f ff worst
      → AddsLines a b (λ l. EachFound Found xs l (over e f ff) worst)
  each_found i b f ff worst h so_far =
      let is : max worst 0 ≡ worst = omega arith in
      subst (λ s. AddsLines a b (λ l. EachFound Found xs l (over e f ff) s)) is
      (so_far b f ff 0 (λ w. w) (subst (λ ys. AddsLines b b (λ l. EachFound Found ys l (over f f ff) 0)) (sym (drop_all xs i h)) (none_added b _ (refl, refl, refl))))
