-- Names in a table.
use Rattle.std.proofs.Common.{◌≡◌, ◌∙◌, ℕ, ◌+◌, ◌<◌, ◌||◌, Bool, true, false, cond, List, [], ◌∷◌, ◌++◌, Bor, get_or, length, map, take, refl, sym, ap, ap₂, bytes_eq}
use Rattle.std.specs.Prelude.{filter, if◌then◌else◌}
use Rattle.std.specs.List.{list_any}
use Rattle.std.proofs.lemmas.List.{map-append, take_more}
use Rattle.std.proofs.lemmas.List.Folds.{list_any-append}
use Rattle.std.proofs.lemmas.Slice.Eq.{bytes_eq-Decides}
use Rattle.edi_line.proofs.Truths.{or_false}

-- the names behind these
abbrev pub texts : List (Bor (List ℕ)) → List (List ℕ)
texts names = map (λ (name : Bor (List ℕ)). name.now) names

-- they may be looked up as they are borrowed
pub any_text : (name : List ℕ) (keys : List (Bor (List ℕ))) → list_any (λ (other : Bor (List ℕ)). bytes_eq name other.now) keys ≡ list_any (bytes_eq name) (texts keys)
any_text name [] = refl
any_text name (k ∷ ks) = ap (λ b. bytes_eq name k.now || b) (any_text name ks)

any_last : (name : List ℕ) (xs : List (List ℕ)) (x : List ℕ) → list_any (bytes_eq name) (xs ++ x ∷ []) ≡ (list_any (bytes_eq name) xs || bytes_eq name x)
any_last name xs x = list_any-append (bytes_eq name) xs (x ∷ []) ∙ ap (λ b. list_any (bytes_eq name) xs || b) (or_false (bytes_eq name x))

-- one that is there already adds nothing
any_again : (name : List ℕ) (xs : List (List ℕ)) (x : List ℕ) → list_any (bytes_eq x) xs ≡ true → list_any (bytes_eq name) xs ≡ (list_any (bytes_eq name) xs || bytes_eq name x)
any_again name xs x there = go (bytes_eq name x) refl
  where
    or_true : (a : Bool) → a ≡ true → a ≡ (a || true)
    or_true true h = refl
    or_true false h = h

    go : (b : Bool) → bytes_eq name x ≡ b → list_any (bytes_eq name) xs ≡ (list_any (bytes_eq name) xs || b)
    go false e = sym (or_false (list_any (bytes_eq name) xs))
    go true e = or_true (list_any (bytes_eq name) xs) (ap (λ n. list_any (bytes_eq n) xs) ((bytes_eq-Decides name x).0 e) ∙ there)

-- a table in which a name is put has it and what was there
any_put : (name : List ℕ) (old new : List (Bor (List ℕ))) (k : Bor (List ℕ)) (is_old : Bool) → is_old ≡ list_any (bytes_eq k.now) (texts old) → new ≡ cond is_old old (old ++ k ∷ [])
    → list_any (bytes_eq name) (texts new) ≡ (list_any (bytes_eq name) (texts old) || bytes_eq name k.now)
any_put name old new k true is put = ap (λ ks. list_any (bytes_eq name) (texts ks)) put ∙ any_again name (texts old) k.now (sym is)
any_put name old new k false is put =
    ap (λ ks. list_any (bytes_eq name) (texts ks)) put ∙ (ap (list_any (bytes_eq name)) (map-append (λ (n : Bor (List ℕ)). n.now) old (k ∷ [])) ∙ any_last name (texts old) k.now)

-- over the names so far, and one more
pub put_more : (names old new : List (Bor (List ℕ))) (i : ℕ) (d : Bor (List ℕ)) → i < length names
    → new ≡ cond (list_any (λ (other : Bor (List ℕ)). bytes_eq (get_or names i d).now other.now) old) old (old ++ get_or names i d ∷ [])
    → ((name : List ℕ) → list_any (bytes_eq name) (texts old) ≡ list_any (bytes_eq name) (texts (take i names))) → (name : List ℕ)
    → list_any (bytes_eq name) (texts new) ≡ list_any (bytes_eq name) (texts (take (i + 1) names))
put_more names old new i d h put so_far name =
    let k = get_or names i d in
    let more : list_any (bytes_eq name) (texts (take (i + 1) names)) ≡ (list_any (bytes_eq name) (texts (take i names)) || bytes_eq name k.now) =
    ap (λ ks. list_any (bytes_eq name) (texts ks)) (take_more names i d h)
    ∙ (ap (list_any (bytes_eq name)) (map-append (λ (n : Bor (List ℕ)). n.now) (take i names) (k ∷ [])) ∙ any_last name (texts (take i names)) k.now) in
    any_put name old new k (list_any (λ (other : Bor (List ℕ)). bytes_eq k.now other.now) old) (any_text k.now old) put
    ∙ (ap (λ b. b || bytes_eq name k.now) (so_far name) ∙ sym more)

-- tests that say the same keep the same
pub filter_same : {X : Type 0} (p q : X → Bool) → ((x : X) → p x ≡ q x) → (xs : List X) → filter p xs ≡ filter q xs
filter_same p q same [] = refl
filter_same p q same (x ∷ xs) = ap₂ (λ (b : Bool) ys. if b then x ∷ ys else ys) (same x) (filter_same p q same xs)
