-- A table of names, as it is made.
use Rattle.std.proofs.Common.{◌≡◌, ◌∙◌, ℕ, Bool, true, false, cond, List, [], ◌∷◌, ◌++◌, Bor, Option, Some, None, find, is_none, is_some, not, option_copied, option_map, refl, sym, ap, subst, bytes_eq, true≢false}
use Rattle.std.specs.Str.{str_to_ascii_lowercase}
use Rattle.std.proofs.lemmas.Slice.Eq.{bytes_eq-Decides}
use Rattle.indexmap.specs.IndexMap.{IndexMap, Updates, get}
use Rattle.edi_deliveries.specs.inner.Paths.{FindsFirst}

find_some : (p : List ℕ → Bool) (xs : List (List ℕ)) (x y : List ℕ) → find p xs ≡ Some y → find p (xs ++ x ∷ []) ≡ Some y
find_some p [] x y e = absurd (true≢false (sym (ap is_some e)))
find_some p (z ∷ zs) x y e = go (p z) e (find_some p zs x y)
  where
    go : (b : Bool) → cond b (Some z) (find p zs) ≡ Some y → (find p zs ≡ Some y → find p (zs ++ x ∷ []) ≡ Some y) → cond b (Some z) (find p (zs ++ x ∷ [])) ≡ Some y
    go true k more = k
    go false k more = more k

find_none : (p : List ℕ → Bool) (xs : List (List ℕ)) (x : List ℕ) → find p xs ≡ None → find p (xs ++ x ∷ []) ≡ cond (p x) (Some x) None
find_none p [] x e = refl
find_none p (z ∷ zs) x e = go (p z) e (find_none p zs x)
  where
    go : (b : Bool) → cond b (Some z) (find p zs) ≡ None → (find p zs ≡ None → find p (zs ++ x ∷ []) ≡ cond (p x) (Some x) None) → cond b (Some z) (find p (zs ++ x ∷ [])) ≡ cond (p x) (Some x) None
    go true k more = absurd (true≢false (ap is_some k))
    go false k more = more k

name_in : Bor (List ℕ) → List ℕ
name_in n = n.now

module _ {S : Type 0} (xs : List (List ℕ)) (x lower : List ℕ) (is : lower ≡ str_to_ascii_lowercase x) (table : IndexMap (List ℕ) (Bor (List ℕ)) S) (finds : FindsFirst xs table) where
  -- it is there already
  pub name_kept : is_some (get bytes_eq table lower) ≡ true → FindsFirst (xs ++ x ∷ []) table
  name_kept there key = go (find (λ name. bytes_eq key (str_to_ascii_lowercase name)) xs) refl
    where
      p : List ℕ → Bool
      p name = bytes_eq key (str_to_ascii_lowercase name)

      apart : (b : Bool) → p x ≡ b → find p xs ≡ None → option_map (λ (n : Bor (List ℕ)). n.now) (get bytes_eq table key) ≡ cond b (Some x) None
      apart false e none = finds key ∙ none
      apart true e none =
          let own : key ≡ lower = (bytes_eq-Decides key (str_to_ascii_lowercase x)).0 e ∙ sym is in
          absurd (true≢false (sym (subst (λ k. is_some (get bytes_eq table k) ≡ true) (sym own) there) ∙ nothing (get bytes_eq table key) (finds key ∙ none)))
        where
          nothing : (o : Option (Bor (List ℕ))) → option_map (λ (n : Bor (List ℕ)). n.now) o ≡ None → is_some o ≡ false
          nothing None k = refl
          nothing (Some v) k = ap is_some k

      go : (o : Option (List ℕ)) → find p xs ≡ o → option_map (λ (n : Bor (List ℕ)). n.now) (get bytes_eq table key) ≡ find p (xs ++ x ∷ [])
      go (Some y) e = finds key ∙ (e ∙ sym (find_some p xs x y e))
      go None e = apart (p x) refl e ∙ sym (find_none p xs x e)

  -- it is new, and added
  pub name_added : (new : IndexMap (List ℕ) (Bor (List ℕ)) S) (v : Bor (List ℕ)) → v.now ≡ x → get bytes_eq table lower ≡ None → Updates bytes_eq table new lower (Some v)
      → FindsFirst (xs ++ x ∷ []) new
  name_added new v same none updates key = go (bytes_eq lower key) refl
    where
      p : List ℕ → Bool
      p name = bytes_eq key (str_to_ascii_lowercase name)

      rest : (o : Option (List ℕ)) → find p xs ≡ o → (b : Bool) → p x ≡ b → bytes_eq lower key ≡ false → option_map (λ (n : Bor (List ℕ)). n.now) (get bytes_eq table key) ≡ find p (xs ++ x ∷ [])
      rest (Some y) e b f other = finds key ∙ (e ∙ sym (find_some p xs x y e))
      rest None e false f other = finds key ∙ (e ∙ sym (find_none p xs x e ∙ ap (λ b. cond b (Some x) None) f))
      rest None e true f other =
          absurd (true≢false (sym ((bytes_eq-Decides lower key).1 (is ∙ sym ((bytes_eq-Decides key (str_to_ascii_lowercase x)).0 f))) ∙ other))

      go : (b : Bool) → bytes_eq lower key ≡ b → option_map (λ (n : Bor (List ℕ)). n.now) (get bytes_eq new key) ≡ find p (xs ++ x ∷ [])
      go false e =
          let got : get bytes_eq new key ≡ get bytes_eq table key = updates.0 key ∙ ap (λ b. cond b (Some v) (get bytes_eq table key)) e in
          ap (option_map (λ (n : Bor (List ℕ)). n.now)) got ∙ rest (find p xs) refl (p x) refl e
      go true e =
          let own : lower ≡ key = (bytes_eq-Decides lower key).0 e in
          let got : get bytes_eq new key ≡ Some v = updates.0 key ∙ ap (λ b. cond b (Some v) (get bytes_eq table key)) e in
          let empty : find p xs ≡ None = sym (finds key) ∙ ap (λ k. option_map (λ (n : Bor (List ℕ)). n.now) (get bytes_eq table k)) (sym own) ∙ ap (option_map (λ (n : Bor (List ℕ)). n.now)) none in
          let here : p x ≡ true = (bytes_eq-Decides key (str_to_ascii_lowercase x)).1 (sym own ∙ is) in
          ap (option_map (λ (n : Bor (List ℕ)). n.now)) got ∙ (ap Some same ∙ sym (find_none p xs x empty ∙ ap (λ b. cond b (Some x) None) here))

-- ---- what was looked up

pub none_copied : {X : Type 0} (o : Option (Bor X)) (none : Bool) → is_some o ≡ not none → none ≡ true → option_copied o ≡ None
none_copied None none is e = refl
none_copied (Some v) none is e = absurd (true≢false (is ∙ ap not e))

pub some_copied : {X : Type 0} (o : Option (Bor X)) (none : Bool) → is_some o ≡ not none → none ≡ false → is_some (option_copied o) ≡ true
some_copied None none is e = is ∙ ap not e
some_copied (Some v) none is e = refl

-- a name that was looked for
pub none_found : (o : Option (Bor (List ℕ))) (n : Option (List ℕ)) (none : Bool) → option_map (λ (v : Bor (List ℕ)). v.now) o ≡ n → is_some o ≡ not none → is_none n ≡ none
none_found None n true e is = ap is_none (sym e)
none_found None n false e is = absurd (true≢false (sym is))
none_found (Some v) n true e is = absurd (true≢false is)
none_found (Some v) n false e is = ap is_none (sym e)
