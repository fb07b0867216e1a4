-- The places of the classes of the four kinds, as a loop notes them.
use Rattle.std.proofs.Common.{◌≡◌, ◌⊎◌, ℕ, zero, suc, ◌+◌, ◌<◌, ◌≤◌, Bool, true, false, cond, ◌&&◌, ltb, List, [], ◌∷◌, ◌++◌, length, take, drop, map, get_or, Option, Some, None, option_map, is_some, position, count_by, refl, sym, ap, ◌∙◌, subst, arith, inl, inr, one-add}
use Rattle.std.specs.List.{position_or_len}
use Rattle.std.proofs.lemmas.Bool.{ltb-true, ltb-false, lt-ltb}
use Rattle.std.proofs.lemmas.List.{map_more, take_all, take-append-drop, map-append, length-map, length-take-le}
use Rattle.std.proofs.lemmas.List.Sums.{sum_by-append}
use Rattle.edi_line.proofs.Truths.{some_is}
use Rattle.edi_record.specs.declared.name.Name.{Name}
use Rattle.edi_schema.specs.declared.role.Role.{Role}
use Rattle.edi_schema.specs.declared.role.Role.TheVariants.{Initial, Final, Left, Right, Plain}
use Rattle.edi_schema.specs.declared.class.Class.{Class}
use Rattle.edi_schema.specs.declared.by_role.ByRole.{ByRole}
use Rattle.edi_schema.specs.declared.draft.ClassDraft.{ClassDraft}
use Rattle.edi_schema.specs.inner.Drafts.{drafted}
use Rattle.edi_schema.specs.Roles.{is_plain, same_role, exchanged}
use Rattle.edi_schema.specs.Classes.{Classes, has_role}
use Rattle.edi_schema.specs.ByRole.{of_role, IsWith}
use Rattle.edi_schema.specs.inner.Places.{are_equal, are_paired, AreNoted, ArePlaces, AreUnpaired}
use Rattle.edi_schema.proofs.Paired.{one_role, itself, count-cons, found_at}

-- ---- first places, a step at a time

module _ {X : Type 0} (p : X → Bool) where
  stepped : (n m : ℕ) → cond (ltb (suc n) (suc m)) (Some (suc n)) None ≡ option_map suc (cond (ltb n m) (Some n) None)
  stepped n m = go (ltb n m) (ltb (suc n) (suc m)) (ltb-true n m) (ltb-false n m) (ltb-true (suc n) (suc m)) (ltb-false (suc n) (suc m))
    where
      go : (b c : Bool) → (b ≡ true → n < m) → (b ≡ false → m ≤ n) → (c ≡ true → suc n < suc m) → (c ≡ false → suc m ≤ suc n) → cond c (Some (suc n)) None ≡ option_map suc (cond b (Some n) None)
      go true true below above over under = refl
      go false false below above over under = refl
      go true false below above over under = let l : n < m = below refl in let g : suc m ≤ suc n = under refl in absurd (omega (arith, l, g))
      go false true below above over under = let l : m ≤ n = above refl in let g : suc n < suc m = over refl in absurd (omega (arith, l, g))

  pub position-here : (x : X) (xs : List X) → p x ≡ true → position p (x ∷ xs) ≡ Some 0
  position-here x xs e = rw e (rw (lt-ltb 0 (suc (length xs)) (omega arith)) refl)

  pub position-later : (x : X) (xs : List X) → p x ≡ false → position p (x ∷ xs) ≡ option_map suc (position p xs)
  position-later x xs e = rw (e, one-add) (stepped (position_or_len p xs) (length xs))

  no_suc : (o : Option ℕ) → option_map suc o ≡ None → o ≡ None
  no_suc None e = refl
  no_suc (Some n) e = absurd cc

  pub position_push_new : (xs : List X) (y : X) → position p xs ≡ None → p y ≡ true → position p (xs ++ y ∷ []) ≡ Some (length xs)
  position_push_new [] y none e = position-here y [] e
  position_push_new (x ∷ xs) y none e = go (p x) refl (λ h. position_push_new xs y h e)
    where
      go : (b : Bool) → p x ≡ b → (position p xs ≡ None → position p (xs ++ y ∷ []) ≡ Some (length xs)) → position p (x ∷ (xs ++ y ∷ [])) ≡ Some (suc (length xs))
      go true f more = let g : ◌≡◌ {A = Option ℕ} (Some 0) None = sym (position-here x xs f) ∙ none in absurd cc
      go false f more = position-later x (xs ++ y ∷ []) f ∙ ap (option_map suc) (more (no_suc (position p xs) (sym (position-later x xs f) ∙ none)))

  pub position_push_old : (xs : List X) (y : X) → p y ≡ false → position p (xs ++ y ∷ []) ≡ position p xs
  position_push_old [] y e = position-later y [] e
  position_push_old (x ∷ xs) y e = go (p x) refl (position_push_old xs y e)
    where
      go : (b : Bool) → p x ≡ b → position p (xs ++ y ∷ []) ≡ position p xs → position p (x ∷ (xs ++ y ∷ [])) ≡ position p (x ∷ xs)
      go true f more = position-here x (xs ++ y ∷ []) f ∙ sym (position-here x xs f)
      go false f more = position-later x (xs ++ y ∷ []) f ∙ (ap (option_map suc) more ∙ sym (position-later x xs f))

  pub none_counted : (xs : List X) → position p xs ≡ None → count_by p xs ≡ 0
  none_counted xs none = go (count_by p xs) refl
    where
      go : (n : ℕ) → count_by p xs ≡ n → n ≡ 0
      go zero e = refl
      go (suc n) e =
          let found = found_at p xs (omega (arith, e)) in
          let g : ◌≡◌ {A = Option ℕ} None (Some found.0) = sym none ∙ found.2 in absurd cc

  pub some_counted : (xs : List X) (k : ℕ) → position p xs ≡ Some k → 0 < count_by p xs
  some_counted [] k e = let g : ◌≡◌ {A = Option ℕ} None (Some k) = e in absurd cc
  some_counted (x ∷ xs) k e = go (p x) refl (some_counted xs)
    where
      later : (o : Option ℕ) → position p xs ≡ o → option_map suc o ≡ Some k → ((j : ℕ) → position p xs ≡ Some j → 0 < count_by p xs) → 0 < count_by p xs
      later None f g more = absurd cc
      later (Some j) f g more = more j f

      go : (b : Bool) → p x ≡ b → ((j : ℕ) → position p xs ≡ Some j → 0 < count_by p xs) → 0 < count_by p (x ∷ xs)
      go true f more = let total : count_by p (x ∷ xs) ≡ 1 + count_by p xs = count-cons p x xs ∙ ap (λ b. cond b 1 0 + count_by p xs) f in omega (arith, total)
      go false f more =
          let total : count_by p (x ∷ xs) ≡ 0 + count_by p xs = count-cons p x xs ∙ ap (λ b. cond b 1 0 + count_by p xs) f in
          let some = later (position p xs) refl (sym (position-later x xs f) ∙ e) more in
          omega (arith, total, some)

  pub count_joined : (xs ys : List X) → count_by p (xs ++ ys) ≡ count_by p xs + count_by p ys
  count_joined xs ys = sum_by-append (λ x. cond (p x) 1 0) xs ys

  pub count_push : (xs : List X) (y : X) (b : Bool) → p y ≡ b → count_by p (xs ++ y ∷ []) ≡ count_by p xs + cond b 1 0
  count_push xs y b e =
      let one : count_by p (y ∷ []) ≡ cond b 1 0 + 0 = count-cons p y [] ∙ ap (λ c. cond c 1 0 + 0) e in
      omega (arith, count_joined xs (y ∷ []), one)

-- ---- a class is noted

pub noted_more : (s : Classes) (e : Name × Class) (old new : ByRole (Option ℕ)) → AreNoted s old → IsWith old e.1.role (length s) new → is_some (of_role old e.1.role) ≡ false → AreNoted (s ++ e ∷ []) new
noted_more s e old new noted write free = record { place = λ r kind. (by_role r kind).0; one = λ r kind. (by_role r kind).1 }
  where
    no_position : (o : Option ℕ) → is_some o ≡ false → o ≡ None
    no_position None h = refl
    no_position (Some k) h = absurd cc

    by_role : (r : Role) → is_plain r ≡ false → (of_role new r ≡ position (has_role r) (s ++ e ∷ [])) × (count_by (has_role r) (s ++ e ∷ []) ≤ 1)
    by_role r kind = go (same_role r e.1.role) refl
      where
        go : (b : Bool) → same_role r e.1.role ≡ b → (of_role new r ≡ position (has_role r) (s ++ e ∷ [])) × (count_by (has_role r) (s ++ e ∷ []) ≤ 1)
        go true h =
            let same : r ≡ e.1.role = one_role r e.1.role h in
            let none : position (has_role r) s ≡ None = sym (noted.place r kind) ∙ (ap (of_role old) same ∙ no_position _ free) in
            let count = count_push (has_role r) s e true h in
            (write r kind ∙ (ap (λ b. cond b (Some (length s)) (of_role old r)) h ∙ sym (position_push_new (has_role r) s e none h)), omega (arith, count, none_counted (has_role r) s none))
        go false h =
            let count = count_push (has_role r) s e false h in
            (write r kind ∙ (ap (λ b. cond b (Some (length s)) (of_role old r)) h ∙ (noted.place r kind ∙ sym (position_push_old (has_role r) s e h))), omega (arith, count, noted.one r kind))

-- ---- a second class of a kind

placed_kind : (p : ByRole (Option ℕ)) (r : Role) → is_some (of_role p r) ≡ true → is_plain r ≡ false
placed_kind p Initial h = refl
placed_kind p Final h = refl
placed_kind p Left h = refl
placed_kind p Right h = refl
placed_kind p Plain h = absurd cc

pub second_found : (s more : Classes) (e : Name × Class) (p : ByRole (Option ℕ)) → AreNoted s p → is_some (of_role p e.1.role) ≡ true → AreUnpaired ((s ++ e ∷ []) ++ more)
second_found s more e p noted taken =
    let kind = placed_kind p e.1.role taken in
    let at = some_is _ taken in
    let some = some_counted (has_role e.1.role) s at.0 (sym (noted.place e.1.role kind) ∙ at.1) in
    let count = count_push (has_role e.1.role) s e true (itself e.1.role) in
    (e.1.role, kind, inl (omega (arith, some, count, count_joined (has_role e.1.role) (s ++ e ∷ []) more)))

-- ---- pairs

module _ (s : Classes) (p : ByRole (Option ℕ)) (noted : AreNoted s p) where
  one_there : (r : Role) (k : ℕ) → is_plain r ≡ false → of_role p r ≡ Some k → count_by (has_role r) s ≡ 1
  one_there r k kind e = omega (arith, some_counted (has_role r) s k (sym (noted.place r kind) ∙ e), noted.one r kind)

  none_there : (r : Role) → is_plain r ≡ false → of_role p r ≡ None → count_by (has_role r) s ≡ 0
  none_there r kind e = none_counted (has_role r) s (sym (noted.place r kind) ∙ e)

  same_counts : (r q : Role) → is_plain r ≡ false → is_plain q ≡ false → are_equal (of_role p r) (of_role p q) ≡ true → count_by (has_role r) s ≡ count_by (has_role q) s
  same_counts r q kind other alike = go (of_role p r) (of_role p q) refl refl alike
    where
      go : (a b : Option ℕ) → of_role p r ≡ a → of_role p q ≡ b → are_equal a b ≡ true → count_by (has_role r) s ≡ count_by (has_role q) s
      go (Some m) (Some n) e f h = one_there r m kind e ∙ sym (one_there q n other f)
      go None None e f h = none_there r kind e ∙ sym (none_there q other f)
      go (Some m) None e f h = absurd cc
      go None (Some n) e f h = absurd cc

  one_lacks : (r q : Role) → exchanged r ≡ q → exchanged q ≡ r → is_plain r ≡ false → is_plain q ≡ false → are_equal (of_role p r) (of_role p q) ≡ false → AreUnpaired s
  one_lacks r q to back kind other alike = go (of_role p r) (of_role p q) refl refl alike
    where
      go : (a b : Option ℕ) → of_role p r ≡ a → of_role p q ≡ b → are_equal a b ≡ false → AreUnpaired s
      go (Some m) (Some n) e f h = absurd cc
      go None None e f h = absurd cc
      go (Some m) None e f h = (r, kind, inr (omega (arith, one_there r m kind e), ap (λ x. count_by (has_role x) s) to ∙ none_there q other f))
      go None (Some n) e f h = (q, other, inr (omega (arith, one_there q n other f), ap (λ x. count_by (has_role x) s) back ∙ none_there r kind e))

  by_and : (a b : Bool) → (a && b) ≡ true → (a ≡ true) × (b ≡ true)
  by_and true true e = (refl, refl)
  by_and true false e = absurd cc
  by_and false b e = absurd cc

  by_nand : (a b : Bool) → (a && b) ≡ false → (a ≡ false) ⊎ (b ≡ false)
  by_nand true true e = absurd cc
  by_nand true false e = inr refl
  by_nand false b e = inl refl

  pub all_paired : are_paired p ≡ true → ArePlaces s p
  all_paired h = record { noted = noted; both = both }
    where
      ends : are_equal p.initial p.final_node ≡ true
      ends = (by_and (are_equal p.initial p.final_node) (are_equal p.left p.right) h).0

      faces : are_equal p.left p.right ≡ true
      faces = (by_and (are_equal p.initial p.final_node) (are_equal p.left p.right) h).1

      both : (role : Role) → is_plain role ≡ false → count_by (has_role role) s ≡ count_by (has_role (exchanged role)) s
      both Initial kind = same_counts Initial Final refl refl ends
      both Final kind = sym (same_counts Initial Final refl refl ends)
      both Left kind = same_counts Left Right refl refl faces
      both Right kind = sym (same_counts Left Right refl refl faces)
      both Plain kind = absurd cc

  pub some_unpaired : are_paired p ≡ false → AreUnpaired s
  some_unpaired h = go (by_nand (are_equal p.initial p.final_node) (are_equal p.left p.right) h)
    where
      go : (are_equal p.initial p.final_node ≡ false) ⊎ (are_equal p.left p.right ≡ false) → AreUnpaired s
      go (inl e) = one_lacks Initial Final refl refl refl refl e
      go (inr e) = one_lacks Left Right refl refl refl refl e

-- ---- over drafts

abbrev Front : List ClassDraft → ℕ → Classes
Front ds i = map drafted (take i ds)

pub draft_noted : (ds : List ClassDraft) (i : ℕ) (d : ClassDraft) (old new : ByRole (Option ℕ)) → i < length ds → AreNoted (Front ds i) old → is_some (of_role old (get_or ds i d).class.role) ≡ false
    → IsWith old (get_or ds i d).class.role i new → AreNoted (Front ds (i + 1)) new
draft_noted ds i d old new below noted free write =
    let count : length (Front ds i) ≡ i = length-map (take i ds) drafted ∙ length-take-le i ds (omega (arith, below)) in
    subst (λ s. AreNoted s new) (sym (map_more drafted ds i d below)) (noted_more (Front ds i) (drafted (get_or ds i d)) old new noted (subst (λ k. IsWith old (get_or ds i d).class.role k new) (sym count) write) free)

pub draft_repeats : (ds : List ClassDraft) (i : ℕ) (d : ClassDraft) (p : ByRole (Option ℕ)) → i < length ds → AreNoted (Front ds i) p → is_some (of_role p (get_or ds i d).class.role) ≡ true → AreUnpaired (map drafted ds)
draft_repeats ds i d p below noted taken =
    let found = second_found (Front ds i) (map drafted (drop (i + 1) ds)) (drafted (get_or ds i d)) p noted taken in
    let whole : map drafted ds ≡ (Front ds i ++ drafted (get_or ds i d) ∷ []) ++ map drafted (drop (i + 1) ds) =
    ap (map drafted) (sym (take-append-drop (i + 1) ds)) ∙ (map-append drafted (take (i + 1) ds) (drop (i + 1) ds) ∙ ap (λ t. t ++ map drafted (drop (i + 1) ds)) (map_more drafted ds i d below)) in
    subst AreUnpaired (sym whole) found

pub all_noted : (ds : List ClassDraft) (i : ℕ) (p : ByRole (Option ℕ)) → length ds ≤ i → AreNoted (Front ds i) p → AreNoted (map drafted ds) p
all_noted ds i p past noted = subst (λ l. AreNoted (map drafted l) p) (take_all i ds past) noted
