-- One reply after the other.
use Rattle.std.proofs.Common.{◌≡◌, ℕ, zero, suc, ◌+◌, ◌<◌, ◌≤◌, Bool, List, [], ◌∷◌, ◌++◌, Option, IsTrue, drop, take, get_or, length, refl, sym, ap, subst, arith, add-one, append_assoc, append-nil, ◌∙◌}
use Rattle.std.specs.Prelude.{flat_map, max}
use Rattle.edi_answers.proofs.Answering.{over}
pub use Rattle.edi_answers.proofs.Replies.{behind}
use Rattle.edi_deliveries.specs.Deliveries.{EachInTurn, Reply}

drop_suc : {X : Type 0} (xs : List X) (i : ℕ) (d : X) → i < length xs → drop i xs ≡ get_or xs i d ∷ drop (suc i) xs
drop_suc [] i d h = absurd (omega (arith, h))
drop_suc (x ∷ xs) zero d h = refl
drop_suc (x ∷ xs) (suc i) d h = drop_suc xs i d (omega (arith, h))

pub drop_at : {X : Type 0} (xs : List X) (i : ℕ) (d : X) → i < length xs → drop i xs ≡ get_or xs i d ∷ drop (i + 1) xs
drop_at xs i d h = drop_suc xs i d h ∙ ap (λ l. get_or xs i d ∷ l) (sym (ap (λ n. drop n xs) (add-one i)))

take_suc : {X : Type 0} (xs : List X) (i : ℕ) (d : X) → i < length xs → take (suc i) xs ≡ take i xs ++ get_or xs i d ∷ []
take_suc [] i d h = absurd (omega (arith, h))
take_suc (x ∷ xs) zero d h = refl
take_suc (x ∷ xs) (suc i) d h = ap (λ l. x ∷ l) (take_suc xs i d (omega (arith, h)))

pub take_at : {X : Type 0} (xs : List X) (i : ℕ) (d : X) → i < length xs → take (i + 1) xs ≡ take i xs ++ get_or xs i d ∷ []
take_at xs i d h = ap (λ n. take n xs) (add-one i) ∙ take_suc xs i d h

pub flat_push : {X Y : Type 0} (f : X → List Y) (xs : List X) (x : X) → flat_map f (xs ++ x ∷ []) ≡ flat_map f xs ++ f x
flat_push f [] x = append-nil (f x)
flat_push f (y ∷ ys) x = ap (λ l. f y ++ l) (flat_push f ys x) ∙ sym (append_assoc (f y) (flat_map f ys) (f x))

pub drop_all : {X : Type 0} (xs : List X) (i : ℕ) → length xs ≤ i → drop i xs ≡ []
drop_all [] zero h = refl
drop_all [] (suc i) h = refl
drop_all (x ∷ xs) zero h = absurd (omega (arith, h))
drop_all (x ∷ xs) (suc i) h = drop_all xs i (omega (arith, h))

-- what is replied to those that are left, behind what was replied so far, is what is replied to all
abbrev pub Completes : {X : Type 0} → (X → Reply) → List X → ℕ → Option (List ℕ) → Option (List ℕ) → Option (List ℕ) → Option (List ℕ) → Bool → Bool → ℕ → Type 0
Completes Says xs i o e p f pf ff worst =
    (q r : Option (List ℕ)) (qf rf : Bool) (t : ℕ) → (IsTrue pf → IsTrue qf) → (IsTrue ff → IsTrue rf)
    → EachInTurn Says (drop i xs) (over p q qf) (over f r rf) t → EachInTurn Says xs (over o q qf) (over e r rf) (max worst t)

module _ {X : Type 0} (Says : X → Reply) (xs : List X) (o e : Option (List ℕ)) where
  pub none_so_far : (of ef : Bool) → Completes Says xs 0 o e o e of ef 0
  none_so_far of ef q r qf rf t so se h =
      let is : t ≡ max 0 t = omega arith in subst (EachInTurn Says xs (over o q qf) (over e r rf)) is h

  pub one_more : (i : ℕ) (d : X) (p f p' f' : Option (List ℕ)) (pf ff pf' ff' : Bool) (worst status : ℕ) → i < length xs
      → Completes Says xs i o e p f pf ff worst
      → Says (get_or xs i d) (over p p' pf') (over f f' ff') status → (IsTrue pf → IsTrue pf') → (IsTrue ff → IsTrue ff')
      → Completes Says xs (i + 1) o e p' f' pf' ff' (max worst status)
  one_more i d p f p' f' pf ff pf' ff' worst status h so_far says so se q r qf rf t po pe rest =
      let cons : EachInTurn Says (get_or xs i d ∷ drop (i + 1) xs) (over p q qf) (over f r rf) (max status t) = record {
        between_out = p';
        between_err = f';
        out_failed = pf';
        err_failed = ff';
        out_stays = po;
        err_stays = pe;
        first = status;
        rest = t;
        one = says;
        other = rest;
        greater = refl;
      } in
      let is : max worst (max status t) ≡ max (max worst status) t = omega arith in
      subst (EachInTurn Says xs (over o q qf) (over e r rf)) is
      (so_far q r qf rf (max status t) (λ w. po (so w)) (λ w. pe (se w))
      (subst (λ l. EachInTurn Says l (over p q qf) (over f r rf) (max status t)) (sym (drop_at xs i d h)) cons))

  pub all_done : (i : ℕ) (p f : Option (List ℕ)) (pf ff : Bool) (worst : ℕ) → length xs ≤ i → Completes Says xs i o e p f pf ff worst
      → EachInTurn Says xs (over o p pf) (over e f ff) worst
  all_done i p f pf ff worst h so_far =
      let is : max worst 0 ≡ worst = omega arith in
      subst (EachInTurn Says xs (over o p pf) (over e f ff)) is
      (so_far p f pf ff 0 (λ w. w) (λ w. w) (subst (λ l. EachInTurn Says l (over p p pf) (over f f ff) 0) (sym (drop_all xs i h)) (refl, refl, refl)))
