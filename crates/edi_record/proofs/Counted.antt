-- Counts as sentences, and as the tests that reading makes.
use Rattle.std.proofs.Common.{◌≡◌, ◌∙◌, ◌↔◌, ℕ, Bool, true, false, ◌&&◌, cond, eqb, ltb, List, [], ◌∷◌, length, Option, Some, None, IsTrue, refl, sym, ap, subst, inl, inr}
use Rattle.std.specs.Str.{all_ascii_digits}
use Rattle.std.specs.Str.Parse.{digits_value}
use Rattle.std.proofs.lemmas.Bool.{lt-ltb, ltb-true, eqb-true, eq-eqb}
use Rattle.edi_line.proofs.NumberRead.{digits_test, test_digits}
use Rattle.edi_record.specs.RecordRules.{Counts}
use Rattle.edi_record.specs.Texts.{IsCount}
use Rattle.edi_record.specs.inner.RecordRules.{counts_right}
use Rattle.edi_record.specs.inner.Texts.{count}

count_said : (text : List ℕ) (m : ℕ) → count text ≡ Some m → IsCount text m
unfolding count
count_said text m e = go (ltb 0 (length text)) refl (all_ascii_digits text) refl e
  where
    go : (a : Bool) → ltb 0 (length text) ≡ a → (b : Bool) → all_ascii_digits text ≡ b → cond (a && b) (Some (digits_value 10 text)) None ≡ Some m → IsCount text m
    go true p true q e = (ltb-true _ _ p, digits_test text q, (let h : digits_value 10 text ≡ m = cc in sym h))
    go true p false q e = absurd cc
    go false p b q e = absurd cc

count_read : (text : List ℕ) (m : ℕ) → IsCount text m → count text ≡ Some m
unfolding count
count_read text m h = rw (lt-ltb 0 (length text) h.0, test_digits text h.1) (ap (λ n. Some n) (sym h.2))

counted_one : (text : List ℕ) (n m : ℕ) → count text ≡ Some m → counts_right (text ∷ []) n ≡ eqb m n
counted_one text n m e = rw e refl

counted_none : (text : List ℕ) (n : ℕ) → count text ≡ None → counts_right (text ∷ []) n ≡ false
counted_none text n e = rw e refl

pub right_said : (texts : List (List ℕ)) (n : ℕ) → counts_right texts n ≡ true → Counts texts n
right_said [] n e = inl refl
right_said (text ∷ []) n e = go (count text) refl
  where
    go : (o : Option ℕ) → count text ≡ o → Counts (text ∷ []) n
    go None q = let f : false ≡ true = sym (counted_none text n q) ∙ e in absurd cc
    go (Some m) q = inr (text, refl, subst (IsCount text) (eqb-true m n (sym (counted_one text n m q) ∙ e)) (count_said text m q))
right_said (text ∷ other ∷ texts) n e = let f : false ≡ true = e in absurd cc

pub right_read : (texts : List (List ℕ)) (n : ℕ) → Counts texts n → counts_right texts n ≡ true
right_read texts n (inl e) = ap (λ t. counts_right t n) e
right_read texts n (inr h) = ap (λ t. counts_right t n) h.1 ∙ counted_one h.0 n n (count_read h.0 n h.2) ∙ eq-eqb n n refl

-- ---- one text, as whoever asks is told

pub count_told : (text : List ℕ) (n : ℕ) (b : Bool) → b ≡ counts_right (text ∷ []) n → IsTrue b ↔ IsCount text n
count_told text n b e = (λ t. told (right_said (text ∷ []) n (sym e ∙ t)), λ h. e ∙ right_read (text ∷ []) n (inr (text, refl, h)))
  where
    told : Counts (text ∷ []) n → IsCount text n
    told (inl none) = absurd cc
    told (inr h) = let same : text ≡ h.0 = cc in subst (λ t. IsCount t n) (sym same) h.2

pub told_count : (text : List ℕ) (n : ℕ) (b : Bool) → IsTrue b ↔ IsCount text n → b ≡ counts_right (text ∷ []) n
told_count text n true h = sym (right_read (text ∷ []) n (inr (text, refl, h.0 refl)))
told_count text n false h = go (counts_right (text ∷ []) n) refl
  where
    go : (r : Bool) → counts_right (text ∷ []) n ≡ r → false ≡ r
    go false e = refl
    go true e = h.1 ((count_told text n (counts_right (text ∷ []) n) refl).0 e)
