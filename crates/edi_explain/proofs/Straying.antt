-- Pointers that name what they may not.
use Rattle.std.proofs.Common.{◌≡◌, ◌≢◌, ◌∙◌, ◌↔◌, ◌⊎◌, inl, inr, ℕ, Bool, not, List, Option, Some, None, codes, IsTrue, MatchOption, sym, ap, subst}
use Rattle.edi_record.specs.Texts.{IsPointer, PointerText}
use Rattle.edi_record.proofs.TextParts.{pointer_one}
use Rattle.edi_schema.specs.Classes.{Classes, place_of}
use Rattle.edi_explain.specs.AstrayZones.{AreApart, NamesNoAttribute}
use Rattle.edi_explain.specs.BreakingZones.{NamesType}

module _ (s : Classes) (text : List ℕ) (p : PointerText) (h : IsPointer text p) where
  pub no_attribute_type : p.rty ≢ codes "ATT" → NamesNoAttribute s text
  no_attribute_type n q k = inl (λ e. n (ap (λ (x : PointerText). x.rty) (pointer_one text p q h k) ∙ e))

  pub no_attribute_class : ¬ (p.rty ≢ codes "ATT") → (t : Bool) → IsTrue t ↔ (place_of s (record { rty = p.rty; rid = p.rid }) ≡ None) → IsTrue t ↔ NamesNoAttribute s text
  no_attribute_class not t e = (into, λ n. from (n p h))
    where
      into : IsTrue t → NamesNoAttribute s text
      into i q k = inr (ap (λ (x : PointerText). place_of s (record { rty = x.rty; rid = x.rid })) (pointer_one text q p k h) ∙ e.0 i)

      from : (p.rty ≢ codes "ATT") ⊎ (place_of s (record { rty = p.rty; rid = p.rid }) ≡ None) → IsTrue t
      from (inl n) = absurd (not n)
      from (inr none) = e.1 none

module _ (text other : List ℕ) (p q : PointerText) (h : IsPointer text p) (k : IsPointer other q) where
  pub apart_by_subset : ¬ (p.lot ≢ q.lot) → (t : Bool) → IsTrue t ↔ (p.subset ≢ q.subset) → IsTrue t ↔ AreApart text other
  apart_by_subset not t e = (λ i. (p, q, h, k, inr (e.0 i)), λ x. from x.0 x.1 (pointer_one text p x.0 h x.2) (pointer_one other q x.1 k x.3) x.4)
    where
      from : (a b : PointerText) → p ≡ a → q ≡ b → (a.lot ≢ b.lot) ⊎ (a.subset ≢ b.subset) → IsTrue t
      from a b f g (inl n) = absurd (not (λ r. n (sym (ap (λ (x : PointerText). x.lot) f) ∙ (r ∙ ap (λ (x : PointerText). x.lot) g))))
      from a b f g (inr n) = e.1 (λ r. n (sym (ap (λ (x : PointerText). x.subset) f) ∙ (r ∙ ap (λ (x : PointerText). x.subset) g)))

-- a pointer that names a record of a type
pub type_named : (text rty : List ℕ) (p : PointerText) → IsPointer text p → (t : Bool) → IsTrue t ↔ (p.rty ≡ rty) → IsTrue t ↔ NamesType rty text
type_named text rty p h t e = (λ i. (p, h, e.0 i), λ n. e.1 (ap (λ (x : PointerText). x.rty) (pointer_one text p n.0 h n.1) ∙ n.2))

pub in_neither : {X Y C : Type 0} → ¬ X → ¬ Y → X ⊎ (Y × C) → ⊥
in_neither left right (inl x) = left x
in_neither left right (inr y) = right y.0

pub some_of : {X : Type 0} (A : Type 0) (B : X → Type 0) (o : Option X) (x : X) → o ≡ Some x → MatchOption o A B → B x
some_of A B None x e h = absurd cc
some_of A B (Some y) x e h = let same : y ≡ x = cc in subst B same h

pub none_of : {X A : Type 0} (B : X → Type 0) (o : Option X) → o ≡ None → MatchOption o A B → A
none_of B None e h = h
none_of B (Some x) e h = absurd cc
