-- The bytes of a pointer in front of its identifier.
use Rattle.std.proofs.Common.{◌≡◌, ℕ, ◌+◌, ◌-◌, refl, List, [], ◌∷◌, ◌++◌, length, take, drop, ap, sym, subst, ◌∙◌, arith, length-append}
use Rattle.std.specs.List.{between}
use Rattle.std.proofs.lemmas.List.{append_assoc, take_at, drop_at}
use Rattle.edi_line.specs.Bytes.{semicolon}
use Rattle.edi_record.specs.Texts.{PointerText}
use Rattle.edi_record.specs.inner.SharedParts.{IsStart, StartParts, parts_of_start, IsStartAt}
use Rattle.edi_record.proofs.TextParts.{pointer_one}

pub one_start : (bytes lot subset rty lot' subset' rty' : List ℕ) → IsStart bytes lot subset rty → IsStart bytes lot' subset' rty' → (lot ≡ lot') × (subset ≡ subset') × (rty ≡ rty')
one_start bytes lot subset rty lot' subset' rty' h k =
    let p : PointerText = record { lot = lot; subset = subset; rty = rty; rid = [] } in
    let q : PointerText = record { lot = lot'; subset = subset'; rty = rty'; rid = [] } in
    let e = pointer_one bytes p q h k in
    (ap (λ t. t.lot) e, ap (λ t. t.subset) e, ap (λ t. t.rty) e)

-- ---- where the parts lie

middle : (a b c : List ℕ) (i j : ℕ) → length a ≡ i → length b ≡ j - i → take (j - i) (drop i (a ++ (b ++ c))) ≡ b
middle a b c i j e f = ap (λ t. take (j - i) t) (drop_at a (b ++ c) i e) ∙ take_at b c (j - i) f

pub start_length : (bytes lot subset rty : List ℕ) → IsStart bytes lot subset rty → length bytes ≡ length lot + length subset + length rty + 3
start_length bytes lot subset rty h = ap length h.is ∙ grind (arith, length-append)

pub start_parts : (bytes lot subset rty : List ℕ) → IsStart bytes lot subset rty → parts_of_start bytes (length lot) (length lot + 1 + length subset) ≡ record { lot = lot; subset = subset; rty = rty }
start_parts bytes lot subset rty h =
    ap (λ l. (let x : StartParts = record { lot = l; subset = (at).subset; rty = (at).rty } in x)) first
    ∙ ap (λ l. (let x : StartParts = record { lot = lot; subset = l; rty = (at).rty } in x)) second
    ∙ ap (λ l. (let x : StartParts = record { lot = lot; subset = subset; rty = l } in x)) third
  where
    at : StartParts
    at = parts_of_start bytes (length lot) (length lot + 1 + length subset)

    first : take (length lot) bytes ≡ lot
    first = ap (λ t. take (length lot) t) h.is ∙ take_at lot _ _ refl

    second : between (length lot + 1) (length lot + 1 + length subset) bytes ≡ subset
    second =
        ap (between (length lot + 1) (length lot + 1 + length subset)) (h.is ∙ sym (append_assoc lot (semicolon ∷ []) _))
        ∙ middle (lot ++ semicolon ∷ []) subset _ _ _ (length-append lot (semicolon ∷ [])) (omega arith)

    front : List ℕ
    front = lot ++ semicolon ∷ (subset ++ semicolon ∷ [])

    third : between (length lot + 1 + length subset + 1) (length bytes - 1) bytes ≡ rty
    third =
        ap (between (length lot + 1 + length subset + 1) (length bytes - 1)) (h.is ∙ here)
        ∙ middle front rty (semicolon ∷ []) _ _ (grind (arith, length-append)) (omega (arith, start_length bytes lot subset rty h))
      where
        here : lot ++ semicolon ∷ (subset ++ semicolon ∷ (rty ++ semicolon ∷ [])) ≡ front ++ (rty ++ semicolon ∷ [])
        here = simp append_assoc

pub start_at : (bytes lot subset rty : List ℕ) → IsStart bytes lot subset rty → IsStartAt bytes (length lot) (length lot + 1 + length subset)
start_at bytes lot subset rty h = record {
  order = omega arith;
  room = omega (arith, start_length bytes lot subset rty h);
  is = subst (λ (p : StartParts). IsStart bytes p.lot p.subset p.rty) (sym (start_parts bytes lot subset rty h)) h;
}
