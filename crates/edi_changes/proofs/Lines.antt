-- The lines of a list, and the bytes that they don't have.
use Rattle.std.proofs.Common.{◌≡◌, ◌≢◌, ◌⊎◌, ◌∙◌, ◌*◌, ℕ, Bool, true, false, cond, List, [], ◌∷◌, ◌++◌, slice_index, length, codes, append_assoc, refl, sym, ap, subst, inl, inr, eqb, arith}
use Rattle.std.specs.List.{list_any}
use Rattle.std.proofs.lemmas.Bool.{eqb-true, eqb-false}
use Rattle.edi_line.proofs.EachElement.{each_of_both}
use Rattle.hex.specs.Hex.{encode_lower, lower_digits}
use Rattle.hex.proofs.HexLemmas.{length-encode_with}
use Rattle.edi_answers.specs.Hashes.{escaped_byte, escaped_name, is_escaped, mark_of}
use Rattle.edi_manifest.specs.inner.Reading.{HasNoByte}
use Rattle.edi_manifest.proofs.LineTexts.{digits_lack_any}
use Rattle.edi_changes.specs.ListText.{IsListLine, list_line, schema_word}
use Rattle.edi_changes.specs.declared.list.ListLine.{ListLine}
use Rattle.edi_changes.specs.inner.Reading.{mark}

-- ---- a byte as a line shows it

-- a backslash, a line feed, a carriage return, or another byte, which is shown as it is
abbrev pub IsShownAs : ℕ → List ℕ → Type 0
IsShownAs x text =
    ((x ≡ 92) × (text ≡ 92 ∷ 92 ∷ []))
    ⊎ (((x ≡ 10) × (text ≡ 92 ∷ 110 ∷ []))
    ⊎ (((x ≡ 13) × (text ≡ 92 ∷ 114 ∷ []))
    ⊎ ((x ≢ 92) × (x ≢ 10) × (text ≡ x ∷ []))))

pub shown_as : (x : ℕ) → IsShownAs x (escaped_byte x)
shown_as x = go (eqb x 92) refl (eqb x 10) refl (eqb x 13) refl
  where
    go : (a : Bool) → eqb x 92 ≡ a → (b : Bool) → eqb x 10 ≡ b → (c : Bool) → eqb x 13 ≡ c
        → IsShownAs x (cond a (92 ∷ 92 ∷ []) (cond b (92 ∷ 110 ∷ []) (cond c (92 ∷ 114 ∷ []) (x ∷ []))))
    go true e b f c g = inl (eqb-true x 92 e, refl)
    go false e true f c g = inr (inl (eqb-true x 10 f, refl))
    go false e false f true g = inr (inr (inl (eqb-true x 13 g, refl)))
    go false e false f false g = inr (inr (inr (eqb-false x 92 e, eqb-false x 10 f, refl)))

shown_lacks : (x : ℕ) (text : List ℕ) → IsShownAs x text → HasNoByte 10 text
shown_lacks x text (inl h) = subst (HasNoByte 10) (sym h.1) (search arith)
shown_lacks x text (inr (inl h)) = subst (HasNoByte 10) (sym h.1) (search arith)
shown_lacks x text (inr (inr (inl h))) = subst (HasNoByte 10) (sym h.1) (search arith)
shown_lacks x text (inr (inr (inr h))) = subst (HasNoByte 10) (sym h.2) (h.1, tt)

pub escaped_lacks : (name : List ℕ) → HasNoByte 10 (escaped_name name)
escaped_lacks [] = tt
escaped_lacks (x ∷ xs) = each_of_both (λ c. c ≢ 10) (escaped_byte x) (escaped_name xs) (shown_lacks x (escaped_byte x) (shown_as x)) (escaped_lacks xs)

-- ---- a line without its line feed

-- behind the word
abbrev pub behind_word : ListLine → List ℕ
behind_word line = mark_of line.name ++ (encode_lower line.digest ++ (codes "  " ++ escaped_name line.name))

abbrev pub content_of : ListLine → List ℕ
content_of line = schema_word line.is_schema ++ behind_word line

pub line_is : (line : ListLine) → list_line line ≡ content_of line ++ 10 ∷ []
line_is line =
    let word = schema_word line.is_schema in
    let marked = mark_of line.name in
    let digits = encode_lower line.digest in
    let name = escaped_name line.name in
    ap (λ t. word ++ (t ++ 10 ∷ [])) (append_assoc (marked ++ digits) (codes "  ") name ∙ append_assoc marked digits (codes "  " ++ name))
    ∙ sym (append_assoc word (behind_word line) (10 ∷ []))

word_lacks : (b : Bool) → HasNoByte 10 (schema_word b)
word_lacks true = search arith
word_lacks false = tt

mark_lacks : (b : Bool) → HasNoByte 10 (mark b)
mark_lacks true = search arith
mark_lacks false = tt

pub content_lacks : (line : ListLine) → HasNoByte 10 (content_of line)
content_lacks line =
    each_of_both (λ c. c ≢ 10) (schema_word line.is_schema) (behind_word line) (word_lacks line.is_schema)
    (each_of_both (λ c. c ≢ 10) (mark_of line.name) (encode_lower line.digest ++ (codes "  " ++ escaped_name line.name)) (mark_lacks (list_any is_escaped line.name))
    (each_of_both (λ c. c ≢ 10) (encode_lower line.digest) (codes "  " ++ escaped_name line.name) (digits_lack_any 10 (search arith) (search arith) line.digest)
    (each_of_both (λ c. c ≢ 10) (codes "  ") (escaped_name line.name) (search arith) (escaped_lacks line.name))))

-- ---- the first byte of digits

pub digits_long : (line : ListLine) → IsListLine line → length (encode_lower line.digest) ≡ 64
digits_long line h = twice (length (encode_lower line.digest)) (length line.digest) (length-encode_with lower_digits line.digest) h.long
  where
    twice : (digits bytes : ℕ) → digits ≡ 2 * bytes → bytes ≡ 32 → digits ≡ 64
    twice digits bytes a b = omega arith

first_apart : (byte : ℕ) (xs ys : List ℕ) → HasNoByte byte xs → length xs ≡ 64 → slice_index (xs ++ ys) 0 ≢ byte
first_apart byte [] ys h long = absurd (omega (arith, long))
first_apart byte (x ∷ xs) ys h long = h.0

-- no digit is a backslash or the first byte of a word
pub digits_unmarked : (line : ListLine) → IsListLine line → (rest : List ℕ) → slice_index (encode_lower line.digest ++ rest) 0 ≢ 92
digits_unmarked line h rest = first_apart 92 (encode_lower line.digest) rest (digits_lack_any 92 (search arith) (search arith) line.digest) (digits_long line h)

pub no_word : (line : ListLine) → IsListLine line → slice_index (behind_word line) 0 ≢ 115
no_word line h = go (list_any is_escaped line.name)
  where
    go : (b : Bool) → slice_index (mark b ++ (encode_lower line.digest ++ (codes "  " ++ escaped_name line.name))) 0 ≢ 115
    go true = search arith
    go false = first_apart 115 (encode_lower line.digest) (codes "  " ++ escaped_name line.name) (digits_lack_any 115 (search arith) (search arith) line.digest) (digits_long line h)
