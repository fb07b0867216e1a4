-- A text states one list of digests.
use Rattle.std.proofs.Common.{◌≡◌, ◌≢◌, ◌∙◌, ◌+◌, ◌≤◌, ℕ, Bool, true, false, List, [], ◌∷◌, ◌++◌, get_or, slice_index, length, map, take, drop, codes, length-append, refl, sym, ap, ap₂, subst, inl, inr, bytes_eq, IsPermutation, arith}
use Rattle.std.specs.List.{AllByRecursion, concat, list_any}
use Rattle.std.proofs.lemmas.List.Sorted.{IsPermutation-map, IsPermutation-refl}
use Rattle.std.proofs.lemmas.Slice.Eq.{bytes_eq-Decides}
use Rattle.hex.specs.Hex.{encode_lower}
use Rattle.edi_answers.specs.Hashes.{escaped_byte, escaped_name, is_escaped}
use Rattle.edi_manifest.specs.ManifestText.{last_line, manifest_body, manifest_lines, manifest_text}
use Rattle.edi_manifest.specs.declared.line.ManifestLine.{ManifestLine}
use Rattle.edi_manifest.proofs.LineTexts.{bytes_same, cut_same}
use Rattle.edi_manifest.proofs.SameLines.{text_same}
use Rattle.edi_changes.specs.ListText.{IsListLine, list_text, schema_word}
use Rattle.edi_changes.specs.Stated.{StatesDigests, list_entry, manifest_entry}
use Rattle.edi_changes.specs.declared.entry.Entry.{Entry}
use Rattle.edi_changes.specs.declared.list.ListLine.{ListLine}
use Rattle.edi_changes.specs.inner.Reading.{mark}
use Rattle.edi_changes.proofs.Lines.{IsShownAs, behind_word, content_lacks, content_of, digits_long, digits_unmarked, no_word, shown_as}
use Rattle.edi_changes.proofs.ReadLists.{digits_found, line_behind, nothing, one_found, pair_found, shown_some, shows_backslash, shows_feed, shows_return, word_found}

-- ---- names

other_first : (x k : ℕ) (rest : List ℕ) → x ≢ 92 → bytes_eq (take 2 (x ∷ rest)) (92 ∷ k ∷ []) ≡ false
other_first x k rest apart = go (bytes_eq (take 2 (x ∷ rest)) (92 ∷ k ∷ [])) refl
  where
    go : (b : Bool) → bytes_eq (take 2 (x ∷ rest)) (92 ∷ k ∷ []) ≡ b → bytes_eq (take 2 (x ∷ rest)) (92 ∷ k ∷ []) ≡ false
    go false is = is
    go true is = absurd (apart (ap (λ t. get_or t 0 0) ((bytes_eq-Decides (take 2 (x ∷ rest)) (92 ∷ k ∷ [])).0 is)))

byte_same : (x y : ℕ) (shown xs ys : List ℕ) → IsShownAs x shown → shown ++ xs ≡ escaped_byte y ++ ys → (x ≡ y) × (xs ≡ ys)
byte_same x y shown xs ys (inl h) e =
    let found = pair_found 92 92 shows_backslash (92 ∷ 92 ∷ xs) xs refl refl y ys (sym (ap (λ t. t ++ xs) h.1) ∙ e) in (h.0 ∙ found.0, found.1)
byte_same x y shown xs ys (inr (inl h)) e =
    let found = pair_found 110 10 shows_feed (92 ∷ 110 ∷ xs) xs refl refl y ys (sym (ap (λ t. t ++ xs) h.1) ∙ e) in (h.0 ∙ found.0, found.1)
byte_same x y shown xs ys (inr (inr (inl h))) e =
    let found = pair_found 114 13 shows_return (92 ∷ 114 ∷ xs) xs refl refl y ys (sym (ap (λ t. t ++ xs) h.1) ∙ e) in (h.0 ∙ found.0, found.1)
byte_same x y shown xs ys (inr (inr (inr h))) e =
    one_found (x ∷ xs) x xs refl (other_first x 110 xs h.0) (other_first x 114 xs h.0) (other_first x 92 xs h.0) y ys (sym (ap (λ t. t ++ xs) h.2) ∙ e)

name_same : (xs ys : List ℕ) → escaped_name xs ≡ escaped_name ys → xs ≡ ys
name_same [] [] e = refl
name_same [] (y ∷ ys) e = absurd (shown_some y (escaped_byte y) (escaped_name ys) (shown_as y) (sym e))
name_same (x ∷ xs) [] e = absurd (shown_some x (escaped_byte x) (escaped_name xs) (shown_as x) e)
name_same (x ∷ xs) (y ∷ ys) e =
    let both = byte_same x y (escaped_byte x) (escaped_name xs) (escaped_name ys) (shown_as x) e in
    ap₂ ◌∷◌ both.0 (name_same xs ys both.1)

-- ---- lines

module _ (a b : ListLine) (h : IsListLine a) (k : IsListLine b) where
  words_same : (s t : Bool) → schema_word s ++ behind_word a ≡ schema_word t ++ behind_word b → (s ≡ t) × (behind_word a ≡ behind_word b)
  words_same true t e = word_found (schema_word true ++ behind_word a) (behind_word a) refl refl t (behind_word b) (no_word b k) e
  words_same false true e = absurd (no_word a h (ap (λ x. slice_index x 0) e))
  words_same false false e = (refl, e)

  marks_same : (s t : Bool) (xs ys : List ℕ) → slice_index xs 0 ≢ 92 → slice_index ys 0 ≢ 92 → mark s ++ xs ≡ mark t ++ ys → xs ≡ ys
  marks_same true true xs ys p q e = ap (drop 1) e
  marks_same true false xs ys p q e = absurd (q (sym (ap (λ x. slice_index x 0) e)))
  marks_same false true xs ys p q e = absurd (p (ap (λ x. slice_index x 0) e))
  marks_same false false xs ys p q e = e

  content_same : content_of a ≡ content_of b → a ≡ b
  content_same e =
      let words = words_same a.is_schema b.is_schema e in
      let digits_a = encode_lower a.digest ++ (codes "  " ++ escaped_name a.name) in
      let behind = marks_same (list_any is_escaped a.name) (list_any is_escaped b.name) digits_a (encode_lower b.digest ++ (codes "  " ++ escaped_name b.name))
      (digits_unmarked a h (codes "  " ++ escaped_name a.name)) (digits_unmarked b k (codes "  " ++ escaped_name b.name)) words.1 in
      let own = digits_found digits_a (take 64 digits_a) (drop 64 digits_a) (drop 2 (drop 64 digits_a)) (encode_lower a.digest) (escaped_name a.name) refl refl refl (digits_long a h) refl in
      let other = digits_found digits_a (take 64 digits_a) (drop 64 digits_a) (drop 2 (drop 64 digits_a)) (encode_lower b.digest) (escaped_name b.name) refl refl refl (digits_long b k) behind in
      let digest = bytes_same a.digest b.digest h.digest k.digest (sym own.0 ∙ other.0) in
      let name = name_same a.name b.name (sym own.1 ∙ other.1) in
      λ i. record { is_schema = words.0 i; name = name i; digest = digest i }

line_some : (line : ListLine) (lines : List ListLine) → list_text (line ∷ lines) ≡ [] → ⊥
line_some line lines e = nothing (content_of line) (list_text lines) (sym (line_behind line lines) ∙ e)

lists_same : (ls ms : List ListLine) → AllByRecursion IsListLine ls → AllByRecursion IsListLine ms → list_text ls ≡ list_text ms → ls ≡ ms
lists_same [] [] h k e = refl
lists_same [] (m ∷ ms) h k e = absurd (line_some m ms (sym e))
lists_same (l ∷ ls) [] h k e = absurd (line_some l ls e)
lists_same (l ∷ ls) (m ∷ ms) h k e =
    let both = cut_same 10 (content_of l) (content_of m) (list_text ls) (list_text ms) (content_lacks l) (content_lacks m) (sym (line_behind l ls) ∙ (e ∙ line_behind m ms)) in
    ap₂ ◌∷◌ (content_same l m h.0 k.0 both.0) (lists_same ls ms h.1 k.1 both.1)

-- ---- a manifest is no list

content_long : (line : ListLine) → IsListLine line → 64 ≤ length (content_of line)
content_long line h =
    let rest = codes "  " ++ escaped_name line.name in
    let whole = length-append (schema_word line.is_schema) (behind_word line) in
    let marked = length-append (mark (list_any is_escaped line.name)) (encode_lower line.digest ++ rest) in
    let digits = length-append (encode_lower line.digest) rest in
    sums (length (content_of line)) (length (schema_word line.is_schema)) (length (behind_word line)) (length (mark (list_any is_escaped line.name))) (length (encode_lower line.digest ++ rest))
    (length (encode_lower line.digest)) (length rest) whole marked digits (digits_long line h)
  where
    sums : (all word behind marked digits front back : ℕ) → all ≡ word + behind → behind ≡ marked + digits → digits ≡ front + back → front ≡ 64 → 64 ≤ all
    sums all word behind marked digits front back a b c d = omega arith

first_line : (lines : List ManifestLine) → manifest_text lines ≡ codes "edicad manifest 1" ++ 10 ∷ (concat (manifest_lines lines) ++ last_line (manifest_body lines))
first_line lines = refl

no_list : (lines : List ManifestLine) (ls : List ListLine) → AllByRecursion IsListLine ls → manifest_text lines ≡ list_text ls → ⊥
no_list lines [] h e = nothing (codes "edicad manifest 1") (concat (manifest_lines lines) ++ last_line (manifest_body lines)) (sym (first_line lines) ∙ e)
no_list lines (l ∷ ls) h e =
    let both = cut_same 10 (codes "edicad manifest 1") (content_of l) (concat (manifest_lines lines) ++ last_line (manifest_body lines)) (list_text ls) (search arith) (content_lacks l)
    (sym (first_line lines) ∙ (e ∙ line_behind l ls)) in
    let short : 17 ≡ length (content_of l) = ap length both.0 in
    let long = content_long l h.0 in
    omega (arith, short, long)

-- ---- one text

pub one_list : (text : List ℕ) (a b : List Entry) → StatesDigests text a → StatesDigests text b → IsPermutation a b
one_list text a b (inl x) (inl y) =
    subst (λ l. IsPermutation l b) (sym x.3) (subst (λ l. IsPermutation (map manifest_entry x.0) l) (sym y.3)
    (IsPermutation-map manifest_entry x.0 y.0 (text_same x.0 y.0 x.1 y.1 (x.2 ∙ sym y.2))))
one_list text a b (inl x) (inr y) = absurd (no_list x.0 y.0 y.1 (x.2 ∙ sym y.2))
one_list text a b (inr x) (inl y) = absurd (no_list y.0 x.0 x.1 (y.2 ∙ sym x.2))
one_list text a b (inr x) (inr y) =
    let same : a ≡ b = x.3 ∙ (ap (map list_entry) (lists_same x.0 y.0 x.1 y.1 (x.2 ∙ sym y.2)) ∙ sym y.3) in
    subst (IsPermutation a) same (IsPermutation-refl a)
