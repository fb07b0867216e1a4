-- The texts of lines.
use Rattle.std.proofs.Common.{◌≡◌, ◌≢◌, ℕ, zero, suc, ◌/◌, ◌%◌, true, false, List, [], ◌∷◌, ◌++◌, get_or, Result, codes, Ok, refl, sym, ap, ◌∙◌, arith}
use Rattle.std.specs.List.{AllByRecursion, list_all}
use Rattle.std.proofs.lemmas.Bool.{and_parts}
use Rattle.std.proofs.lemmas.List.{append_assoc}
use Rattle.hex.specs.Hex.{encode_with, encode_lower, lower_digits, IsBytes, decode_of}
use Rattle.hex.proofs.HexLemmas.{decode_of-encode_lower}
use Rattle.sha2.specs.Sha256.{sha256}
use Rattle.edi_line.specs.Lines.{IsEnded}
use Rattle.edi_delivery.specs.NameParts.{is_word_byte, is_file_byte, is_file_name}
use Rattle.edi_manifest.specs.ManifestText.{IsManifestLine, digested_text, manifest_line, last_line}
use Rattle.edi_manifest.specs.inner.Reading.{HasNoByte}
use Rattle.edi_manifest.specs.declared.line.Digested.{Digested}
use Rattle.edi_manifest.specs.declared.line.Digested.TheVariants.{Schema, Sheet, Coordinates}
use Rattle.edi_manifest.specs.declared.line.ManifestLine.{ManifestLine}

-- ---- bytes that don't occur

all_append : (P : ℕ → Type 0) (xs ys : List ℕ) → AllByRecursion P xs → AllByRecursion P ys → AllByRecursion P (xs ++ ys)
all_append P [] ys h k = k
all_append P (x ∷ xs) ys h k = (h.0, all_append P xs ys h.1 k)

file_of_word : (c : ℕ) → is_word_byte c ≡ true → is_file_byte c ≡ true
file_of_word c e = rw e refl

all_of : (P : ℕ → Type 0) → ((c : ℕ) → is_file_byte c ≡ true → P c) → (cs : List ℕ) → list_all is_file_byte cs ≡ true → AllByRecursion P cs
all_of P to [] e = tt
all_of P to (c ∷ cs) e = let p = and_parts _ _ e in (to c p.0, all_of P to cs p.1)

name_bytes : (P : ℕ → Type 0) → ((c : ℕ) → is_file_byte c ≡ true → P c) → (name : List ℕ) → is_file_name name ≡ true → AllByRecursion P name
name_bytes P to [] e = tt
name_bytes P to (c ∷ cs) e = let p = and_parts _ _ e in (to c (file_of_word c p.0), all_of P to cs (and_parts _ _ p.1).0)

pub name_lacks : (byte : ℕ) → is_file_byte byte ≡ false → (name : List ℕ) → is_file_name name ≡ true → HasNoByte byte name
name_lacks byte apart name e = name_bytes (λ c. c ≢ byte) other name e
  where
    other : (c : ℕ) → is_file_byte c ≡ true → c ≢ byte
    other c f same = let lie : false ≡ true = sym apart ∙ (ap is_file_byte (sym same) ∙ f) in absurd cc

found_lacks : (byte : ℕ) (xs : List ℕ) → HasNoByte byte xs → 0 ≢ byte → (k : ℕ) → get_or xs k 0 ≢ byte
found_lacks byte [] h zero_apart k = zero_apart
found_lacks byte (x ∷ xs) h zero_apart zero = h.0
found_lacks byte (x ∷ xs) h zero_apart (suc k) = found_lacks byte xs h.1 zero_apart k

-- digits don't have a byte that isn't one
pub digits_lack_any : (byte : ℕ) → HasNoByte byte lower_digits → 0 ≢ byte → (bytes : List ℕ) → HasNoByte byte (encode_lower bytes)
unfolding encode_with
digits_lack_any byte h zero_apart [] = tt
digits_lack_any byte h zero_apart (b ∷ bytes) =
    (found_lacks byte lower_digits h zero_apart (b / 16), (found_lacks byte lower_digits h zero_apart (b % 16), digits_lack_any byte h zero_apart bytes))

pub digits_lack : (bytes : List ℕ) → HasNoByte 10 (encode_lower bytes)
digits_lack = digits_lack_any 10 (search arith) (search arith)

word_lacks_feed : (d : Digested) → HasNoByte 10 (digested_text d)
word_lacks_feed Schema = search arith
word_lacks_feed Sheet = search arith
word_lacks_feed Coordinates = search arith

-- ---- a line is ended

-- a line without its line feed
abbrev pub content_of_line : ManifestLine → List ℕ
content_of_line line = line.name ++ 32 ∷ (digested_text line.digested ++ encode_lower line.digest)

pub content_lacks : (line : ManifestLine) → IsManifestLine line → HasNoByte 10 (content_of_line line)
content_lacks line h =
    all_append (λ c. c ≢ 10) line.name _ (name_lacks 10 refl line.name h.name)
    (search arith, all_append (λ c. c ≢ 10) (digested_text line.digested) (encode_lower line.digest) (word_lacks_feed line.digested) (digits_lack line.digest))

pub line_is : (line : ManifestLine) → manifest_line line ≡ content_of_line line ++ 10 ∷ []
line_is line =
    ap (λ t. line.name ++ 32 ∷ t) (sym (append_assoc (digested_text line.digested) (encode_lower line.digest) (10 ∷ [])))
    ∙ sym (append_assoc line.name (32 ∷ (digested_text line.digested ++ encode_lower line.digest)) (10 ∷ []))

pub line_ended : (line : ManifestLine) → IsManifestLine line → IsEnded (manifest_line line)
line_ended line h = record { bytes = content_of_line line; no_feed = content_lacks line h; ended = line_is line }

-- ---- a text is of one line

pub cut_same : (byte : ℕ) (a b r s : List ℕ) → HasNoByte byte a → HasNoByte byte b → a ++ byte ∷ r ≡ b ++ byte ∷ s → (a ≡ b) × (r ≡ s)
cut_same byte [] [] r s h k e = (refl, (let same : r ≡ s = cc in same))
cut_same byte [] (y ∷ ys) r s h k e = let same : y ≡ byte = cc in absurd (k.0 same)
cut_same byte (x ∷ xs) [] r s h k e = let same : x ≡ byte = cc in absurd (h.0 same)
cut_same byte (x ∷ xs) (y ∷ ys) r s h k e =
    let head : x ≡ y = cc in
    let tail : xs ++ byte ∷ r ≡ ys ++ byte ∷ s = cc in
    let rest = cut_same byte xs ys r s h.1 k.1 tail in
    (ap (λ c. c ∷ xs) head ∙ ap (λ t. y ∷ t) rest.0, rest.1)

pub last_same : (xs ys : List ℕ) → xs ++ 10 ∷ [] ≡ ys ++ 10 ∷ [] → HasNoByte 10 xs → HasNoByte 10 ys → xs ≡ ys
last_same xs ys e h k = (cut_same 10 xs ys [] [] h k e).0

-- behind the space the words and what follows
pub word_same : (d e : Digested) (r s : List ℕ) → digested_text d ++ r ≡ digested_text e ++ s → (d ≡ e) × (r ≡ s)
word_same Schema Schema r s h = (refl, (let same : r ≡ s = cc in same))
word_same Sheet Sheet r s h = (refl, (let same : r ≡ s = cc in same))
word_same Coordinates Coordinates r s h = (refl, (let same : r ≡ s = cc in same))
word_same Schema Sheet r s h = let n : 99 ≡ 104 = ap (λ t. get_or t 1 0) h in absurd (omega (arith, n))
word_same Schema Coordinates r s h = let n : 115 ≡ 99 = ap (λ t. get_or t 0 0) h in absurd (omega (arith, n))
word_same Sheet Schema r s h = let n : 104 ≡ 99 = ap (λ t. get_or t 1 0) h in absurd (omega (arith, n))
word_same Sheet Coordinates r s h = let n : 115 ≡ 99 = ap (λ t. get_or t 0 0) h in absurd (omega (arith, n))
word_same Coordinates Schema r s h = let n : 99 ≡ 115 = ap (λ t. get_or t 0 0) h in absurd (omega (arith, n))
word_same Coordinates Sheet r s h = let n : 99 ≡ 115 = ap (λ t. get_or t 0 0) h in absurd (omega (arith, n))

pub bytes_same : (a b : List ℕ) → IsBytes a → IsBytes b → encode_lower a ≡ encode_lower b → a ≡ b
bytes_same a b h k e =
    let same : ◌≡◌ {A = Result (List ℕ) _} (Ok a) (Ok b) = sym (decode_of-encode_lower a h) ∙ (ap decode_of e ∙ decode_of-encode_lower b k) in
    cc

pub line_same : (a b : ManifestLine) → IsManifestLine a → IsManifestLine b → manifest_line a ≡ manifest_line b → a ≡ b
line_same a b h k e =
    let cut = cut_same 32 a.name b.name _ _ (name_lacks 32 refl a.name h.name) (name_lacks 32 refl b.name k.name) e in
    let words = word_same a.digested b.digested (encode_lower a.digest ++ 10 ∷ []) (encode_lower b.digest ++ 10 ∷ []) cut.1 in
    let digits = last_same (encode_lower a.digest) (encode_lower b.digest) words.1 (digits_lack a.digest) (digits_lack b.digest) in
    let digest = bytes_same a.digest b.digest h.digest k.digest digits in
    λ j. record { name = cut.0 j; digested = words.0 j; digest = digest j }

-- ---- the last line

pub last_ended : (body : List ℕ) → IsEnded (last_line body)
last_ended body = record {
  bytes = codes "digest " ++ encode_lower (sha256 body);
  no_feed = all_append (λ c. c ≢ 10) (codes "digest ") (encode_lower (sha256 body)) (search arith) (digits_lack (sha256 body));
  ended = sym (append_assoc (codes "digest ") (encode_lower (sha256 body)) (10 ∷ []));
}
