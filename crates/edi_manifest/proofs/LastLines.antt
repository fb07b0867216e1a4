-- What the last lines of manifests say of the lines before.
use Rattle.std.proofs.Common.{◌≡◌, ◌≢◌, ◌⊎◌, ◌∙◌, ◌/◌, ◌^◌, ◌<◌, ℕ, zero, suc, Bool, true, false, List, [], ◌∷◌, ◌++◌, slice_index, drop, refl, sym, ap, ap₂, inl, inr, true≢false, bytes_eq, IsPermutation, mod-lt, arith}
use Rattle.std.specs.Int.{w32, byte_at, bytes_high_first, to_be_bytes}
use Rattle.std.specs.List.{AllByRecursion}
use Rattle.std.proofs.lemmas.Slice.Eq.{bytes_eq-Decides}
use Rattle.hex.specs.Hex.{encode_lower, IsBytes}
use Rattle.sha2.specs.Sha256.{digest_bytes, sha256}
use Rattle.edi_manifest.specs.ManifestText.{IsManifestLine, last_line, manifest_body}
use Rattle.edi_manifest.specs.declared.line.ManifestLine.{ManifestLine}
use Rattle.edi_manifest.proofs.LineTexts.{bytes_same, digits_lack, last_same}
use Rattle.edi_manifest.proofs.SameLines.{same_body, text_same}

-- ---- a digest is bytes

abbrev AreBytes : List ℕ → Type 0
AreBytes bytes = AllByRecursion (λ c. c < 256) bytes

bytes_both : (xs ys : List ℕ) → AreBytes xs → AreBytes ys → AreBytes (xs ++ ys)
bytes_both [] ys h k = k
bytes_both (x ∷ xs) ys h k = (h.0, bytes_both xs ys h.1 k)

byte_below : (i n : ℕ) → byte_at i n < 256
byte_below zero n = mod-lt n {m = 256} (omega arith)
byte_below (suc i) n = mod-lt (n / 256 ^ suc i) {m = 256} (omega arith)

word_bytes : (k n : ℕ) → AreBytes (bytes_high_first k n)
word_bytes zero n = tt
word_bytes (suc k) n = (byte_below k n, word_bytes k n)

words_bytes : (h : List ℕ) (n : ℕ) → AreBytes (digest_bytes h n)
unfolding digest_bytes
words_bytes h zero = tt
words_bytes h (suc n) = bytes_both (digest_bytes h n) (to_be_bytes w32 (slice_index h n)) (words_bytes h n) (word_bytes 4 (slice_index h n))

at_each : (bytes : List ℕ) → AreBytes bytes → IsBytes bytes
at_each [] h i = omega arith
at_each (b ∷ bytes) h zero = h.0
at_each (b ∷ bytes) h (suc i) = at_each bytes h.1 i

pub digest_is_bytes : (text : List ℕ) → IsBytes (sha256 text)
unfolding sha256
digest_is_bytes text = at_each (sha256 text) (words_bytes _ 8)

-- ---- the lines by the last one

digest_same : (body other : List ℕ) → last_line body ≡ last_line other → sha256 body ≡ sha256 other
digest_same body other e =
    bytes_same (sha256 body) (sha256 other) (digest_is_bytes body) (digest_is_bytes other)
    (last_same (encode_lower (sha256 body)) (encode_lower (sha256 other)) (ap (drop 7) e) (digits_lack (sha256 body)) (digits_lack (sha256 other)))

pub lines_by_last : (lines others : List ManifestLine) → AllByRecursion IsManifestLine lines → AllByRecursion IsManifestLine others
    → last_line (manifest_body lines) ≡ last_line (manifest_body others)
    → IsPermutation lines others ⊎ ((manifest_body lines ≢ manifest_body others) × (sha256 (manifest_body lines) ≡ sha256 (manifest_body others)))
lines_by_last lines others h k e = go (bytes_eq (manifest_body lines) (manifest_body others)) refl
  where
    go : (b : Bool) → bytes_eq (manifest_body lines) (manifest_body others) ≡ b
        → IsPermutation lines others ⊎ ((manifest_body lines ≢ manifest_body others) × (sha256 (manifest_body lines) ≡ sha256 (manifest_body others)))
    go true same = inl (text_same lines others h k (ap₂ ◌++◌ ((bytes_eq-Decides (manifest_body lines) (manifest_body others)).0 same) e))
    go false apart =
        inr (λ same. true≢false (sym ((bytes_eq-Decides (manifest_body lines) (manifest_body others)).1 same) ∙ apart), digest_same (manifest_body lines) (manifest_body others) e)

pub last_by_lines : (lines others : List ManifestLine) → IsPermutation lines others → last_line (manifest_body lines) ≡ last_line (manifest_body others)
last_by_lines lines others moved = ap last_line (same_body lines others moved)
