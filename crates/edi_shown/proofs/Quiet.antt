-- What a line shows is text, and has no control character.
use Rattle.std.proofs.Common.{◌≡◌, ◌∙◌, ◌++◌, ◌<◌, ◌/◌, ◌%◌, ℕ, zero, suc, Bool, true, false, List, [], ◌∷◌, refl, sym, ap, arith, append-nil, rules}
use Rattle.std.specs.Prelude.{◌==◌, if◌then◌else◌}
use Rattle.std.specs.Char.{IsScalar, encode_utf8, is_control}
use Rattle.std.specs.Int.{is_in_range}
use Rattle.std.specs.List.{flat_map, list_any}
use Rattle.std.specs.Str.{IsAscii, IsUtf8, all_scalars, chars, is_utf8}
use Rattle.std.proofs.lemmas.Bool.{or_from, and_parts}
use Rattle.std.proofs.lemmas.List.Folds.{list_any-append}
use Rattle.std.proofs.lemmas.Nat.{mod_below}
use Rattle.std.proofs.lemmas.Str.{IsUtf8-append, IsUtf8-encode, IsUtf8-from_ascii, IsUtf8-from_is_utf8, IsUtf8-nil, chars-IsAscii, chars-append, chars-nil, chars_from_encodes, scalars-chars}
use Rattle.edi_shown.specs.Shown.{backslash, escape, hex_digit, shown_byte, shown_bytes, shown_char}

-- text without a control character
abbrev IsQuiet : List ℕ → Type 0
IsQuiet bs = IsUtf8 bs × (list_any is_control (chars bs) ≡ false)

quiet_nil : IsQuiet []
quiet_nil = (IsUtf8-nil, ap (list_any is_control) chars-nil)

quiet_append : (xs ys : List ℕ) → IsQuiet xs → IsQuiet ys → IsQuiet (xs ++ ys)
quiet_append xs ys x y = (
  IsUtf8-append xs ys x.0 y.0,
  ap (list_any is_control) (chars-append xs ys x.0) ∙ list_any-append is_control (chars xs) (chars ys) ∙ or_from _ _ x.1 y.1,
)

quiet_each : (f : ℕ → List ℕ) → ((x : ℕ) → IsQuiet (f x)) → (xs : List ℕ) → IsQuiet (flat_map f xs)
quiet_each f each [] = quiet_nil
quiet_each f each (x ∷ xs) = quiet_append (f x) (flat_map f xs) (each x) (quiet_each f each xs)

quiet_ascii : (bs : List ℕ) → IsAscii bs → list_any is_control bs ≡ false → IsQuiet bs
quiet_ascii bs h e = (IsUtf8-from_ascii bs h, ap (list_any is_control) (chars-IsAscii bs h) ∙ e)

ascii_nil : IsAscii []
ascii_nil i = omega arith

ascii_add : (x : ℕ) (bs : List ℕ) → x < 128 → IsAscii bs → IsAscii (x ∷ bs)
ascii_add x bs h k zero = h
ascii_add x bs h k (suc i) = k i

-- a digit is a digit or a letter
digit_small : (n : ℕ) → n < 16 → (hex_digit n < 128) × (is_control (hex_digit n) ≡ false)
digit_small zero h = (omega arith, refl)
digit_small (suc zero) h = (omega arith, refl)
digit_small (suc (suc zero)) h = (omega arith, refl)
digit_small (suc (suc (suc zero))) h = (omega arith, refl)
digit_small (suc (suc (suc (suc zero)))) h = (omega arith, refl)
digit_small (suc (suc (suc (suc (suc zero))))) h = (omega arith, refl)
digit_small (suc (suc (suc (suc (suc (suc zero)))))) h = (omega arith, refl)
digit_small (suc (suc (suc (suc (suc (suc (suc zero))))))) h = (omega arith, refl)
digit_small (suc (suc (suc (suc (suc (suc (suc (suc zero)))))))) h = (omega arith, refl)
digit_small (suc (suc (suc (suc (suc (suc (suc (suc (suc zero))))))))) h = (omega arith, refl)
digit_small (suc (suc (suc (suc (suc (suc (suc (suc (suc (suc zero)))))))))) h = (omega arith, refl)
digit_small (suc (suc (suc (suc (suc (suc (suc (suc (suc (suc (suc zero))))))))))) h = (omega arith, refl)
digit_small (suc (suc (suc (suc (suc (suc (suc (suc (suc (suc (suc (suc zero)))))))))))) h = (omega arith, refl)
digit_small (suc (suc (suc (suc (suc (suc (suc (suc (suc (suc (suc (suc (suc zero))))))))))))) h = (omega arith, refl)
digit_small (suc (suc (suc (suc (suc (suc (suc (suc (suc (suc (suc (suc (suc (suc zero)))))))))))))) h = (omega arith, refl)
digit_small (suc (suc (suc (suc (suc (suc (suc (suc (suc (suc (suc (suc (suc (suc (suc zero))))))))))))))) h = (omega arith, refl)
digit_small (suc (suc (suc (suc (suc (suc (suc (suc (suc (suc (suc (suc (suc (suc (suc (suc n)))))))))))))))) h = absurd (omega (arith, h))

quiet_escape : (x : ℕ) → IsQuiet (escape x)
quiet_escape x =
    let high = digit_small (x / 16 % 16) (mod_below (x / 16) 16 (omega arith)) in
    let low = digit_small (x % 16) (mod_below x 16 (omega arith)) in
    quiet_ascii (escape x)
    (ascii_add 92 (120 ∷ hex_digit (x / 16 % 16) ∷ hex_digit (x % 16) ∷ []) (omega arith)
    (ascii_add 120 (hex_digit (x / 16 % 16) ∷ hex_digit (x % 16) ∷ []) (omega arith)
    (ascii_add (hex_digit (x / 16 % 16)) (hex_digit (x % 16) ∷ []) high.0 (ascii_add (hex_digit (x % 16)) [] low.0 ascii_nil))))
    (or_from (is_control (hex_digit (x / 16 % 16))) _ high.1 (or_from (is_control (hex_digit (x % 16))) false low.1 refl))

quiet_backslashes : IsQuiet (backslash ∷ backslash ∷ [])
quiet_backslashes = quiet_ascii (backslash ∷ backslash ∷ []) (ascii_add 92 (92 ∷ []) (omega arith) (ascii_add 92 [] (omega arith) ascii_nil)) refl

quiet_char_by : (c : ℕ) (is_backslash is_one : Bool) → IsScalar c → is_control c ≡ is_one
    → IsQuiet (if is_backslash then backslash ∷ backslash ∷ [] else if is_one then flat_map escape (encode_utf8 c) else encode_utf8 c)
quiet_char_by c true one s e = quiet_backslashes
quiet_char_by c false true s e = quiet_each escape quiet_escape (encode_utf8 c)
quiet_char_by c false false s e = (IsUtf8-encode c s, ap (list_any is_control) (sym (chars_from_encodes (c ∷ []) (encode_utf8 c) (IsUtf8-encode c s) (append-nil (encode_utf8 c)))) ∙ or_from (is_control c) false e refl)

quiet_char : (c : ℕ) → IsScalar c → IsQuiet (shown_char c)
quiet_char c s = quiet_char_by c (c == backslash) (is_control c) s refl

small : (x : ℕ) → is_in_range 32 126 x ≡ true → x < 128
small x e = search rules

plain : (x : ℕ) → is_in_range 32 126 x ≡ true → is_control x ≡ false
plain x e = search rules

quiet_byte_by : (x : ℕ) (is_backslash is_plain : Bool) → is_in_range 32 126 x ≡ is_plain
    → IsQuiet (if is_backslash then backslash ∷ backslash ∷ [] else if is_plain then x ∷ [] else escape x)
quiet_byte_by x true plain e = quiet_backslashes
quiet_byte_by x false true e = quiet_ascii (x ∷ []) (ascii_add x [] (small x e) ascii_nil) (or_from (is_control x) false (plain x e) refl)
quiet_byte_by x false false e = quiet_escape x

quiet_byte : (x : ℕ) → IsQuiet (shown_byte x)
quiet_byte x = quiet_byte_by x (x == backslash) (is_in_range 32 126 x) refl

quiet_chars : (cs : List ℕ) → all_scalars cs ≡ true → IsQuiet (flat_map shown_char cs)
quiet_chars [] s = quiet_nil
quiet_chars (c ∷ cs) s =
    let both = and_parts _ (all_scalars cs) s in
    quiet_append (shown_char c) (flat_map shown_char cs) (quiet_char c both.0) (quiet_chars cs both.1)

quiet_by : (bytes : List ℕ) (is_text : Bool) → is_utf8 bytes ≡ is_text
    → IsQuiet (if is_text then flat_map shown_char (chars bytes) else flat_map shown_byte bytes)
quiet_by bytes true e = quiet_chars (chars bytes) (scalars-chars bytes (IsUtf8-from_is_utf8 bytes e))
quiet_by bytes false e = quiet_each shown_byte quiet_byte bytes

pub quiet : (bytes : List ℕ) → IsQuiet (shown_bytes bytes)
quiet bytes = quiet_by bytes (is_utf8 bytes) refl
