-- What is printed has no control character.
use Rattle.std.proofs.Common.{◌≡◌, ◌∙◌, ℕ, zero, suc, ◌+◌, ◌<◌, ◌≤◌, ◌/◌, ◌%◌, Bool, true, false, cond, ◌&&◌, ◌||◌, ◌==◌, nat_lt, List, [], ◌∷◌, ◌++◌, length, get_or, decimal, arith, refl, sym, eqb-true, ltb-false, ltb-true, ne_eqb}
use Rattle.std.specs.Prelude.{⊤}
use Rattle.std.specs.Char.{digit_char}
use Rattle.std.specs.Fmt.{digit_glyph, digits, digits_onto}
use Rattle.std.specs.List.{AllByRecursion}
use Rattle.edi_line.proofs.EachElement.{each_of_both}
use Rattle.json.specs.Token.{Token, begin_object, end_object, begin_array, end_array, key, string, number, boolean, null, bad}
use Rattle.json.specs.Print.{begins, ends, escape, escape_byte, escape_letter, print, print_from, separator, token_text}
use Rattle.edi_json.specs.inner.Lines.{IsPlainText}

-- ---- strings

either : (b : Bool) (x y : List ℕ) → (b ≡ true → IsPlainText x) → (b ≡ false → IsPlainText y) → IsPlainText (cond b x y)
either true x y p q = p refl
either false x y p q = q refl

abbrev IsLetter : ℕ → Type 0
IsLetter n = 0 < n → 32 ≤ n

choice : (b : Bool) (x y : ℕ) → (b ≡ true → IsLetter x) → IsLetter y → IsLetter (cond b x y)
choice true x y p q = p refl
choice false x y p q = q

one_of : (x a b : ℕ) (p q : Bool) → p ≡ (x == a) → q ≡ (x == b) → (p || q) ≡ true → 32 ≤ a → 32 ≤ b → 32 ≤ x
one_of x a b true q is_a is_b e low high = omega (arith, eqb-true x a (sym is_a), low)
one_of x a b false q is_a is_b e low high = omega (arith, eqb-true x b (sym is_b ∙ e), high)

letter : (x : ℕ) → IsLetter (escape_letter x)
letter x =
    choice ((x == 34) || (x == 92)) x _ (λ e h. one_of x 34 92 (x == 34) (x == 92) refl refl e (omega arith) (omega arith))
    (choice (x == 8) 98 _ (λ e h. omega arith) (choice (x == 12) 102 _ (λ e h. omega arith) (choice (x == 10) 110 _ (λ e h. omega arith)
    (choice (x == 13) 114 _ (λ e h. omega arith) (choice (x == 9) 116 0 (λ e h. omega arith) (λ h. absurd (omega (arith, h))))))))

picked : (b : Bool) (x y : ℕ) → 32 ≤ x → 32 ≤ y → 32 ≤ cond b x y
picked true x y p q = p
picked false x y p q = q

glyph : (d : ℕ) → 32 ≤ digit_char d
glyph d = picked (nat_lt d 10) (48 + d) (87 + d) (omega arith) (omega arith)

plain_byte : (x : ℕ) → IsPlainText (escape_byte x)
unfolding escape_byte
plain_byte x =
    either (nat_lt 0 (escape_letter x)) _ _ (λ e. (omega arith, (letter x (ltb-true 0 (escape_letter x) e), tt)))
    (λ e. either (nat_lt x 32) _ (x ∷ []) (λ low. (omega arith, (omega arith, (omega arith, (omega arith, (glyph (x / 16), (glyph (x % 16), tt)))))))
    (λ high. (ltb-false x 32 high, tt)))

plain_escape : (s : List ℕ) → IsPlainText (escape s)
plain_escape [] = tt
plain_escape (x ∷ s) = each_of_both _ (escape_byte x) (escape s) (plain_byte x) (plain_escape s)

plain_quoted : (s : List ℕ) → IsPlainText (34 ∷ (escape s ++ 34 ∷ []))
plain_quoted s = (omega arith, each_of_both _ (escape s) (34 ∷ []) (plain_escape s) (omega arith, tt))

-- ---- numbers

plain_digits : (k n : ℕ) (behind : List ℕ) → IsPlainText behind → IsPlainText (digits_onto k 10 false n behind)
plain_digits zero n behind h = h
plain_digits (suc k) n behind h =
    either (n / 10 == 0) _ _ (λ e. (figure (n % 10), h)) (λ e. plain_digits k (n / 10) (digit_glyph false (n % 10) ∷ behind) (figure (n % 10), h))
  where
    figure : (d : ℕ) → 32 ≤ digit_glyph false d
    figure d = picked (nat_lt d 10) (48 + d) (87 + d) (omega arith) (omega arith)

pub plain_decimal : (n : ℕ) → IsPlainText (decimal n)
unfolding digits
plain_decimal n = plain_digits 64 n [] tt

-- ---- tokens

-- the text of a number has no control character
abbrev pub IsPlainToken : Token → Type 0
IsPlainToken begin_object = ⊤
IsPlainToken end_object = ⊤
IsPlainToken begin_array = ⊤
IsPlainToken end_array = ⊤
IsPlainToken (key s) = ⊤
IsPlainToken (string s) = ⊤
IsPlainToken (number s) = IsPlainText s
IsPlainToken (boolean b) = ⊤
IsPlainToken null = ⊤
IsPlainToken bad = ⊤

plain_token : (t : Token) → IsPlainToken t → IsPlainText (token_text t)
plain_token begin_object h = (omega arith, tt)
plain_token end_object h = (omega arith, tt)
plain_token begin_array h = (omega arith, tt)
plain_token end_array h = (omega arith, tt)
plain_token (key s) h = each_of_both _ (34 ∷ (escape s ++ 34 ∷ [])) (58 ∷ []) (plain_quoted s) (omega arith, tt)
plain_token (string s) h = plain_quoted s
plain_token (number s) h = h
plain_token (boolean true) h = (omega arith, (omega arith, (omega arith, (omega arith, tt))))
plain_token (boolean false) h = (omega arith, (omega arith, (omega arith, (omega arith, (omega arith, tt)))))
plain_token null h = (omega arith, (omega arith, (omega arith, (omega arith, tt))))
plain_token bad h = tt

plain_from : (after : Bool) (ts : List Token) → AllByRecursion IsPlainToken ts → IsPlainText (print_from after ts)
unfolding print_from
plain_from after [] h = tt
plain_from after (t ∷ ts) h =
    each_of_both _ (separator after t) (token_text t ++ print_from (ends t) ts)
    (either (after && begins t) (44 ∷ []) [] (λ e. (omega arith, tt)) (λ e. tt))
    (each_of_both _ (token_text t) (print_from (ends t) ts) (plain_token t h.0) (plain_from (ends t) ts h.1))

pub plain_print : (ts : List Token) → AllByRecursion IsPlainToken ts → IsPlainText (print ts)
plain_print ts h = plain_from false ts h

-- ---- what has no control character

pub no_feed : (text : List ℕ) → IsPlainText text → (k d : ℕ) → k < length text → (get_or text k d == 10) ≡ false
no_feed [] h k d less = absurd (omega (arith, less))
no_feed (x ∷ text) h zero d less = ne_eqb x 10 (λ e. omega (arith, h.0, e))
no_feed (x ∷ text) h (suc k) d less = no_feed text h.1 k d (omega (arith, less))

pub no_return : (text : List ℕ) → IsPlainText text → (k : ℕ) → (get_or text k 0 == 13) ≡ false
no_return [] h k = refl
no_return (x ∷ text) h zero = ne_eqb x 13 (λ e. omega (arith, h.0, e))
no_return (x ∷ text) h (suc k) = no_return text h.1 k
