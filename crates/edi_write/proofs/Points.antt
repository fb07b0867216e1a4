-- The line of a point: its text is short, and the digits of its length are put in behind it.
use Rattle.std.proofs.Common.{◌≡◌, ◌∙◌, sym, ap, ⊎_elim, ℕ, suc, ◌-◌, ◌/◌, ◌%◌, ◌^◌, ◌<◌, ◌≤◌, ℤ, pos, negsuc}
use Rattle.std.proofs.Common.{List, [], ◌∷◌, ◌++◌, length, take, drop, append_assoc, decimal, arith, lit<}
use Rattle.std.proofs.lemmas.Bool.{ne_eqb, cases_eq}
use Rattle.std.proofs.lemmas.Fmt.{length-decimal-le}
use Rattle.std.proofs.lemmas.List.{length-append}
use Rattle.std.proofs.Math.Seq.{take-append_seam, drop-append_seam}
use Rattle.edi_line.specs.Number.{size_of, MOST, size_text, signed_text, fraction_text}
use Rattle.edi_line.specs.Printing.{line_text, content_text, printed_zone}
use Rattle.edi_line.proofs.Spelled.{behind}
use Rattle.edi_record.specs.CanonicalZones.{point_zone}
use Rattle.edi_record.specs.Texts.{point_text}
use Rattle.edi_record.specs.declared.record.Point.{Point}
use Rattle.edi_write.specs.declared.heads.TheConstants.{COORDINATES}
use Rattle.edi_write.specs.inner.Heads.{headed, line_begun, with_own_length, with_length}
use Rattle.edi_write.proofs.Breaking.{printed_short}

-- ---- its text

fraction_short : (r : ℕ) → r < 1000000 → length (fraction_text r) ≤ 7
fraction_short r below = ⊎_elim
    (λ e. rw e (omega arith))
    (λ some. rw (ne_eqb r 0 some) (omega (arith, (behind 6 r below).short)))
    (cases_eq r 0)

size_short : (n : ℕ) → n ≤ MOST → length (size_text n) ≤ 16
unfolding size_text
size_short n small =
    let fits : n / 1000000 < 10 ^ 9 = omega arith in
    let wide : n / 1000000 < 2 ^ 64 = omega arith in
    let whole = length-decimal-le 9 (n / 1000000) (lit< tt) fits wide in
    let fraction = fraction_short (n % 1000000) (omega arith) in
    let both = length-append (decimal (n / 1000000)) (fraction_text (n % 1000000)) in
    omega (arith, whole, fraction, both)

pub signed_short : (m : ℤ) → size_of m ≤ MOST → length (signed_text m) ≤ 17
signed_short (pos n) small = omega (arith, size_short n small)
signed_short (negsuc n) small = omega (arith, size_short (suc n) small)

-- ---- its line

digits_put : (text : List ℕ) → with_own_length (line_begun COORDINATES text) ≡ content_text (headed COORDINATES text)
unfolding content_text
digits_put text =
    let long : length (line_begun COORDINATES text) - 8 ≡ length text = omega arith in
    ap (λ n. with_length (line_begun COORDINATES text) n) long

-- a line that is begun in a file, with its length put in, and ended
line_ended : (out text : List ℕ) → length text ≤ 72
    → (take (length out) (out ++ line_begun COORDINATES text)
    ++ with_own_length (drop (length out) (out ++ line_begun COORDINATES text))) ++ 13 ∷ 10 ∷ []
    ≡ out ++ printed_zone (headed COORDINATES text)
unfolding line_text
line_ended out text short =
    let line = line_begun COORDINATES text in
    let zone = headed COORDINATES text in
    rw (take-append_seam out line, drop-append_seam out line, digits_put text)
    (append_assoc out (content_text zone) (13 ∷ 10 ∷ []) ∙ ap (λ t. out ++ t) (sym (printed_short zone short)))

pub point_written : (out file : List ℕ) (p : Point)
    → file ≡ (out ++ line_begun COORDINATES []) ++ point_text p → length (point_text p) ≤ 54
    → (take (length out) file ++ with_own_length (drop (length out) file)) ++ 13 ∷ 10 ∷ [] ≡ out ++ printed_zone (point_zone p)
point_written out file p is short =
    rw (is ∙ append_assoc out (line_begun COORDINATES []) (point_text p))
    (line_ended out (point_text p) (omega (arith, short)))
