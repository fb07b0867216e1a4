-- A zone of one line, of which a part is known before its value ends.
use Rattle.std.proofs.Common.{◌≡◌, ◌∙◌, refl, sym, ap, ℕ, ◌+◌, ◌/◌, ◌%◌, ◌≤◌, List, [], ◌∷◌, ◌++◌, set, length, length-append, append_assoc, arith, decimal}
use Rattle.edi_record.specs.CanonicalZones.{end_text}
use Rattle.edi_record.specs.Texts.{pointer_text}
use Rattle.edi_record.specs.declared.record.Kind.{Kind}
use Rattle.edi_record.specs.declared.record.Kind.TheVariants.{Pno, Par, Pfe, Fea, Lnk}
use Rattle.edi_line.specs.Printing.{line_text, content_text, printed_zone}
use Rattle.edi_write.specs.Layout.{identifier, kind_letter}
use Rattle.edi_write.specs.declared.heads.TheConstants.{END_TARGET, IDENTIFIER}
use Rattle.edi_write.specs.declared.heads.ZoneHead.{ZoneHead}
use Rattle.edi_write.specs.inner.Heads.{headed, line_begun, with_length}
use Rattle.edi_write.specs.inner.Numbered.{numbered_name, pointer_begun}
use Rattle.edi_write.proofs.Breaking.{printed_short}

-- a line as far as a part of its value
abbrev begun : ZoneHead → ℕ → List ℕ → List ℕ
begun head len first = head.code ++ (head.nature ∷ head.format ∷ (48 + len / 10) ∷ (48 + len % 10) ∷ 58 ∷ first)

lines_joined : (out : List ℕ) (head : ZoneHead) (first second : List ℕ) → out ++ (begun head (length (first ++ second)) first ++ (second ++ 13 ∷ 10 ∷ [])) ≡ out ++ line_text (headed head (first ++ second))
unfolding line_text content_text
lines_joined out head first second = simp append_assoc

-- the rest of the value and the end of the line make it the zone
joined : (out : List ℕ) (head : ZoneHead) (first second : List ℕ) → length first + length second ≤ 72
    → out ++ (begun head (length first + length second) first ++ (second ++ 13 ∷ 10 ∷ [])) ≡ out ++ printed_zone (headed head (first ++ second))
joined out head first second short =
    let long = length-append first second in
    let line = printed_short (headed head (first ++ second)) (omega (arith, long, short)) in
    ap (λ n. out ++ (begun head n first ++ (second ++ 13 ∷ 10 ∷ []))) (sym long)
    ∙ (lines_joined out head first second ∙ ap (λ t. out ++ t) (sym line))

-- the digits of the length are put in

pointer_put : (first : List ℕ) (len : ℕ) → set (set (line_begun END_TARGET first) 5 (48 + len / 10)) 6 (48 + len % 10) ≡ begun END_TARGET len first
pointer_put first len = refl

identifier_put : (first : List ℕ) (len : ℕ) → set (set (line_begun IDENTIFIER first) 5 (48 + len / 10)) 6 (48 + len % 10) ≡ begun IDENTIFIER len first
identifier_put first len = refl

letter_length : (kind : Kind) → length (kind_letter kind) ≡ 1
letter_length Pno = refl
letter_length Par = refl
letter_length Pfe = refl
letter_length Fea = refl
letter_length Lnk = refl

pointer_length : (kind : Kind) → length (pointer_begun kind) ≡ 13
pointer_length Pno = refl
pointer_length Par = refl
pointer_length Pfe = refl
pointer_length Fea = refl
pointer_length Lnk = refl

pointer_is : (kind : Kind) (number : ℕ) → pointer_begun kind ++ decimal number ≡ end_text (numbered_name kind number)
unfolding pointer_text
pointer_is Pno number = refl
pointer_is Par number = refl
pointer_is Pfe number = refl
pointer_is Fea number = refl
pointer_is Lnk number = refl

pub identifier_written : (out front digits : List ℕ) (kind : Kind) (number len : ℕ) → front ≡ line_begun IDENTIFIER (kind_letter kind) → digits ≡ decimal number → len ≡ 1 + length digits → length digits ≤ 40
    → out ++ (with_length front len ++ (digits ++ 13 ∷ 10 ∷ [])) ≡ out ++ printed_zone (headed IDENTIFIER (identifier kind number))
identifier_written out front digits kind number len is value counted short =
    let all : len ≡ length (kind_letter kind) + length digits = omega (arith, letter_length kind, counted) in
    ap (λ f. out ++ (with_length f len ++ (digits ++ 13 ∷ 10 ∷ []))) is
    ∙ (ap (λ f. out ++ (f ++ (digits ++ 13 ∷ 10 ∷ []))) (identifier_put (kind_letter kind) len)
    ∙ (ap (λ n. out ++ (begun IDENTIFIER n (kind_letter kind) ++ (digits ++ 13 ∷ 10 ∷ []))) all
    ∙ (joined out IDENTIFIER (kind_letter kind) digits (omega (arith, letter_length kind, short))
    ∙ ap (λ ds. out ++ printed_zone (headed IDENTIFIER (kind_letter kind ++ ds))) value)))

pub pointer_written : (out front digits : List ℕ) (kind : Kind) (number len : ℕ) → front ≡ line_begun END_TARGET (pointer_begun kind) → digits ≡ decimal number → len ≡ 13 + length digits → length digits ≤ 40
    → out ++ (with_length front len ++ (digits ++ 13 ∷ 10 ∷ [])) ≡ out ++ printed_zone (headed END_TARGET (end_text (numbered_name kind number)))
pointer_written out front digits kind number len is value counted short =
    let all : len ≡ length (pointer_begun kind) + length digits = omega (arith, pointer_length kind, counted) in
    ap (λ f. out ++ (with_length f len ++ (digits ++ 13 ∷ 10 ∷ []))) is
    ∙ (ap (λ f. out ++ (f ++ (digits ++ 13 ∷ 10 ∷ []))) (pointer_put (pointer_begun kind) len)
    ∙ (ap (λ n. out ++ (begun END_TARGET n (pointer_begun kind) ++ (digits ++ 13 ∷ 10 ∷ []))) all
    ∙ (joined out END_TARGET (pointer_begun kind) digits (omega (arith, pointer_length kind, short))
    ∙ (ap (λ ds. out ++ printed_zone (headed END_TARGET (pointer_begun kind ++ ds))) value
    ∙ ap (λ t. out ++ printed_zone (headed END_TARGET t)) (pointer_is kind number)))))
