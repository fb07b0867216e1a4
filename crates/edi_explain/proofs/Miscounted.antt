-- Lengths that count characters: by the bytes behind a head.
use Rattle.std.proofs.Common.{◌≡◌, ◌∙◌, ◌+◌, ◌-◌, ◌*◌, ◌<◌, ◌≤◌, ◌++◌, ◌∷◌, ℕ, zero, suc, true, cond, not, List, [], length, take, drop, replicate, get_or, refl, sym, ap, subst, arith, eqb, length-append}
use Rattle.std.specs.List.{list_all}
use Rattle.std.proofs.lemmas.Bool.{and_parts, eqb-true}
use Rattle.std.proofs.lemmas.List.{drop_at, length-replicate}
use Rattle.std.proofs.lemmas.List.Sums.{sum_by-append}
use Rattle.std.proofs.lemmas.List.Folds.{sum_by-replicate}
use Rattle.edi_line.specs.Spelling.{HasMore, IsHead, Spelling}
use Rattle.edi_explain.specs.Lengths.{IsMiscounted, character_count, is_continuation}
use Rattle.edi_explain.specs.inner.Lengths.{HasCharacters}

abbrev begins : ℕ → ℕ
begins c = cond (not (is_continuation c)) 1 0

both_counted : (xs ys : List ℕ) → character_count (xs ++ ys) ≡ character_count xs + character_count ys
both_counted = sum_by-append begins

spaces_counted : (n : ℕ) → character_count (replicate n 32) ≡ n
spaces_counted n = sum_by-replicate begins n 32 ∙ omega arith

are_spaces : (xs : List ℕ) → list_all (λ c. eqb c 32) xs ≡ true → xs ≡ replicate (length xs) 32
are_spaces [] e = refl
are_spaces (x ∷ xs) e =
    let p = and_parts _ _ e in
    ap (λ y. y ∷ xs) (eqb-true x 32 p.0) ∙ ap (λ ys. 32 ∷ ys) (are_spaces xs p.1)

spaces_pass : (n : ℕ) → list_all (λ c. eqb c 32) (replicate n 32) ≡ true
spaces_pass zero = refl
spaces_pass (suc n) = spaces_pass n

module _ (bytes : List ℕ) (stated : ℕ) where
  counted : (h : HasCharacters bytes stated) → character_count bytes ≡ stated + h.spaces
  counted h = omega (arith, ap character_count h.spelled, both_counted h.value (replicate h.spaces 32), spaces_counted h.spaces, h.stated_as)

  long : (h : HasCharacters bytes stated) → length bytes ≡ length h.value + h.spaces
  long h = omega (arith, ap length h.spelled, length-append h.value (replicate h.spaces 32), length-replicate {A = ℕ} h.spaces 32)

  module _ (front behind : List ℕ) (whole : bytes ≡ front ++ behind) (enough : stated ≤ character_count bytes) (more : character_count bytes < length bytes) (spaces : length behind ≡ character_count bytes - stated) where
    pub has_characters : list_all (λ c. eqb c 32) behind ≡ true → HasCharacters bytes stated
    has_characters blank =
        let e = are_spaces behind blank in
        let count = both_counted front behind in
        let n : character_count behind ≡ length behind = ap character_count e ∙ spaces_counted (length behind) in
        let all = ap character_count whole in
        let size = ap length whole ∙ length-append front behind in
        record {
          value = front;
          spaces = length behind;
          spelled = whole ∙ ap (λ xs. front ++ xs) e;
          stated_as = omega (arith, count, n, all, spaces, enough);
          more = omega (arith, count, n, all, spaces, enough, more, size);
        }

    pub spaces_behind : HasCharacters bytes stated → list_all (λ c. eqb c 32) behind ≡ true
    spaces_behind h =
        let size = ap length whole ∙ length-append front behind in
        let fronts : length front ≡ length h.value = omega (arith, size, spaces, enough, counted h, long h) in
        let e : behind ≡ replicate h.spaces 32 = sym (drop_at front behind (length front) refl) ∙ (ap (drop (length front)) (sym whole ∙ h.spelled)
        ∙ (ap (λ n. drop n (h.value ++ replicate h.spaces 32)) fronts ∙ drop_at h.value (replicate h.spaces 32) (length h.value) refl)) in
        ap (list_all (λ c. eqb c 32)) e ∙ spaces_pass h.spaces

-- ---- a content

abbrev pub stated_in : List ℕ → ℕ
stated_in content = (get_or content 5 0 - 48) * 10 + (get_or content 6 0 - 48)

-- what a head in form says of the content that begins with it
record Begins (content head behind : List ℕ) (stated : ℕ) : Type 0 where
  long : 8 ≤ length content
  tens : (48 ≤ get_or content 5 0) × (get_or content 5 0 < 58)
  ones : (48 ≤ get_or content 6 0) × (get_or content 6 0 < 58)
  stated_as : stated ≡ stated_in content
  front : take 8 content ≡ head
  back : drop 8 content ≡ behind

head_begins : (content head behind : List ℕ) (s : Spelling) (stated : ℕ) → IsHead head s stated → content ≡ head ++ behind → Begins content head behind stated
head_begins content head behind s stated h whole = go s.code h.three (whole ∙ ap (λ xs. xs ++ behind) h.spelled) h.spelled
  where
    go : (code : List ℕ) → length code ≡ 3 → content ≡ (code ++ (s.nature ∷ s.format ∷ (48 + h.tens) ∷ (48 + h.ones) ∷ 58 ∷ [])) ++ behind
        → head ≡ code ++ (s.nature ∷ s.format ∷ (48 + h.tens) ∷ (48 + h.ones) ∷ 58 ∷ []) → Begins content head behind stated
    go (a ∷ b ∷ c ∷ []) three e f =
        let tens : get_or content 5 0 ≡ 48 + h.tens = ap (λ l. get_or l 5 0) e in
        let ones : get_or content 6 0 ≡ 48 + h.ones = ap (λ l. get_or l 6 0) e in
        record {
          long = omega (arith, ap length e);
          tens = (omega (arith, tens), omega (arith, tens, h.tens_digit));
          ones = (omega (arith, ones), omega (arith, ones, h.ones_digit));
          stated_as = omega (arith, tens, ones, h.stated_as);
          front = ap (take 8) e ∙ sym f;
          back = ap (drop 8) e;
        }
    go [] three e f = absurd (omega arith)
    go (a ∷ []) three e f = absurd (omega arith)
    go (a ∷ b ∷ []) three e f = absurd (omega arith)
    go (a ∷ b ∷ c ∷ d ∷ xs) three e f = absurd (omega arith)

more_begins : (content : List ℕ) (h : HasMore content) → Begins content h.head (h.zone.value ++ h.rest) (length h.zone.value)
more_begins content h = head_begins content h.head (h.zone.value ++ h.rest) h.zone (length h.zone.value) h.in_form h.spelled

pub miscounted : (content : List ℕ) → HasMore content → HasCharacters (drop 8 content) (stated_in content) → IsMiscounted content
miscounted content h v =
    let b = more_begins content h in
    let f = h.in_form in
    record {
      head = h.head;
      zone = record { code = h.zone.code; nature = h.zone.nature; format = h.zone.format; value = v.value };
      spaces = v.spaces;
      in_form = record {
        tens = f.tens;
        ones = f.ones;
        spelled = f.spelled;
        three = f.three;
        code = f.code;
        nature = f.nature;
        format = f.format;
        tens_digit = f.tens_digit;
        ones_digit = f.ones_digit;
        stated_as = sym v.stated_as ∙ (sym b.stated_as ∙ f.stated_as);
      };
      spelled = h.spelled ∙ ap (λ xs. h.head ++ xs) (sym b.back ∙ v.spelled);
      more = subst (λ n. n < length v.value) v.stated_as v.more;
    }

pub characters_stated : (content : List ℕ) → IsMiscounted content → HasCharacters (drop 8 content) (stated_in content)
characters_stated content h =
    let b = head_begins content h.head (h.zone.value ++ replicate h.spaces 32) h.zone (character_count h.zone.value) h.in_form h.spelled in
    record {
      value = h.zone.value;
      spaces = h.spaces;
      spelled = b.back;
      stated_as = sym b.stated_as;
      more = subst (λ n. n < length h.zone.value) b.stated_as h.more;
    }
