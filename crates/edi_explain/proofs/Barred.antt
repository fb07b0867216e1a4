-- Lines that bar others: by what they say, and by their first bytes.
use Rattle.std.proofs.Common.{◌≡◌, ◌∙◌, ◌+◌, ◌-◌, ◌<◌, ◌≤◌, ◌⊎◌, ◌++◌, ◌∷◌, ◌&&◌, ◌||◌, inl, inr, ℕ, zero, suc, Bool, true, false, cond, List, [], Some, None, Ok, Err, option_map, length, take, replicate, map, get_or, slice_get, refl, sym, ap, arith, codes, bytes_eq, nat_eq, eqb-true, append_assoc}
use Rattle.std.proofs.lemmas.Option.{slice_get-map, slice_get_within, same_Some}
use Rattle.std.proofs.lemmas.Slice.Eq.{bytes_eq-Decides}
use Rattle.std.proofs.Math.Seq.{take-append_seam}
use Rattle.edi_line.proofs.Heads.{blank_read, reading_rule, zone_read}
use Rattle.edi_line.proofs.Readings.{readings_are, readings_exist, rule_said}
use Rattle.edi_line.specs.LineRules.{BreaksAt, BreaksLineRule}
use Rattle.edi_line.specs.Lines.{content_of}
use Rattle.edi_line.specs.Refusal.{IsLeastBroken}
use Rattle.edi_line.specs.Spelling.{Reading, Spelling}
use Rattle.edi_line.specs.inner.Lines.{line_contents, lines_in}
use Rattle.edi_line.specs.inner.Spelling.{reading_of}
use Rattle.edi_line.specs.inner.Zones.{readings_of}
use Rattle.edi_explain.specs.Barring.{IsBarredBy, bars, has_zone}
use Rattle.edi_explain.specs.inner.Barring.{bars_text}

same_bool : (a b : Bool) → (a ≡ true → b ≡ true) → (b ≡ true → a ≡ true) → a ≡ b
same_bool true b f g = sym (f refl)
same_bool false true f g = g refl
same_bool false false f g = refl

-- a line spells a zone or is blank
abbrev pub IsFine : List ℕ → Type 0
IsFine content = (rule : ℕ) → reading_of content ≡ Err rule → ⊥

front_three : (content code rest : List ℕ) → length code ≡ 3 → content ≡ code ++ rest → take 3 content ≡ code
front_three content code rest three whole = ap (take 3) whole ∙ (ap (λ n. take n (code ++ rest)) (sym three) ∙ take-append_seam code rest)

front_code : (content : List ℕ) (s : Spelling) → reading_of content ≡ Ok (Some s) → take 3 content ≡ s.code
front_code content s e =
    let h = (zone_read content s).0 e in
    let f = h.in_form in
    front_three content s.code _ f.three
    (h.spelled ∙ (ap (λ t. t ++ (s.value ++ replicate h.spaces 32)) f.spelled ∙ append_assoc s.code (s.nature ∷ s.format ∷ (48 + f.tens) ∷ (48 + f.ones) ∷ 58 ∷ []) (s.value ++ replicate h.spaces 32)))

module _ (code : List ℕ) (solid : (n : ℕ) → code ≡ take 3 (replicate n 32) → ⊥) where
  pub tested : (content : List ℕ) → IsFine content → has_zone code (reading_of content) ≡ bytes_eq code (take 3 content)
  tested content fine = go (reading_of content) refl
    where
      go : (r : Reading) → reading_of content ≡ r → has_zone code r ≡ bytes_eq code (take 3 content)
      go (Ok (Some s)) e =
          let front = front_code content s e in
          same_bool _ _ (λ t. (bytes_eq-Decides code (take 3 content)).1 (sym ((bytes_eq-Decides s.code code).0 t) ∙ sym front))
          (λ t. (bytes_eq-Decides s.code code).1 (sym front ∙ sym ((bytes_eq-Decides code (take 3 content)).0 t)))
      go (Ok None) e =
          let blank = (blank_read content).0 e in
          same_bool _ _ (λ t. absurd cc) (λ t. absurd (solid blank.0 ((bytes_eq-Decides code (take 3 content)).0 t ∙ ap (take 3) blank.1)))
      go (Err rule) e = absurd (fine rule e)

pub first_solid : (x : ℕ) (xs : List ℕ) (n : ℕ) → (x ≡ 32 → ⊥) → x ∷ xs ≡ take 3 (replicate n 32) → ⊥
first_solid x xs zero other e = cc
first_solid x xs (suc n) other e = other (ap (λ l. get_or l 0 0) e)

bom_tested : (c : List ℕ) → IsFine c → has_zone (codes "BOM") (reading_of c) ≡ bytes_eq (codes "BOM") (take 3 c)
bom_tested = tested (codes "BOM") (λ n. first_solid 66 _ n (λ e. omega (arith, e)))

cse_tested : (c : List ℕ) → IsFine c → has_zone (codes "CSE") (reading_of c) ≡ bytes_eq (codes "CSE") (take 3 c)
cse_tested = tested (codes "CSE") (λ n. first_solid 67 _ n (λ e. omega (arith, e)))

rty_tested : (c : List ℕ) → IsFine c → has_zone (codes "RTY") (reading_of c) ≡ bytes_eq (codes "RTY") (take 3 c)
rty_tested = tested (codes "RTY") (λ n. first_solid 82 _ n (λ e. omega (arith, e)))

eom_tested : (c : List ℕ) → IsFine c → has_zone (codes "EOM") (reading_of c) ≡ bytes_eq (codes "EOM") (take 3 c)
eom_tested = tested (codes "EOM") (λ n. first_solid 69 _ n (λ e. omega (arith, e)))

pub remark_tested : (c : List ℕ) → IsFine c → has_zone (codes "REM") (reading_of c) ≡ bytes_eq (codes "REM") (take 3 c)
remark_tested = tested (codes "REM") (λ n. first_solid 82 _ n (λ e. omega (arith, e)))

pub bars_same : (rule : ℕ) (c d : List ℕ) → IsFine c → IsFine d → bars rule (reading_of c) (reading_of d) ≡ bars_text rule c d
bars_same rule c d fine fine' = rw (eom_tested c fine, bom_tested d fine', bom_tested c fine, cse_tested d fine', cse_tested c fine, rty_tested c fine) refl

cut_there : (xs : List Reading) (i : ℕ) (x : Reading) → slice_get xs i ≡ Some x → (before after : List Reading) × (xs ≡ before ++ x ∷ after) × (length before ≡ i)
cut_there [] i x h = absurd (omega (arith, slice_get_within [] i x h))
cut_there (y ∷ ys) zero x h = ([], ys, ap (λ z. z ∷ ys) (same_Some _ _ h), refl)
cut_there (y ∷ ys) (suc i) x h = let more = cut_there ys i x h in (y ∷ more.0, more.1, ap (λ zs. y ∷ zs) more.2, ap suc more.3)

module _ (bytes : List ℕ) (rule at : ℕ) (least : IsLeastBroken (BreaksLineRule bytes) rule at) (big : 104 ≤ rule) where
  reading_there : (k : ℕ) (c : List ℕ) → slice_get (line_contents bytes) k ≡ Some c → slice_get (readings_of bytes) k ≡ Some (reading_of c)
  reading_there k c h = slice_get-map reading_of (line_contents bytes) k ∙ ap (option_map reading_of) h

  -- the refused line and those before it break no rule of their own
  pub fine_there : (k : ℕ) (c : List ℕ) → k < at → slice_get (line_contents bytes) k ≡ Some c → IsFine c
  fine_there k c less h r e =
      let cut = cut_there (readings_of bytes) k (reading_of c) (reading_there k c h) in
      let breaks : BreaksAt (readings_of bytes) r (k + 1) = record { before = cut.0; line = reading_of c; after = cut.1; cut = cut.2; place_is = omega (arith, cut.3); breaks = inl e } in
      go (reading_rule c r e) (least.least r (k + 1) (rule_said bytes r (k + 1) (inl breaks)))
    where
      go : (r ≡ 101) ⊎ ((r ≡ 102) ⊎ (r ≡ 103)) → (at < k + 1) ⊎ ((at ≡ k + 1) × (rule ≤ r)) → ⊥
      go own (inl past) = omega (arith, less, past)
      go (inl one) (inr h) = omega (arith, one, h.1, big)
      go (inr (inl two)) (inr h) = omega (arith, two, h.1, big)
      go (inr (inr three)) (inr h) = omega (arith, three, h.1, big)

  module _ (d : List ℕ) (some : 1 ≤ at) (here : slice_get (line_contents bytes) (at - 1) ≡ Some d) where
    pub barred : (m : ℕ) (c : List ℕ) → 1 ≤ m → m < at → slice_get (line_contents bytes) (m - 1) ≡ Some c → bars_text rule c d ≡ true → IsBarredBy bytes rule at m
    barred m c one less there t = record {
      readings = readings_of bytes;
      say = readings_exist bytes;
      earlier = reading_of c;
      line = reading_of d;
      from_one = one;
      before = less;
      there = reading_there (m - 1) c there;
      here = reading_there (at - 1) d here;
      barred = bars_same rule c d (fine_there (m - 1) c (omega (arith, less, one)) there) (fine_there (at - 1) d (omega (arith, some)) here) ∙ t;
    }

    pub text_bars : (m : ℕ) (c : List ℕ) → slice_get (line_contents bytes) (m - 1) ≡ Some c → IsBarredBy bytes rule at m → bars_text rule c d ≡ true
    text_bars m c there h =
        let all = readings_are bytes h.readings h.say in
        let first : h.earlier ≡ reading_of c = same_Some _ _ (sym h.there ∙ (ap (λ rs. slice_get rs (m - 1)) all ∙ reading_there (m - 1) c there)) in
        let second : h.line ≡ reading_of d = same_Some _ _ (sym h.here ∙ (ap (λ rs. slice_get rs (at - 1)) all ∙ reading_there (at - 1) d here)) in
        sym (bars_same rule c d (fine_there (m - 1) c (omega (arith, h.before, h.from_one)) there) (fine_there (at - 1) d (omega (arith, some)) here))
        ∙ (sym (ap (λ r. bars rule r (reading_of d)) first) ∙ (sym (ap (λ r. bars rule h.earlier r) second) ∙ h.barred))

-- there is no such line
pub no_such_line : (bytes : List ℕ) (rule at m : ℕ) → slice_get (line_contents bytes) (at - 1) ≡ None → ¬ (IsBarredBy bytes rule at m)
no_such_line bytes rule at m none h =
    let all = readings_are bytes h.readings h.say in
    let some : None ≡ Some h.line = sym (slice_get-map reading_of (line_contents bytes) (at - 1) ∙ ap (option_map reading_of) none) ∙ (sym (ap (λ rs. slice_get rs (at - 1)) all) ∙ h.here) in cc

-- the first line is the one that comes next
pub next_content : (bytes line behind : List ℕ) → lines_in bytes ≡ line ∷ lines_in behind → line_contents bytes ≡ content_of line ∷ line_contents behind
next_content bytes line behind e = ap (map content_of) e

-- other rules speak of no earlier line
pub no_bars : (bytes : List ℕ) (rule at m : ℕ) → (rule ≡ 107 → ⊥) → (rule ≡ 108 → ⊥) → ¬ (IsBarredBy bytes rule at m)
no_bars bytes rule at m a b h = go (nat_eq rule 107) refl (nat_eq rule 108) refl h.barred
  where
    go : (x : Bool) → nat_eq rule 107 ≡ x → (y : Bool) → nat_eq rule 108 ≡ y
        → cond x (has_zone (codes "EOM") h.earlier) (cond y (cond (has_zone (codes "BOM") h.line) (has_zone (codes "BOM") h.earlier) (has_zone (codes "CSE") h.line && (has_zone (codes "CSE") h.earlier || has_zone (codes "RTY") h.earlier))) false) ≡ true → ⊥
    go true t y u k = a (eqb-true rule 107 t)
    go false t true u k = b (eqb-true rule 108 u)
    go false t false u k = cc

-- no bytes, no lines
pub empty_contents : (rest : List ℕ) → length rest ≡ 0 → (j : ℕ) → slice_get (line_contents rest) j ≡ None
empty_contents [] e j = refl
empty_contents (x ∷ xs) e j = absurd (omega (arith, e))
