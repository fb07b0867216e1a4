-- What a reader holds against the rules of the whole file.
use Rattle.std.proofs.Common.{◌≡◌, ℕ, suc, ◌+◌, ◌<◌, ◌≤◌, ◌⊎◌, Bool, true, false, not, ◌&&◌, ◌||◌, ◌==◌, cond, Option, Some, None, Ok, Err, List, [], ◌∷◌, ◌++◌, length, refl, sym, ap, ◌∙◌, subst, inl, inr, ⊎_elim, arith, length-append, count_by, option_map, option_to_list}
use Rattle.std.specs.List.{list_any}
use Rattle.std.proofs.lemmas.Bool.{both_ways}
use Rattle.std.proofs.lemmas.List.{append-nil, append_assoc, length_push}
use Rattle.std.proofs.lemmas.List.Sums.{sum_by_push}
use Rattle.edi_line.specs.Bytes.{most_records}
use Rattle.edi_line.specs.ZoneData.{ZoneData}
use Rattle.edi_line.specs.Spelling.{Spelling, Reading}
use Rattle.edi_line.specs.inner.Zones.{Part, part_of, parts_after, with_more}
use Rattle.edi_line.proofs.ZonesFound.{continuation, whole_zones}
use Rattle.edi_line.specs.LineKinds.{code_is, is_zone, is_other, starts, bears, some_bears}
use Rattle.edi_line.specs.inner.Kinds.{kind_of}
use Rattle.edi_line.specs.inner.Zones.Part.{Blank, Continues, IsRemark, Begins}
use Rattle.edi_line.specs.LineRules.{BreaksHere, BreaksAt, LacksEnd, BreaksIn}
use Rattle.edi_line.specs.Refusal.{Test, test, BreaksTest, IsLeastBroken, IsUnbroken}
use Rattle.edi_line.specs.inner.Refusal.{first_broken}
use Rattle.edi_line.specs.inner.Held.{kind_tests, rule_of, noted, no_zones, closed, zoned_step, zoned_after, zoned, TakesNextLine, Stands}
use Rattle.edi_line.specs.Feeding.{seen_in, Zoned}
use Rattle.edi_line.specs.declared.order.Order.{Order}
use Rattle.edi_line.specs.declared.reading.Reader.{Reader}
use Rattle.edi_line.proofs.FirstBroken.{none_broken, IsLeast, first_is_least}
use Rattle.edi_line.proofs.KindsSaid.{bom_same, cse_same, rty_same, eom_same, next_same, zone_same, starts_same, other_same}

-- ---- lists

pub no_cut_of_none : {X : Type 0} (before : List X) (x : X) (after : List X) → [] ≡ before ++ x ∷ after → ⊥
no_cut_of_none [] x after e = cc
no_cut_of_none (y ∷ ys) x after e = cc

-- two places at which a list is cut
abbrev pub AreApart : {X : Type 0} → List X → X → List X → X → Type 0
AreApart {X} xs x ys y = ((zs : List X) × (xs ≡ ys ++ y ∷ zs)) ⊎ (((xs ≡ ys) × (x ≡ y)) ⊎ (length xs < length ys))

pub two_cuts : {X : Type 0} (xs : List X) (x : X) (rest : List X) (ys : List X) (y : X) (more : List X) → xs ++ x ∷ rest ≡ ys ++ y ∷ more → AreApart xs x ys y
two_cuts [] x rest [] y more e = inr (inl (refl, cc))
two_cuts [] x rest (b ∷ ys) y more e = inr (inr (omega arith))
two_cuts (a ∷ xs) x rest [] y more e = inl (xs, (let h : a ≡ y = cc in ap (λ c. c ∷ xs) h))
two_cuts (a ∷ xs) x rest (b ∷ ys) y more e =
    let head : a ≡ b = cc in
    let tail : xs ++ x ∷ rest ≡ ys ++ y ∷ more = cc in
    longer (two_cuts xs x rest ys y more tail) head
  where
    longer : AreApart xs x ys y → a ≡ b → AreApart (a ∷ xs) x (b ∷ ys) y
    longer (inl (zs, p)) head = inl (zs, ap (λ l. a ∷ l) p ∙ ap (λ c. c ∷ (ys ++ y ∷ zs)) head)
    longer (inr (inl p)) head = inr (inl (ap (λ l. a ∷ l) p.0 ∙ ap (λ c. c ∷ ys) head, p.1))
    longer (inr (inr p)) head = inr (inr (omega arith))

list_any-push : {X : Type 0} (p : X → Bool) (xs : List X) (x : X) → list_any p (xs ++ x ∷ []) ≡ (list_any p xs || p x)
list_any-push p [] x = or_false (p x)
  where
    or_false : (b : Bool) → (b || false) ≡ b
    or_false true = refl
    or_false false = refl
list_any-push p (y ∷ ys) x = elim (p y) as (λ b. (b || list_any p (ys ++ x ∷ [])) ≡ ((b || list_any p ys) || p x)) [ true ↦ refl | false ↦ list_any-push p ys x ]

-- ---- what a reader has seen

none_more : (b : Bool) → b ≡ (b || false)
none_more true = refl
none_more false = refl

abbrev order_made : Bool → Bool → Bool → Bool → Bool → Bool → ℕ → Order
order_made s a b c d e n = record { started = s; begun = a; bom = b; cse = c; rty = d; eom = e; records = n }

order_same : (a b : Order) → a.started ≡ b.started → a.begun ≡ b.begun → a.bom ≡ b.bom → a.cse ≡ b.cse → a.rty ≡ b.rty → a.eom ≡ b.eom → a.records ≡ b.records → a ≡ b
order_same a b started begun bom cse rty eom records =
    ap (λ x. order_made x a.begun a.bom a.cse a.rty a.eom a.records) started
    ∙ ap (λ x. order_made b.started x a.bom a.cse a.rty a.eom a.records) begun
    ∙ ap (λ x. order_made b.started b.begun x a.cse a.rty a.eom a.records) bom
    ∙ ap (λ x. order_made b.started b.begun b.bom x a.rty a.eom a.records) cse
    ∙ ap (λ x. order_made b.started b.begun b.bom b.cse x a.eom a.records) rty
    ∙ ap (λ x. order_made b.started b.begun b.bom b.cse b.rty x a.records) eom
    ∙ ap (λ x. order_made b.started b.begun b.bom b.cse b.rty b.eom x) records

-- what one line more does to each field
seen_more : (p : List ℕ → Bool) (done : List Reading) (line : Reading) → (some_bears p done || bears p line) ≡ some_bears p (done ++ line ∷ [])
seen_more p done line = sym (list_any-push (bears p) done line)

count_more : (done : List Reading) (line : Reading) → count_by (bears (code_is "RTY")) done + cond (bears (code_is "RTY") line) 1 0 ≡ count_by (bears (code_is "RTY")) (done ++ line ∷ [])
count_more done line = sym (sum_by_push (λ x. cond (bears (code_is "RTY") x) 1 0) done line)

no_more : (m n : ℕ) (b : Bool) → b ≡ false → m + cond b 1 0 ≡ n → m ≡ n
no_more m n false none e = omega (arith, e)
no_more m n true none e = absurd (cc)

-- a line that bears nothing
same_seen : (done : List Reading) (line : Reading) → ((p : List ℕ → Bool) → bears p line ≡ false) → seen_in done ≡ seen_in (done ++ line ∷ [])
same_seen done line none = order_same _ _ (at starts) (at is_zone) (at (code_is "BOM")) (at (code_is "CSE")) (at (code_is "RTY")) (at (code_is "EOM"))
    (no_more (count_by (bears (code_is "RTY")) done) _ (bears (code_is "RTY") line) (none (code_is "RTY")) (count_more done line))
  where
    at : (p : List ℕ → Bool) → some_bears p done ≡ some_bears p (done ++ line ∷ [])
    at p = none_more (some_bears p done) ∙ ap (λ b. some_bears p done || b) (sym (none p)) ∙ seen_more p done line

pub noted_seen : (done : List Reading) (line : Reading) → noted (seen_in done) line ≡ seen_in (done ++ line ∷ [])
noted_seen done (Ok (Some s)) = order_same _ _
    (more starts _ (starts_same s.code))
    (more is_zone _ (zone_same s.code))
    (more (code_is "BOM") _ (bom_same s.code))
    (more (code_is "CSE") _ (cse_same s.code))
    (more (code_is "RTY") _ (rty_same s.code))
    (more (code_is "EOM") _ (eom_same s.code))
    (ap (λ b. count_by (bears (code_is "RTY")) done + cond b 1 0) (sym (rty_same s.code)) ∙ count_more done (Ok (Some s)))
  where
    more : (p : List ℕ → Bool) (b : Bool) → p s.code ≡ b → (some_bears p done || b) ≡ some_bears p (done ++ Ok (Some s) ∷ [])
    more p b same = ap (λ c. some_bears p done || c) (sym same) ∙ seen_more p done (Ok (Some s))
noted_seen done (Ok None) = same_seen done (Ok None) (λ p. refl)
noted_seen done (Err rule) = same_seen done (Err rule) (λ p. refl)

-- ---- the zones so far

abbrev completed : Zoned → List Part → List ZoneData
completed z parts = z.done ++ (option_to_list (option_map (with_more (continuation parts)) z.open_zone) ++ whole_zones parts)

abbrev with_value : ZoneData → List ℕ → ZoneData
with_value z v = record { line = z.line; code = z.code; nature = z.nature; format = z.format; value = v }

more_on : (o : Option ZoneData) (v more : List ℕ) → option_to_list (option_map (with_more more) (option_map (with_more v) o)) ≡ option_to_list (option_map (with_more (v ++ more)) o)
more_on None v more = refl
more_on (Some z) v more = ap (λ t. with_value z t ∷ []) (append_assoc z.value v more)

nothing_on : (o : Option ZoneData) → option_to_list (option_map (with_more []) o) ≡ option_to_list o
nothing_on None = refl
nothing_on (Some z) = ap (λ t. with_value z t ∷ []) (append-nil z.value)

step_keeps : (part : Part) (parts : List Part) (z : Zoned) → completed (zoned_step part z) parts ≡ completed z (part ∷ parts)
step_keeps Blank parts z = refl
step_keeps (Continues v) parts z = ap (λ t. z.done ++ (t ++ whole_zones parts)) (more_on z.open_zone v (continuation parts))
step_keeps IsRemark parts z = append_assoc z.done (option_to_list z.open_zone) (whole_zones parts) ∙ ap (λ t. z.done ++ (t ++ whole_zones parts)) (sym (nothing_on z.open_zone))
step_keeps (Begins zone) parts z =
    append_assoc z.done (option_to_list z.open_zone) _
    ∙ ap (λ t. z.done ++ (t ++ (with_more (continuation parts) zone ∷ whole_zones parts))) (sym (nothing_on z.open_zone))

all_completed : (z : Zoned) (parts : List Part) → closed (zoned_after z parts) ≡ completed z parts
all_completed z [] = ap (λ t. z.done ++ t) (sym (append-nil (option_to_list (option_map (with_more []) z.open_zone)) ∙ nothing_on z.open_zone))
all_completed z (part ∷ parts) = all_completed (zoned_step part z) parts ∙ step_keeps part parts z

-- going forward gives what looking ahead says
pub closed_zones : (parts : List Part) → closed (zoned_after no_zones parts) ≡ whole_zones parts
closed_zones parts = all_completed no_zones parts

zoned_push : (z : Zoned) (parts : List Part) (part : Part) → zoned_after z (parts ++ part ∷ []) ≡ zoned_step part (zoned_after z parts)
zoned_push z [] part = refl
zoned_push z (p ∷ parts) part = zoned_push (zoned_step p z) parts part

parts_push : (n : ℕ) (done : List Reading) (line : Reading) → parts_after n (done ++ line ∷ []) ≡ parts_after n done ++ part_of (suc (n + length done)) line ∷ []
parts_push n [] line = ap (λ k. part_of (suc k) line ∷ []) (omega arith)
parts_push n (d ∷ done) line = ap (λ ps. part_of (suc n) d ∷ ps) (parts_push (suc n) done line ∙ ap (λ k. parts_after (suc n) done ++ part_of (suc k) line ∷ []) (omega arith))

-- ---- the rule that a line breaks

abbrev tests_made : Order → Bool → Bool → Bool → Bool → Bool → Bool → List Test
tests_made seen next zone bom cse other rty =
    test 104 (next && not seen.started)
    ∷ test 105 (zone && (not bom && not seen.begun))
    ∷ test 107 (zone && seen.eom)
    ∷ test 108 ((bom && seen.bom) || (cse && (seen.cse || seen.rty)))
    ∷ test 109 (other && not seen.rty)
    ∷ test 110 (rty && (seen.records == most_records))
    ∷ []

-- whether a line breaks the rules of its place, behind these lines
abbrev pub line_tests : List Reading → Reading → List Test
line_tests before line = tests_made (seen_in before) (bears (code_is "NEX") line) (bears is_zone line) (bears (code_is "BOM") line) (bears (code_is "CSE") line) (bears is_other line) (bears (code_is "RTY") line)

abbrev pub FailsHere : List Reading → Reading → ℕ → Type 0
FailsHere before line rule = (line ≡ Err rule) ⊎ BreaksTest (line_tests before line) rule

pub fails_here : (before : List Reading) (line : Reading) (rule : ℕ) → BreaksHere before line rule → FailsHere before line rule
fails_here before line rule (inl e) = inl e
fails_here before line rule (inr (inl h)) = inr (inl (sym h.0, h.1))
fails_here before line rule (inr (inr (inl h))) = inr (inr (inl (sym h.0, h.1)))
fails_here before line rule (inr (inr (inr (inl h)))) = inr (inr (inr (inl (sym h.0, h.1))))
fails_here before line rule (inr (inr (inr (inr (inl h))))) = inr (inr (inr (inr (inl (sym h.0, h.1)))))
fails_here before line rule (inr (inr (inr (inr (inr (inl h)))))) = inr (inr (inr (inr (inr (inl (sym h.0, h.1))))))
fails_here before line rule (inr (inr (inr (inr (inr (inr h)))))) = inr (inr (inr (inr (inr (inr (inl (sym h.0, h.1)))))))

pub breaks_here : (before : List Reading) (line : Reading) (rule : ℕ) → FailsHere before line rule → BreaksHere before line rule
breaks_here before line rule (inl e) = inl e
breaks_here before line rule (inr (inl h)) = inr (inl (sym h.0, h.1))
breaks_here before line rule (inr (inr (inl h))) = inr (inr (inl (sym h.0, h.1)))
breaks_here before line rule (inr (inr (inr (inl h)))) = inr (inr (inr (inl (sym h.0, h.1))))
breaks_here before line rule (inr (inr (inr (inr (inl h))))) = inr (inr (inr (inr (inl (sym h.0, h.1)))))
breaks_here before line rule (inr (inr (inr (inr (inr (inl h)))))) = inr (inr (inr (inr (inr (inl (sym h.0, h.1))))))
breaks_here before line rule (inr (inr (inr (inr (inr (inr (inl h))))))) = inr (inr (inr (inr (inr (inr (sym h.0, h.1))))))
breaks_here before line rule (inr (inr (inr (inr (inr (inr (inr h))))))) = absurd h

-- the rules that a line may break by its place are those of its kind
pub tests_same : (before : List Reading) (s : Spelling) → line_tests before (Ok (Some s)) ≡ kind_tests (seen_in before) (kind_of s.code)
tests_same before s = λ i. tests_made (seen_in before) (next_same s.code i) (zone_same s.code i) (bom_same s.code i) (cse_same s.code i) (other_same s.code i) (rty_same s.code i)

none_fails : (before : List Reading) (line : Reading) → rule_of (seen_in before) line ≡ None → (rule : ℕ) → FailsHere before line rule → ⊥
none_fails before (Ok (Some s)) e rule (inl p) = cc
none_fails before (Ok (Some s)) e rule (inr p) = none_broken (line_tests before (Ok (Some s))) (ap first_broken (tests_same before s) ∙ e) rule p
none_fails before (Ok None) e rule (inl p) = cc
none_fails before (Ok None) e rule (inr p) = none_broken (line_tests before (Ok None)) refl rule p
none_fails before (Err fault) e rule h = cc

pub no_rule_broken : (before : List Reading) (line : Reading) → rule_of (seen_in before) line ≡ None → (rule : ℕ) → BreaksHere before line rule → ⊥
no_rule_broken before line e rule h = none_fails before line e rule (fails_here before line rule h)

pub record BreaksFirst (before : List Reading) (line : Reading) (rule : ℕ) : Type 0 where
  pub breaks : BreaksHere before line rule
  pub least : (r : ℕ) → BreaksHere before line r → rule ≤ r

zone_least : (before : List Reading) (s : Spelling) (rule : ℕ) → IsLeast (line_tests before (Ok (Some s))) rule → (r : ℕ) → FailsHere before (Ok (Some s)) r → rule ≤ r
zone_least before s rule found r (inl e) = cc
zone_least before s rule found r (inr h) = found.least r h

own_least : (before : List Reading) (fault rule : ℕ) → fault ≡ rule → (r : ℕ) → FailsHere before (Err fault) r → rule ≤ r
own_least before fault rule same r (inl e) = let is : fault ≡ r = cc in omega (arith, same, is)
own_least before fault rule same r (inr h) = absurd (none_broken (line_tests before (Err fault)) refl r h)

pub rule_broken : (before : List Reading) (line : Reading) (rule : ℕ) → rule_of (seen_in before) line ≡ Some rule → BreaksFirst before line rule
rule_broken before (Ok (Some s)) rule e =
    let found = first_is_least (line_tests before (Ok (Some s))) rule refl (ap first_broken (tests_same before s) ∙ e) in
    record {
      breaks = breaks_here before (Ok (Some s)) rule (inr found.breaks);
      least = λ r h. zone_least before s rule found r (fails_here before (Ok (Some s)) r h);
    }
rule_broken before (Ok None) rule e = cc
rule_broken before (Err fault) rule e =
    let same : fault ≡ rule = cc in
    record { breaks = inl (ap (λ r. Err r) same); least = λ r h. own_least before fault rule same r (fails_here before (Err fault) r h) }

-- ---- steps

push_is_cut : {X : Type 0} (done : List X) (line : X) (before : List X) (x : X) (after : List X) → done ++ line ∷ [] ≡ before ++ x ∷ after → AreApart done line before x
push_is_cut done line before x after e = two_cuts done line [] before x after e

pub stands_none : (r : Reader) → r.line ≡ 0 → r.order ≡ seen_in [] → zoned r ≡ no_zones → Stands [] r
stands_none r line order zones = record {
  counted = line;
  order = order;
  zones = zones;
  sound = λ rule place h. no_cut_of_none h.before h.line h.after h.cut;
}

pub sound_more : (done : List Reading) (line : Reading) → ((rule place : ℕ) → ¬ (BreaksAt done rule place)) → rule_of (seen_in done) line ≡ None → (rule place : ℕ) → ¬ (BreaksAt (done ++ line ∷ []) rule place)
sound_more done line sound none rule place h = along (push_is_cut done line h.before h.line h.after h.cut)
  where
    along : AreApart done line h.before h.line → ⊥
    along (inl (zs, e)) = sound rule place (record { before = h.before; line = h.line; after = zs; cut = e; place_is = h.place_is; breaks = h.breaks })
    along (inr (inl (same, at))) = no_rule_broken done line none rule (subst (λ b. BreaksHere b line rule) (sym same) (subst (λ l. BreaksHere h.before l rule) (sym at) h.breaks))
    along (inr (inr short)) =
        let long = ap length h.cut in
        let left = length_push done line in
        let right = length-append h.before (h.line ∷ h.after) in
        omega arith

-- the zones that lines say, and then one line more
pub zones_more : (done : List Reading) (line : Reading) (n : ℕ) (old new : Zoned) → n ≡ length done → old ≡ zoned_after no_zones (parts_after 0 done) → new ≡ zoned_step (part_of (n + 1) line) old → new ≡ zoned_after no_zones (parts_after 0 (done ++ line ∷ []))
zones_more done line n old new counted held stepped =
    stepped ∙ ap (zoned_step (part_of (n + 1) line)) held ∙ sym (zoned_push no_zones (parts_after 0 done) (part_of (n + 1) line)) ∙ ap (λ k. zoned_after no_zones (parts_after 0 done ++ part_of k line ∷ [])) (let e : n + 1 ≡ suc (0 + length done) = omega (arith, counted) in e) ∙ ap (zoned_after no_zones) (sym (parts_push 0 done line))

pub stands_more : (done : List Reading) (line : Reading) (old new : Reader) → Stands done old → TakesNextLine old line new → Stands (done ++ line ∷ []) new
stands_more done line old new s t = record {
  counted = omega (arith, t.counted, s.counted, length_push done line);
  order = t.order ∙ ap (λ o. noted o line) s.order ∙ noted_seen done line;
  zones = zones_more done line old.line (zoned old) (zoned new) s.counted s.zones t.zones;
  sound = λ rule place h. sound_more done line s.sound (sym (ap (λ o. rule_of o line) s.order) ∙ t.no_rule) rule place h;
}

-- ---- refusals

abbrev pub IsFaultless : List Reading → Type 0
IsFaultless done = (rule place : ℕ) → ¬ (BreaksAt done rule place)

-- the first faulty line of a file is its refusal
pub refused_here : (lines done : List Reading) (line : Reading) (rest : List Reading) (rule place : ℕ) → lines ≡ done ++ line ∷ rest → IsFaultless done → place ≡ length done + 1 → rule_of (seen_in done) line ≡ Some rule → IsLeastBroken (BreaksIn lines) rule place
refused_here lines done line rest rule place cut sound place_is e =
    let found = rule_broken done line rule e in
    record {
      is = inl (record { before = done; line = line; after = rest; cut = cut; place_is = place_is; breaks = found.breaks });
      least = λ r p h. ⊎_elim (λ b. earlier r p b found) (λ l. missed r p l) h;
    }
  where
    missed : (r p : ℕ) → LacksEnd lines r p → (place < p) ⊎ ((place ≡ p) × (rule ≤ r))
    missed r p l = let long = ap length cut in let joined = length-append done (line ∷ rest) in inl (omega (arith, long, joined, l.1, place_is))

    at_cut : (r p : ℕ) (b : BreaksAt lines r p) → BreaksFirst done line rule → AreApart done line b.before b.line → (place < p) ⊎ ((place ≡ p) × (rule ≤ r))
    at_cut r p b found (inl (zs, same)) = absurd (sound r p (record { before = b.before; line = b.line; after = zs; cut = same; place_is = b.place_is; breaks = b.breaks }))
    at_cut r p b found (inr (inl (same, at))) =
        let long = ap length same in
        inr (omega (arith, b.place_is, place_is, long), found.least r (subst (λ x. BreaksHere x line r) (sym same) (subst (λ l. BreaksHere b.before l r) (sym at) b.breaks)))
    at_cut r p b found (inr (inr short)) = inl (omega (arith, b.place_is, place_is, short))

    earlier : (r p : ℕ) → BreaksAt lines r p → BreaksFirst done line rule → (place < p) ⊎ ((place ≡ p) × (rule ≤ r))
    earlier r p b found = at_cut r p b found (two_cuts done line rest b.before b.line b.after (sym cut ∙ b.cut))

pub refused_at_end : (lines : List Reading) (rule place : ℕ) → IsFaultless lines → (seen_in lines).eom ≡ false → rule ≡ 106 → place ≡ length lines + 1 → IsLeastBroken (BreaksIn lines) rule place
refused_at_end lines rule place sound lacks rule_is place_is = record {
  is = inr (rule_is, place_is, lacks);
  least = λ r p h. ⊎_elim
      (λ b. absurd (sound r p b))
      (λ l. inr (omega (arith, l.1, place_is), omega (arith, l.0, rule_is)))
      h;
}

pub sound_at_end : (lines : List Reading) → IsFaultless lines → (seen_in lines).eom ≡ true → IsUnbroken (BreaksIn lines)
sound_at_end lines sound has rule place (inl b) = sound rule place b
sound_at_end lines sound has rule place (inr l) = both_ways _ l.2 has
