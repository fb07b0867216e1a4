-- The list of all rules that lines break, line by line.
use Rattle.std.proofs.Common.{◌≡◌, ℕ, ◌+◌, ◌<◌, ◌≤◌, Bool, true, false, cond, Some, None, Result, Ok, Err, List, [], ◌∷◌, ◌++◌, length, take, drop, refl, sym, ap, ◌∙◌, subst, inl, inr, arith, length-append, IfOk, Vec, Global}
use Rattle.std.specs.declared.alloc.AllocError.{AllocError}
use Rattle.std.proofs.lemmas.Bool.{both_ways}
use Rattle.std.proofs.lemmas.List.{append_assoc, length_push}
use Rattle.edi_line.specs.AllBroken.{AreAllBroken}
use Rattle.edi_line.specs.Feeding.{seen_in}
use Rattle.edi_line.specs.inner.Kinds.{kind_of, is_rty}
use Rattle.edi_line.specs.LineRules.{BreaksHere, BreaksAt, BreaksIn, BreaksLineRule}
use Rattle.edi_line.specs.Refusal.{test, BreaksTest}
use Rattle.edi_line.specs.Spelling.{Reading}
use Rattle.edi_line.specs.inner.AllBroken.{with_broken, tests_of, TakesLine, HoldsBroken}
use Rattle.edi_line.specs.inner.Held.{noted}
use Rattle.edi_line.specs.inner.Zones.{readings_of}
use Rattle.edi_line.specs.declared.broken.BrokenLines.{BrokenLines}
use Rattle.edi_line.specs.declared.broken.BrokenRule.{BrokenRule}
use Rattle.edi_line.specs.declared.order.Order.{Order}
use Rattle.edi_line.proofs.AllBroken.{all_same, all_none, all_push, one_more, Also, climbs, all_with, Put, two_put, four_put}
use Rattle.edi_line.proofs.FirstBroken.{none_broken}
use Rattle.edi_line.proofs.Passes.{next_of, taken_all}
use Rattle.edi_line.proofs.Readings.{rule_said, rule_read}
use Rattle.edi_line.proofs.Rules.{AreApart, two_cuts, no_cut_of_none, noted_seen, tests_same, line_tests, FailsHere, fails_here, breaks_here}

-- ---- the rules of one line

failed_tested : (before : List Reading) (line : Reading) (r : ℕ) → FailsHere before line r → BreaksTest (tests_of (seen_in before) line) r
failed_tested before (Ok (Some s)) r (inl e) = cc
failed_tested before (Ok (Some s)) r (inr h) = subst (λ tests. BreaksTest tests r) (tests_same before s) h
failed_tested before (Ok None) r (inl e) = cc
failed_tested before (Ok None) r (inr h) = none_broken (line_tests before (Ok None)) refl r h
failed_tested before (Err rule) r (inl e) = inl (cc, refl)
failed_tested before (Err rule) r (inr h) = absurd (none_broken (line_tests before (Err rule)) refl r h)

here_tested : (before : List Reading) (line : Reading) (r : ℕ) → BreaksHere before line r → BreaksTest (tests_of (seen_in before) line) r
here_tested before line r h = failed_tested before line r (fails_here before line r h)

tested_here : (before : List Reading) (line : Reading) (r : ℕ) → BreaksTest (tests_of (seen_in before) line) r → BreaksHere before line r
tested_here before (Ok (Some s)) r h = breaks_here before (Ok (Some s)) r (inr (subst (λ tests. BreaksTest tests r) (sym (tests_same before s)) h))
tested_here before (Ok None) r h = absurd h
tested_here before (Err rule) r (inl h) = inl (ap (λ n. Err n) h.0)
tested_here before (Err rule) r (inr h) = absurd h

tests_climb : (seen : Order) (line : Reading) → climbs (tests_of seen line) ≡ true
tests_climb seen (Ok (Some s)) = refl
tests_climb seen (Ok None) = refl
tests_climb seen (Err rule) = refl

-- the rules of a line's place
pub six_put : (at : ℕ) (a b c d e f : Bool) (l0 l1 l2 l3 l4 l5 l6 : List BrokenRule) → Put l0 104 at a l1 → Put l1 105 at b l2 → Put l2 107 at c l3 → Put l3 108 at d l4 → Put l4 109 at e l5 → Put l5 110 at f l6
    → l6 ≡ with_broken l0 at (test 104 a ∷ test 105 b ∷ test 107 c ∷ test 108 d ∷ test 109 e ∷ test 110 f ∷ [])
six_put at a b c d e f l0 l1 l2 l3 l4 l5 l6 p1 p2 p3 p4 p5 p6 =
    two_put 109 110 at e f l4 l5 l6 p5 p6
    ∙ ap (λ x. with_broken x at (test 109 e ∷ test 110 f ∷ [])) (four_put 104 105 107 108 at a b c d l0 l1 l2 l3 l4 p1 p2 p3 p4)

-- ---- one line more

abbrev AlsoLine : List Reading → Reading → ℕ → ℕ → Type 0
AlsoLine done line = Also (BreaksAt done) (length done + 1) (tests_of (seen_in done) line)

line_said : (done : List Reading) (line : Reading) (r p : ℕ) → AlsoLine done line r p → BreaksAt (done ++ line ∷ []) r p
line_said done line r p (inl h) = record {
  before = h.before;
  line = h.line;
  after = h.after ++ line ∷ [];
  cut = ap (λ l. l ++ line ∷ []) h.cut ∙ append_assoc h.before (h.line ∷ h.after) (line ∷ []);
  place_is = h.place_is;
  breaks = h.breaks;
}
line_said done line r p (inr h) = record {
  before = done;
  line = line;
  after = [];
  cut = refl;
  place_is = h.0;
  breaks = tested_here done line r h.1;
}

line_read : (done : List Reading) (line : Reading) (r p : ℕ) → BreaksAt (done ++ line ∷ []) r p → AlsoLine done line r p
line_read done line r p h = along (two_cuts done line [] h.before h.line h.after h.cut)
  where
    along : AreApart done line h.before h.line → AlsoLine done line r p
    along (inl (zs, e)) = inl (record { before = h.before; line = h.line; after = zs; cut = e; place_is = h.place_is; breaks = h.breaks })
    along (inr (inl (same, at))) =
        let broken = here_tested h.before h.line r h.breaks in
        inr (h.place_is ∙ ap (λ l. length l + 1) (sym same), subst (λ b. BreaksTest (tests_of (seen_in b) line) r) (sym same) (subst (λ l. BreaksTest (tests_of (seen_in h.before) l) r) (sym at) broken))
    along (inr (inr short)) =
        let long = ap length h.cut in
        let left = length_push done line in
        let right = length-append h.before (h.line ∷ h.after) in
        absurd (omega arith)

-- what is broken in these lines is broken before the next
within : (done : List Reading) (r p : ℕ) → BreaksAt done r p → p < length done + 1
within done r p h =
    let long = ap length h.cut in
    let parts = length-append h.before (h.line ∷ h.after) in
    omega (arith, h.place_is)

few_more : (seen : Order) (line : Reading) (n : ℕ) → seen.records ≤ n → (noted seen line).records ≤ n + 1
few_more seen (Ok (Some s)) n few = go (is_rty (kind_of s.code))
  where
    go : (b : Bool) → seen.records + cond b 1 0 ≤ n + 1
    go true = omega arith
    go false = omega arith
few_more seen (Ok None) n few = omega arith
few_more seen (Err rule) n few = omega arith

pub none_held : (b : BrokenLines) → b.line ≡ 0 → b.order ≡ seen_in [] → b.list.items ≡ [] → HoldsBroken [] b
none_held b line order list = record {
  counted = line;
  order = order;
  few = omega (arith, ap (λ o. o.records) order);
  list = subst (AreAllBroken (BreaksAt [])) (sym list) (all_none (BreaksAt []) (λ r p h. no_cut_of_none h.before h.line h.after h.cut));
}

pub one_held : (done : List Reading) (line : Reading) (old new : BrokenLines) → HoldsBroken done old → TakesLine line old new → HoldsBroken (done ++ line ∷ []) new
one_held done line old new h t = record {
  counted = omega (arith, t.counted, h.counted, length_push done line);
  order = t.order ∙ ap (λ o. noted o line) h.order ∙ noted_seen done line;
  few = subst (λ n. new.order.records ≤ n) (sym t.counted) (subst (λ o. o.records ≤ old.line + 1) (sym t.order) (few_more old.order line old.line h.few));
  list = subst (AreAllBroken (BreaksAt (done ++ line ∷ []))) (sym grown)
      (all_same (AlsoLine done line) (BreaksAt (done ++ line ∷ [])) _ (line_said done line) (line_read done line)
      (all_with (tests_of (seen_in done) line) (BreaksAt done) old.list.items (length done + 1) (tests_climb (seen_in done) line) h.list (λ r p broken. inl (within done r p broken))));
}
  where
    grown : new.list.items ≡ with_broken old.list.items (length done + 1) (tests_of (seen_in done) line)
    grown = t.list ∙ ap (λ o. with_broken old.list.items (old.line + 1) (tests_of o line)) h.order ∙ ap (λ n. with_broken old.list.items (n + 1) (tests_of (seen_in done) line)) h.counted

-- ---- all lines

pub held_next : (lines : List Reading) (line : Reading) (after : List Reading) (old new : BrokenLines) → HoldsBroken (take old.line lines) old → drop old.line lines ≡ line ∷ after → TakesLine line old new
    → HoldsBroken (take new.line lines) new × (drop new.line lines ≡ after)
held_next lines line after old new h left t =
    let next = next_of lines old.line line after left in (
      subst (λ n. HoldsBroken (take n lines) new) (sym t.counted) (subst (λ done. HoldsBroken done new) (sym next.more) (one_held (take old.line lines) line old new h t)),
      ap (λ n. drop n lines) t.counted ∙ next.rest,
    )

abbrev Finished : BrokenLines → List BrokenRule → Type 0
Finished b list = list ≡ cond b.order.eom b.list.items (b.list.items ++ record { rule = 106; at = b.line + 1 } ∷ [])

all_finished : (lines : List Reading) (b : BrokenLines) (list : List BrokenRule) → HoldsBroken lines b → Finished b list → AreAllBroken (BreaksIn lines) list
all_finished lines b list h e = go b.order.eom (ap (λ o. o.eom) h.order) e
  where
    to : (seen_in lines).eom ≡ false → (r p : ℕ) → one_more (BreaksAt lines) 106 (b.line + 1) r p → BreaksIn lines r p
    to lacks r p (inl broken) = inl broken
    to lacks r p (inr same) = inr (same.0, omega (arith, same.1, h.counted), lacks)

    from : (r p : ℕ) → BreaksIn lines r p → one_more (BreaksAt lines) 106 (b.line + 1) r p
    from r p (inl broken) = inl broken
    from r p (inr l) = inr (l.0, omega (arith, l.1, h.counted))

    from_none : (seen_in lines).eom ≡ true → (r p : ℕ) → BreaksIn lines r p → BreaksAt lines r p
    from_none has r p (inl broken) = broken
    from_none has r p (inr l) = absurd (both_ways _ l.2 has)

    go : (eom : Bool) → eom ≡ (seen_in lines).eom → list ≡ cond eom b.list.items (b.list.items ++ record { rule = 106; at = b.line + 1 } ∷ []) → AreAllBroken (BreaksIn lines) list
    go true has e = subst (AreAllBroken (BreaksIn lines)) (sym e) (all_same (BreaksAt lines) (BreaksIn lines) _ (λ r p broken. inl broken) (from_none (sym has)) h.list)
    go false lacks e =
        subst (AreAllBroken (BreaksIn lines)) (sym e)
        (all_same (one_more (BreaksAt lines) 106 (b.line + 1)) (BreaksIn lines) _ (to (sym lacks)) from
        (all_push (BreaksAt lines) b.list.items 106 (b.line + 1) h.list (λ r p broken. let below = within lines r p broken in inl (omega (arith, h.counted)))))

pub all_lines : (bytes : List ℕ) (b : BrokenLines) (result : Result (Vec BrokenRule Global) AllocError) → HoldsBroken (take b.line (readings_of bytes)) b → drop b.line (readings_of bytes) ≡ []
    → IfOk result (λ list. Finished b list.items) → IfOk result (λ list. AreAllBroken (BreaksLineRule bytes) list.items)
all_lines bytes b (Ok list) h left e =
    let all = subst (λ done. HoldsBroken done b) (taken_all (readings_of bytes) b.line left) h in
    all_same (BreaksIn (readings_of bytes)) (BreaksLineRule bytes) list.items (rule_said bytes) (rule_read bytes) (all_finished (readings_of bytes) b list.items all e)
all_lines bytes b (Err fault) h left e = tt
