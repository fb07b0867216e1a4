-- Runs of entries with one key.
use Rattle.std.proofs.Common.{◌≡◌, inl, inr, ℕ, zero, suc, ◌+◌, ◌-◌, ◌<◌, ◌≤◌, Bool, true, false, not, cond, ltb, List, [], ◌∷◌, Option, None, Some, Contains, drop, take, length, get_or, refl, sym, ap, ◌∙◌, arith}
use Rattle.std.specs.Cmp.{IsEquivalence}
use Rattle.std.specs.List.{before_first, position_or_len}
use Rattle.std.proofs.lemmas.Bool.{ltb-false, not-false, false_from_ne_true}
use Rattle.std.proofs.lemmas.List.{get_or-drop, get_or-take, length-drop, length-take, take_all}
use Rattle.std.proofs.lemmas.List.Sums.{fails_before_first}
use Rattle.edi_plan.specs.Plans.{PlanData}
use Rattle.edi_matching.specs.declared.ranked.Member.{Member}
use Rattle.edi_matching.specs.inner.Additions.{AreAlike, HasKey, HaveOneKey, IsListed, StartsRun}
use Rattle.edi_matching.proofs.RecordsAdded.{same_default}

-- the entries from a position on, up to the first with another key

abbrev pub run_of : {K : Type 0} → (K → K → Bool) → List (K × Member) → ℕ → K → List (K × Member)
run_of {K} eq entries from key = before_first (λ (z : K × Member). not (eq z.0 key)) (drop from entries)

run_listed : {K : Type 0} (eq : K → K → Bool) (entries : List (K × Member)) (from : ℕ) (key : K) (x : K × Member) → Contains (run_of eq entries from key) x → Contains entries x × (eq x.0 key ≡ true)
run_listed {K} eq entries from key x c =
    let k : ℕ = c.0 in
    let within = c.1 in
    let other : K × Member → Bool = λ z. not (eq z.0 key) in
    let n : ℕ = position_or_len other (drop from entries) in
    let few : k < n = omega (arith, within, length-take n (drop from entries)) in
    let less : k < length (drop from entries) = omega (arith, within, length-take n (drop from entries)) in
    let same : get_or (drop from entries) k x ≡ x = sym (get_or-take n (drop from entries) k x few) ∙ c.2 in (
      (from + k, omega (arith, less, length-drop from entries), sym (get_or-drop from entries k x) ∙ same),
      sym (ap (λ (z : K × Member). eq z.0 key) same) ∙ not-false (eq (get_or (drop from entries) k x).0 key) (fails_before_first other (drop from entries) k x few),
    )

pub runs_share : {K : Type 0} (eq : K → K → Bool) → IsEquivalence eq → (p q : PlanData) (entries others : List (K × Member)) (from at : ℕ) (key : K) (i j : ℕ)
    → IsListed (run_of eq entries from key) i × IsListed (run_of eq others at key) j × AreAlike p q i j → HaveOneKey eq (λ (m : Member). m.place) entries others i j × AreAlike p q i j
runs_share eq laws p q entries others from at key i j w =
    let x = w.0.0 in
    let y = w.1.0 in
    let here = run_listed eq entries from key x w.0.1 in
    let there = run_listed eq others at key y w.1.1 in (
      record {
        here = x;
        there = y;
        listed = here.0;
        listed_there = there.0;
        same = laws.congr y.0 key x.0 there.1 ∙ (laws.symm key x.0 ∙ here.1);
        is_here = w.0.2;
        is_there = w.1.2;
      },
      w.2,
    )

-- an element of a list of one
pub only_one : {X : Type 0} (xs : List X) (one x : X) (n : ℕ) → xs ≡ one ∷ [] → n < length xs → x ≡ get_or xs n x → x ≡ one
only_one xs one x zero alone within is = is ∙ ap (λ ys. get_or ys 0 x) alone
only_one xs one x (suc n) alone within is = absurd (let long = ap length alone in omega (arith, within, long))

-- ---- where runs start

not_both : (b : Bool) → not b ≡ true → b ≡ true → ⊥
not_both true h k = cc
not_both false h k = cc

not_one : (b : Bool) → ¬ (b ≡ true) → not b ≡ true
not_one true h = absurd (h refl)
not_one false h = refl

module _ {K : Type 0} (eq : K → K → Bool) (entries : List (K × Member)) (at : ℕ) (x : K × Member) (less : at < length entries) (behind : ¬ (at ≡ 0)) (is : x ≡ get_or entries at x) where
  before : at - 1 < length entries
  before = omega (arith, less)

  has_key : (d : K × Member) → eq (get_or entries (at - 1) d).0 (get_or entries at d).0 ≡ true → HasKey eq entries (at - 1) x.0
  has_key d h = record {
    within = before;
    same = λ e. ap (λ (y : K × Member). eq y.0 x.0) (same_default entries (at - 1) e d before)
        ∙ (ap (λ (y : K × Member). eq (get_or entries (at - 1) d).0 y.0) (is ∙ same_default entries at x d less) ∙ h);
  }

  -- an entry behind the first starts a run exactly if the one before it has another key
  pub starts_by : (b : Bool) → (b ≡ true → HasKey eq entries (at - 1) x.0) × (HasKey eq entries (at - 1) x.0 → b ≡ true)
      → (not b ≡ true → StartsRun eq entries at) × (StartsRun eq entries at → not b ≡ true)
  starts_by b has = (
    λ other. inr (λ d. false_from_ne_true (eq (get_or entries (at - 1) d).0 (get_or entries at d).0) (λ h. not_both b other (has.1 (has_key d h)))),
    λ starts. not_one b (λ h. apart (has.0 h) starts),
  )
    where
      apart : HasKey eq entries (at - 1) x.0 → StartsRun eq entries at → ⊥
      apart h (inl first) = behind first
      apart h (inr other) =
          let same = ap (λ (y : K × Member). eq (get_or entries (at - 1) x).0 y.0) is ∙ other x in
          let found = h.same x in cc

-- what stands before the first element that passes a test, by where that was found

some_at : (n size end : ℕ) → cond (ltb n size) (Some n) None ≡ Some end → n ≡ end
some_at n size end e = go (ltb n size) e
  where
    go : (b : Bool) → cond b (Some n) None ≡ Some end → n ≡ end
    go true is = cc
    go false is = cc

none_at : (n size : ℕ) → cond (ltb n size) (Some n) None ≡ None → size ≤ n
none_at n size e = go (ltb n size) refl e
  where
    go : (b : Bool) → ltb n size ≡ b → cond b (Some n) None ≡ None → size ≤ n
    go true is wrong = absurd (let f : Some n ≡ None = wrong in cc)
    go false is right = ltb-false n size is

pub found_some : {X : Type 0} (test : X → Bool) (rest all : List X) (found : Option ℕ) (end : ℕ) → rest ≡ all → found ≡ cond (ltb (position_or_len test rest) (length rest)) (Some (position_or_len test rest)) None → found ≡ Some end
    → take end rest ≡ before_first test all
found_some test rest all found end same is at =
    ap (λ n. take n rest) (sym (some_at (position_or_len test rest) (length rest) end (sym is ∙ at))) ∙ ap (before_first test) same

pub found_none : {X : Type 0} (test : X → Bool) (rest all : List X) (found : Option ℕ) → rest ≡ all → found ≡ cond (ltb (position_or_len test rest) (length rest)) (Some (position_or_len test rest)) None → found ≡ None
    → rest ≡ before_first test all
found_none test rest all found same is at =
    sym (take_all (position_or_len test rest) rest (none_at (position_or_len test rest) (length rest) (sym is ∙ at))) ∙ ap (before_first test) same
