-- The lines of pairings, and files that begin with them.
use Rattle.std.proofs.Common.{◌≡◌, ◌≢◌, ℕ, zero, suc, ◌+◌, ◌-◌, ◌<◌, ◌≤◌, ◌⊎◌, inl, inr, Bool, true, false, List, [], ◌∷◌, ◌++◌, append_assoc, add-one, ◌==◌, eqb-true, length, length-append, get_or, refl, sym, ap, ap₂, ◌∙◌, subst, arith}
use Rattle.std.proofs.lemmas.Bool.{cases_lt}
use Rattle.std.proofs.lemmas.List.{append_cancel_left, append-nil, ext_get_or, get_or_append_left, get_or_default, get_or_push}
use Rattle.edi_rank.specs.Labelling.{turned_at}
use Rattle.edi_pairing.specs.Names.{AreNames, name_at}
use Rattle.edi_pairing.specs.PairingText.{head, line_at, line_of, first_lines, Pairs, StatesPairing, Begins}
use Rattle.edi_pairing.specs.WrongLines.{IsFirstReason, IsWrongBy}
use Rattle.edi_pairing.specs.declared.fault.WrongLine.{WrongLine}
use Rattle.edi_pairing.specs.Laws.{PairingTextsAreUnique}
use Rattle.edi_pairing.specs.inner.Reading.{BeginsWith}
use Rattle.edi_pairing.specs.declared.names.RecordName.{RecordName}
use Rattle.edi_compare.specs.declared.pairing.Pairing.{Pairing}
use Rattle.edi_pairing.proofs.LineLemmas.{line_apart}

-- the name that is read at a place
pub name_here : (list a : List RecordName) (n : ℕ) (x : RecordName) → list ≡ a → n < length list → x ≡ get_or list n x → name_at a n ≡ x
name_here list a n x e less is = ap (λ ns. name_at ns n) (sym e) ∙ (get_or_default list n _ x less ∙ sym is)

-- what `is_empty` says
pub none_left : (text : List ℕ) (r : Bool) → r ≡ (length text == 0) → r ≡ true → text ≡ []
none_left [] r e h = refl
none_left (x ∷ text) r e h = let none = eqb-true (suc (length text)) 0 (sym e ∙ h) in absurd (omega (arith, none))

pub some_left : (text : List ℕ) (r : Bool) → r ≡ (length text == 0) → r ≡ false → text ≢ []
some_left text r e h none = true_false (ap (λ t. length t == 0) (sym none) ∙ (sym e ∙ h))
  where
    true_false : true ≡ false → ⊥
    true_false is = cc

-- the lines of so many records were read, and this comes behind them
pub record IsReadTo (a b : List RecordName) (file : List ℕ) (to : List ℕ) (turned : List Bool) (behind : List ℕ) (count : ℕ) : Type 0 where
  pub paired : length to ≡ count
  pub directed : length turned ≡ count
  pub pairs : Pairs a b (record { to = to; turned = turned }) count
  pub cut : file ≡ first_lines a b (record { to = to; turned = turned }) (suc count) ++ behind

-- two pairings have the same entries before a place
pub record AreOneTo (p q : Pairing) (n : ℕ) : Type 0 where
  pub to : (k : ℕ) → k < n → get_or p.to k 0 ≡ get_or q.to k 0
  pub turned : (k : ℕ) → k < n → turned_at p.turned k ≡ turned_at q.turned k

less_one : (p q : Pairing) (n : ℕ) → AreOneTo p q (suc n) → AreOneTo p q n
less_one p q n h = record { to = λ k l. h.to k (omega arith); turned = λ k l. h.turned k (omega arith) }

module _ (a b : List RecordName) where
  fewer : (p : Pairing) (n m : ℕ) → m ≤ n → Pairs a b p n → Pairs a b p m
  fewer p n m le h = record { within = λ k l. h.within k (omega arith); typed = λ k l. h.typed k (omega arith) }

  -- the lines of the same entries are the same
  pub lines_same : (p q : Pairing) (n : ℕ) → AreOneTo p q n → first_lines a b p (suc n) ≡ first_lines a b q (suc n)
  lines_same p q zero h = refl
  lines_same p q (suc n) h = ap₂ (λ x y. x ++ y) (lines_same p q n (less_one p q n h)) (ap₂ (λ t u. line_of (name_at a n) (name_at b t).rid u) (h.to n (omega arith)) (h.turned n (omega arith)))

  -- the line of a record, with what comes behind it
  begins : (p : Pairing) (n : ℕ) (x : List ℕ) → Pairs a b p (suc n) → BeginsWith b (name_at a n) (line_at a b p (suc n) ++ x) (get_or p.to n 0) (turned_at p.turned n) x
  begins p n x h = record { within = h.within n (omega arith); typed = h.typed n (omega arith); cut = refl }

  -- a text that begins with the lines of two pairings begins with those of one
  pub lines_apart : AreNames b → (p q : Pairing) (n : ℕ) → Pairs a b p n → Pairs a b q n → (x y : List ℕ) → first_lines a b p (suc n) ++ x ≡ first_lines a b q (suc n) ++ y → AreOneTo p q n × (x ≡ y)
  lines_apart names p q zero hp hq x y e = (record { to = λ k l. absurd (omega arith); turned = λ k l. absurd (omega arith) }, append_cancel_left head x y e)
  lines_apart names p q (suc n) hp hq x y e =
      let front = sym (append_assoc (first_lines a b p (suc n)) (line_at a b p (suc n)) x) ∙ (e ∙ append_assoc (first_lines a b q (suc n)) (line_at a b q (suc n)) y) in
      let more = lines_apart names p q n (fewer p (suc n) n (omega arith) hp) (fewer q (suc n) n (omega arith) hq) (line_at a b p (suc n) ++ x) (line_at a b q (suc n) ++ y) front in
      let here = line_apart b (name_at a n) names (line_at a b p (suc n) ++ x) (get_or p.to n 0) (get_or q.to n 0) (turned_at p.turned n) (turned_at q.turned n) x y (begins p n x hp)
      (subst (λ t. BeginsWith b (name_at a n) t (get_or q.to n 0) (turned_at q.turned n) y) (sym more.1) (begins q n y hq)) in (
        record {
          to = λ k l. by k l (cases_lt k n) (more.0.to k) (λ e. ap (λ j. get_or p.to j 0) e ∙ (here.0 ∙ ap (λ j. get_or q.to j 0) (sym e)));
          turned = λ k l. by k l (cases_lt k n) (more.0.turned k) (λ e. ap (turned_at p.turned) e ∙ (here.1 ∙ ap (turned_at q.turned) (sym e)));
        },
        here.2,
      )
    where
      by : {X : Type 0} (k : ℕ) → k < suc n → (k < n) ⊎ (n ≤ k) → (k < n → X) → (k ≡ n → X) → X
      by k l (inl less) below same = below less
      by k l (inr past) below same = same (omega arith)

  -- fewer lines come first
  pub lines_split : (p : Pairing) (m n : ℕ) → m ≤ n → (rest : List ℕ) × (first_lines a b p n ≡ first_lines a b p m ++ rest)
  lines_split p m zero le = let e : m ≡ 0 = omega arith in ([], ap (first_lines a b p) (sym e) ∙ sym (append-nil (first_lines a b p m)))
  lines_split p m (suc n) le = by (cases_lt n m) (lines_split p m n)
    where
      by : (n < m) ⊎ (m ≤ n) → (m ≤ n → (rest : List ℕ) × (first_lines a b p n ≡ first_lines a b p m ++ rest)) → (rest : List ℕ) × (first_lines a b p (suc n) ≡ first_lines a b p m ++ rest)
      by (inl past) split = let e : suc n ≡ m = omega arith in ([], ap (first_lines a b p) e ∙ sym (append-nil (first_lines a b p m)))
      by (inr more) split =
          let r = split more in
          (r.0 ++ line_at a b p n, ap (λ t. t ++ line_at a b p n) r.1 ∙ append_assoc (first_lines a b p m) r.0 (line_at a b p n))

  -- ---- files as they are read

  -- a file that states a pairing begins with each number of its lines
  begun : (p : Pairing) (file : List ℕ) (lines : ℕ) → StatesPairing a b p file → lines ≤ length a + 1 → Begins a b file lines
  begun p file lines h le =
      let rest = lines_split p lines (suc (length a)) (omega arith) in
      record { pairing = p; behind = rest.0; few = le; pairs = fewer p (length a) (lines - 1) (omega arith) h.is_pairing.pairs; cut = h.is_text ∙ rest.1 }

  pub none_read : (file text : List ℕ) → file ≡ head ++ text → IsReadTo a b file [] [] text 0
  none_read file text e = record { paired = refl; directed = refl; pairs = record { within = λ k l. absurd (omega arith); typed = λ k l. absurd (omega arith) }; cut = e }

  pub one_read : (file to to' : List ℕ) (turned turned' : List Bool) (n t : ℕ) (u : Bool) (text behind : List ℕ) (name : RecordName) → IsReadTo a b file to turned text n
      → name_at a n ≡ name → BeginsWith b name text t u behind → to' ≡ to ++ t ∷ [] → turned' ≡ turned ++ u ∷ [] → IsReadTo a b file to' turned' behind (n + 1)
  one_read file to to' turned turned' n t u text behind name h is line e f = subst (IsReadTo a b file to' turned' behind) (sym (add-one n)) (record {
    paired = omega (arith, ap length e, length-append to (t ∷ []), h.paired);
    directed = omega (arith, ap length f, length-append turned (u ∷ []), h.directed);
    pairs = record { within = pairs_within; typed = pairs_typed };
    cut = whole;
  })
    where
      p : Pairing
      p = record { to = to; turned = turned }

      q : Pairing
      q = record { to = to'; turned = turned' }

      to_old : (k : ℕ) → k < n → get_or to k 0 ≡ get_or to' k 0
      to_old k l = sym (ap (λ xs. get_or xs k 0) e ∙ get_or_append_left to (t ∷ []) 0 k (omega (arith, h.paired)))

      to_new : get_or to' n 0 ≡ t
      to_new = ap (λ xs. get_or xs n 0) e ∙ get_or_push to t 0 n h.paired

      turned_old : (k : ℕ) → k < n → turned_at turned k ≡ turned_at turned' k
      turned_old k l = sym (ap (λ xs. turned_at xs k) f ∙ get_or_append_left turned (u ∷ []) false k (omega (arith, h.directed)))

      turned_new : turned_at turned' n ≡ u
      turned_new = ap (λ xs. turned_at xs n) f ∙ get_or_push turned u false n h.directed

      by : (P : ℕ → Type 0) (k : ℕ) → k < suc n → ((j : ℕ) → j < n → P j) → P n → P k
      by P k l below here = go (cases_lt k n)
        where
          go : (k < n) ⊎ (n ≤ k) → P k
          go (inl less) = below k less
          go (inr past) = let same : n ≡ k = omega arith in subst P same here

      pairs_within : (k : ℕ) → k < suc n → get_or to' k 0 < length b
      pairs_within k l = by (λ j. get_or to' j 0 < length b) k l (λ j less. subst (λ x. x < length b) (to_old j less) (h.pairs.within j less)) (subst (λ x. x < length b) (sym to_new) line.within)

      pairs_typed : (k : ℕ) → k < suc n → (name_at b (get_or to' k 0)).kind ≡ (name_at a k).kind
      pairs_typed k l = by (λ j. (name_at b (get_or to' j 0)).kind ≡ (name_at a j).kind) k l
          (λ j less. ap (λ x. (name_at b x).kind) (sym (to_old j less)) ∙ h.pairs.typed j less)
          (ap (λ x. (name_at b x).kind) to_new ∙ (line.typed ∙ ap (λ (m : RecordName). m.kind) (sym is)))

      whole : file ≡ (first_lines a b q (suc n) ++ line_at a b q (suc n)) ++ behind
      whole =
          let front : first_lines a b p (suc n) ≡ first_lines a b q (suc n) = lines_same p q n (record { to = to_old; turned = turned_old }) in
          let here : text ≡ line_at a b q (suc n) ++ behind = line.cut ∙ (λ i. line_of (sym is i) (name_at b (sym to_new i)).rid (sym turned_new i) ++ behind) in
          h.cut ∙ ((λ i. front i ++ here i) ∙ sym (append_assoc (first_lines a b q (suc n)) (line_at a b q (suc n)) behind))

  -- what was read of the file is the beginning of a text
  read_begins : (file to : List ℕ) (turned : List Bool) (text : List ℕ) (n lines : ℕ) → IsReadTo a b file to turned text n → n ≤ length a → lines ≡ suc n → Begins a b file lines
  read_begins file to turned text n lines h le e = record {
    pairing = record { to = to; turned = turned };
    behind = text;
    few = omega arith;
    pairs = fewer (record { to = to; turned = turned }) n (lines - 1) (omega arith) h.pairs;
    cut = h.cut ∙ ap (λ m. first_lines a b (record { to = to; turned = turned }) m ++ text) (sym e);
  }

  pub wrong_head : (file : List ℕ) (why : WrongLine) → ((rest : List ℕ) → file ≢ head ++ rest) → IsFirstReason a b 1 (name_at a 0) file why → IsWrongBy a b file 1 why
  wrong_head file why none reason = record {
    wrong = record {
      from_one = omega arith;
      before = record { pairing = record { to = []; turned = [] }; behind = file; few = omega arith; pairs = record { within = λ k l. absurd (omega arith); typed = λ k l. absurd (omega arith) }; cut = refl };
      here = λ h. none h.behind h.cut;
      none = λ p h. let g = begun p file 1 h (omega arith) in none g.behind g.cut;
    };
    reason = reason;
  }

  module _ (names : AreNames b) where
    not_here : (file to : List ℕ) (turned : List Bool) (text : List ℕ) (n : ℕ) → IsReadTo a b file to turned text n
        → ((t : ℕ) (u : Bool) (behind : List ℕ) → ¬ (BeginsWith b (name_at a n) text t u behind)) → ¬ (Begins a b file (suc (suc n)))
    not_here file to turned text n h none g =
        let q = g.pairing in
        let pairs : Pairs a b q (suc n) = fewer q (suc (suc n) - 1) (suc n) (omega arith) g.pairs in
        let cut = sym h.cut ∙ (g.cut ∙ append_assoc (first_lines a b q (suc n)) (line_at a b q (suc n)) g.behind) in
        let same = lines_apart names (record { to = to; turned = turned }) q n h.pairs (fewer q (suc n) n (omega arith) pairs) text (line_at a b q (suc n) ++ g.behind) cut in
        none (get_or q.to n 0) (turned_at q.turned n) g.behind (record { within = pairs.within n (omega arith); typed = pairs.typed n (omega arith); cut = same.1 })

    pub wrong_line : (file to : List ℕ) (turned : List Bool) (text : List ℕ) (n : ℕ) (name : RecordName) → IsReadTo a b file to turned text n → n < length a → name_at a n ≡ name
        → ((t : ℕ) (u : Bool) (behind : List ℕ) → ¬ (BeginsWith b name text t u behind)) → (why : WrongLine) → IsFirstReason a b (n + 2) (name_at a n) text why → IsWrongBy a b file (n + 2) why
    unfolding read_begins
    wrong_line file to turned text n name h less is none why reason =
        let two : suc (suc n) ≡ n + 2 = omega arith in
        let here = not_here file to turned text n h (λ t u behind. subst (λ m. ¬ (BeginsWith b m text t u behind)) (sym is) (none t u behind)) in
        record {
          wrong = record {
            from_one = omega arith;
            before = read_begins file to turned text n (n + 2 - 1) h (omega arith) (omega arith);
            here = subst (λ m. ¬ (Begins a b file m)) two here;
            none = λ p s. here (begun p file (suc (suc n)) s (omega arith));
          };
          reason = subst (λ k. IsFirstReason a b (n + 2) (name_at a k) text why) (let e : n ≡ n + 2 - 2 = omega arith in e) reason;
        }

    pub wrong_end : (file to : List ℕ) (turned : List Bool) (text : List ℕ) (n line : ℕ) → n ≡ length a → line ≡ n + 2 → IsReadTo a b file to turned text n → text ≢ []
        → (why : WrongLine) → IsFirstReason a b line (name_at a (line - 2)) text why → IsWrongBy a b file line why
    unfolding read_begins
    wrong_end file to turned text n line long e h some why reason = record {
      wrong = record {
        from_one = omega arith;
        before = read_begins file to turned text n (line - 1) h (omega arith) (omega arith);
        here = λ g. omega (arith, g.few);
        none = λ p s. some ((lines_apart names (record { to = to; turned = turned }) p n h.pairs (fewer p (length a) n (omega arith) s.is_pairing.pairs) text []
            (sym h.cut ∙ (s.is_text ∙ (ap (λ m. first_lines a b p (suc m)) (sym long) ∙ sym (append-nil (first_lines a b p (suc n))))))).1);
      };
      reason = reason;
    }

  pub all_read : (file to : List ℕ) (turned : List Bool) (text : List ℕ) (n : ℕ) → n ≡ length a → IsReadTo a b file to turned text n → text ≡ [] → StatesPairing a b (record { to = to; turned = turned }) file
  all_read file to turned text n long h none = record {
    is_pairing = record { all_paired = h.paired ∙ long; all_directed = h.directed ∙ long; pairs = fewer (record { to = to; turned = turned }) n (length a) (omega arith) h.pairs };
    is_text = h.cut ∙ (ap (λ t. first_lines a b (record { to = to; turned = turned }) (suc n) ++ t) none
        ∙ (append-nil (first_lines a b (record { to = to; turned = turned }) (suc n)) ∙ ap (λ m. first_lines a b (record { to = to; turned = turned }) (suc m)) long));
  }

-- a text states one pairing
pub texts_unique : PairingTextsAreUnique
texts_unique = record {
  stated = λ a b p h. record { is_pairing = h; is_text = refl };
  alone = λ a b p q names h s.
      let e : first_lines a b q (suc (length a)) ++ [] ≡ first_lines a b p (suc (length a)) ++ [] = ap (λ t. t ++ []) (sym s.is_text) in
      let one = (lines_apart a b names q p (length a) s.is_pairing.pairs h.pairs [] [] e).0 in
      let to : q.to ≡ p.to = ext_get_or 0 q.to p.to (s.is_pairing.all_paired ∙ sym h.all_paired) (λ k l. one.to k (omega (arith, s.is_pairing.all_paired))) in
      let turned : q.turned ≡ p.turned = ext_get_or false q.turned p.turned (s.is_pairing.all_directed ∙ sym h.all_directed) (λ k l. one.turned k (omega (arith, s.is_pairing.all_directed))) in
      λ i. record { to = to i; turned = turned i };
}
