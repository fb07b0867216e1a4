-- Words without a fault name check, canon, compare, hash, explain, verify, diff, draw, delivery or changed, or no subcommand.
use Rattle.std.proofs.Common.{◌≡◌, ◌≢◌, ◌||◌, ◌⊎◌, ℕ, Bool, true, false, not, cond, List, [], ◌∷◌, Option, Some, None, codes, length, is_some, option_map, refl, sym, ap, subst, inl, inr, arith}
use Rattle.std.specs.Prelude.{fold, unwrap_or, if◌then◌else◌, ⊤}
use Rattle.std.specs.Str.{bytes_eq}
use Rattle.std.proofs.lemmas.Bool.{false≢true}
use Rattle.std.proofs.lemmas.Slice.Eq.{bytes_eq-Decides}
use Rattle.clap.specs.Lexer.{long_of, short_of}
use Rattle.clap.specs.Kinds.{Kinds, or_else}
use Rattle.clap.specs.Walk.{Held, Names, Outcome, Row, Rule, Step, Text, Waiting, Walk, after_flag, after_step, arg_by_index, arg_by_long, bundle, done, idle, long_met, long_or_other, next, nothing_held, option, plain, plain_word, positional, refused, short_or_plain, subcommand, subcommand_met, subcommand_or_other, stop_after, to_positional, trailing, value, waits, walk_from, walked, walked_from, word_met}
use Rattle.clap.specs.Simple.{Shape, argument_words, built, entered, names_of, rows_at, subcommand_of}
use Rattle.clap.specs.Faults.{fault_of, other_fault, step_fault, turn_fault, walk_fault, word_fault}
use Rattle.clap.specs.declared.error.kind.ErrorKind.TheVariants.{DisplayHelp, InvalidSubcommand}
use Rattle.edi_words.specs.Requests.{edicad}
use Rattle.edi_words.specs.inner.Requests.{IsOwn}

first_none : (a b : Kinds) → or_else a b ≡ [] → a ≡ []
first_none [] b e = refl
first_none (k ∷ ks) b e = e

next_none : (a b : Kinds) → or_else a b ≡ [] → b ≡ []
next_none [] b e = e
next_none (k ∷ ks) b e = absurd (omega (arith, ap length e))

-- a stop is at another subcommand than `help`
abbrev IsElsewhere : Option (Text × List Text) → Type 0
IsElsewhere None = ⊤
IsElsewhere (Some p) = p.0 ≢ codes "help"

abbrev NamesOther : Step → Type 0
NamesOther (next waiting) = ⊤
NamesOther (trailing position) = ⊤
NamesOther (subcommand name) = name ≢ codes "help"
NamesOther value = ⊤

either : (b : Bool) (x y : Held × Step) → NamesOther x.1 → NamesOther y.1 → NamesOther (if b then x else y).1
either true x y h k = h
either false x y h k = k

plain_other : (c : List Rule) (waiting : Waiting) (word : Text) (h : Held) → NamesOther (plain_word c waiting word h).1
plain_other c idle word h = tt
plain_other c (option id) word h = tt
plain_other c positional word h = tt

flag_other : (c : List Rule) (waiting : Waiting) (word : Text) (h : Held) (o : Outcome) → NamesOther (after_flag c waiting word h o).1
flag_other c waiting word h done = tt
flag_other c waiting word h (waits id) = tt
flag_other c waiting word h plain = plain_other c waiting word h
flag_other c waiting word h refused = plain_other c waiting word h

short_other : (c : List Rule) (waiting : Waiting) (word : Text) (o : Option Text) (h : Held) → NamesOther (short_or_plain c waiting word o h).1
short_other c waiting word (Some flags) h = flag_other c waiting word (bundle c flags h).0 (bundle c flags h).1
short_other c waiting word None h = plain_other c waiting word h

long_other : (c : List Rule) (waiting : Waiting) (word : Text) (o : Option (Text × Option Text)) (h : Held) → NamesOther (long_or_other c waiting word o h).1
long_other c waiting word (Some p) h =
    flag_other c waiting word (long_met c (arg_by_long c p.0) p.1 h).0 (long_met c (arg_by_long c p.0) p.1 h).1
long_other c waiting word None h = short_other c waiting word (short_of word) h

-- `help` has a fault
module _ (s : Shape) (shows : s.disable_help_subcommand ≡ false) where
  named_other : (name word : Text) (h : Held) → other_fault s (Some name) word h ≡ [] → name ≢ codes "help"
  named_other name word h none is =
      let at_help : other_fault s (Some (codes "help")) word h ≡ [] = subst (λ n. other_fault s (Some n) word h ≡ []) is none in
      let shown : (DisplayHelp ∷ InvalidSubcommand ∷ []) ≡ [] = subst (λ b. (if not b then DisplayHelp ∷ InvalidSubcommand ∷ [] else []) ≡ []) shows at_help in
      absurd (omega (arith, ap length shown))

  met_other : (waiting : Waiting) (position : ℕ) (word : Text) (h : Held) (met : Option Text) → other_fault s met word h ≡ []
      → NamesOther (subcommand_or_other s.rules met waiting position word h).1
  met_other waiting position word h (Some name) none = named_other name word h none
  met_other waiting position word h None none =
      either (bytes_eq word (45 ∷ 45 ∷ [])) (h, trailing position) (long_or_other s.rules waiting word (long_of word) h) tt (long_other s.rules waiting word (long_of word) h)

  word_other : (names : Names) (is_trailing : Bool) (waiting : Waiting) (position : ℕ) (word : Text) (h : Held) → word_fault s names is_trailing waiting word h ≡ []
      → NamesOther (word_met s.rules names is_trailing waiting position word h).1
  word_other names true waiting position word h none = tt
  word_other names false waiting position word h none = met_other waiting position word h (subcommand_met names waiting word) none

  to_other : (o : Option Rule) (word : Text) (w : Walk) (h : Held) → IsElsewhere w.stopped → IsElsewhere (to_positional s.rules o word w h).stopped
  to_other None word w h k = k
  to_other (Some a) word w h k = tt

  step_other : (word : Text) (w : Walk) (h : Held) (step : Step) → IsElsewhere w.stopped → NamesOther step → IsElsewhere (after_step s.rules word w h step).stopped
  step_other word w h (next waiting) k n = k
  step_other word w h (trailing position) k n = k
  step_other word w h (subcommand name) k n = n
  step_other word w h value k n = to_other (arg_by_index s.rules w.position) word w h k

  from_other : (names : Names) (w : Walk) (word : Text) (stopped : Option (Text × List Text)) (rest : Kinds) → IsElsewhere stopped → IsElsewhere w.stopped
      → (if is_some stopped then [] else or_else (word_fault s names w.is_trailing w.waiting word w.held) rest) ≡ []
      → IsElsewhere (walked_from s.rules names stopped w word).stopped
  from_other names w word (Some p) rest at k none = at
  from_other names w word None rest at k none =
      step_other word w (word_met s.rules names w.is_trailing w.waiting w.position word w.held).0 (word_met s.rules names w.is_trailing w.waiting w.position word w.held).1 k
      (word_other names w.is_trailing w.waiting w.position word w.held (first_none _ rest none))

  walked_other : (names : Names) (w : Walk) (word : Text) → IsElsewhere w.stopped → turn_fault s names w word ≡ [] → IsElsewhere (walked s.rules names w word).stopped
  unfolding walked
  walked_other names w word k none =
      from_other names w word w.stopped (step_fault s w.position (word_met s.rules names w.is_trailing w.waiting w.position word w.held).0 (word_met s.rules names w.is_trailing w.waiting w.position word w.held).1) k k none

  -- no word of a walk without a fault is `help`
  pub walk_other : (names : Names) (words : List Text) (w : Walk) → IsElsewhere w.stopped → walk_fault s names w words ≡ []
      → IsElsewhere (fold (walked s.rules names) w words).stopped
  unfolding walk_fault
  walk_other names [] w k none = k
  walk_other names (word ∷ rest) w k none =
      walk_other names rest (walked s.rules names w word) (walked_other names w word k (first_none _ _ none)) (next_none _ _ none)

abbrev NameOf : Option (Text × List Row) → Text
NameOf met = unwrap_or (option_map (λ (p : Text × List Row). p.0) met) []

-- one of ten names
abbrev IsOneOf : Text → Text → Text → Text → Text → Text → Text → Text → Text → Text → Text → Type 0
IsOneOf name x y z w u t r q p o =
    (name ≡ x) ⊎ ((name ≡ y) ⊎ ((name ≡ z) ⊎ ((name ≡ w) ⊎ ((name ≡ u) ⊎ ((name ≡ t) ⊎ ((name ≡ r) ⊎ ((name ≡ q) ⊎ ((name ≡ p) ⊎ (name ≡ o)))))))))

-- the name of the first of eleven subcommands that is met, where the eleventh isn't
picked : (a b c d f g k l m n e : Bool) (x y z w u t r q p o v : Shape) (words : List Text) (met : Text × List Row) → e ≢ true
    → option_map (λ (s : Shape). rows_at s words)
    (cond (a || false) (Some x) (cond (b || false) (Some y) (cond (c || false) (Some z) (cond (d || false) (Some w) (cond (f || false) (Some u) (cond (g || false) (Some t) (cond (k || false) (Some r) (cond (l || false) (Some q) (cond (m || false) (Some p) (cond (n || false) (Some o) (cond (e || false) (Some v) None)))))))))))
    ≡ Some met → IsOneOf met.0 x.name y.name z.name w.name u.name t.name r.name q.name p.name o.name
picked true b c d f g k l m n e x y z w u t r q p o v words met last h = inl (sym (ap NameOf h))
picked false true c d f g k l m n e x y z w u t r q p o v words met last h = inr (inl (sym (ap NameOf h)))
picked false false true d f g k l m n e x y z w u t r q p o v words met last h = inr (inr (inl (sym (ap NameOf h))))
picked false false false true f g k l m n e x y z w u t r q p o v words met last h = inr (inr (inr (inl (sym (ap NameOf h)))))
picked false false false false true g k l m n e x y z w u t r q p o v words met last h = inr (inr (inr (inr (inl (sym (ap NameOf h))))))
picked false false false false false true k l m n e x y z w u t r q p o v words met last h = inr (inr (inr (inr (inr (inl (sym (ap NameOf h)))))))
picked false false false false false false true l m n e x y z w u t r q p o v words met last h = inr (inr (inr (inr (inr (inr (inl (sym (ap NameOf h))))))))
picked false false false false false false false true m n e x y z w u t r q p o v words met last h = inr (inr (inr (inr (inr (inr (inr (inl (sym (ap NameOf h)))))))))
picked false false false false false false false false true n e x y z w u t r q p o v words met last h = inr (inr (inr (inr (inr (inr (inr (inr (inl (sym (ap NameOf h))))))))))
picked false false false false false false false false false true e x y z w u t r q p o v words met last h = inr (inr (inr (inr (inr (inr (inr (inr (inr (sym (ap NameOf h))))))))))
picked false false false false false false false false false false true x y z w u t r q p o v words met last h = absurd (last refl)
picked false false false false false false false false false false false x y z w u t r q p o v words met last h = absurd (false≢true (ap is_some h))

entered_name : (stop : Option (Text × List Text)) (met : Text × List Row) → IsElsewhere stop → entered (built edicad) stop ≡ Some met
    → IsOneOf met.0 (codes "check") (codes "canon") (codes "compare") (codes "hash") (codes "explain") (codes "verify") (codes "diff") (codes "draw") (codes "delivery") (codes "changed")
entered_name None met k e = absurd (false≢true (ap is_some e))
entered_name (Some p) met k e =
    picked (bytes_eq (codes "check") p.0) (bytes_eq (codes "canon") p.0) (bytes_eq (codes "compare") p.0) (bytes_eq (codes "hash") p.0) (bytes_eq (codes "explain") p.0) (bytes_eq (codes "verify") p.0) (bytes_eq (codes "diff") p.0) (bytes_eq (codes "draw") p.0) (bytes_eq (codes "delivery") p.0) (bytes_eq (codes "changed") p.0)
    (bytes_eq (codes "help") p.0) _ _ _ _ _ _ _ _ _ _ _ p.1 met (λ is. k (sym ((bytes_eq-Decides (codes "help") p.0).0 is))) e

-- the subcommand of words without a fault is `check`, `canon`, `compare`, `hash`, `explain`, `verify`, `diff`, `draw`, `delivery` or `changed`
pub met_name : (words : List Text) (met : Text × List Row) → fault_of edicad words ≡ [] → subcommand_of edicad words ≡ Some met
    → IsOneOf met.0 (codes "check") (codes "canon") (codes "compare") (codes "hash") (codes "explain") (codes "verify") (codes "diff") (codes "draw") (codes "delivery") (codes "changed")
met_name words met none e =
    let app = built edicad in
    entered_name (stop_after app.top.rules (names_of app) (argument_words edicad words)) met
    (walk_other app.top refl (names_of app) (argument_words edicad words) (walk_from nothing_held) tt (first_none _ _ none)) e

pub met_is_own : (words : List Text) (met : Option (Text × List Row)) → fault_of edicad words ≡ [] → subcommand_of edicad words ≡ met → IsOwn met
met_is_own words None none e = tt
met_is_own words (Some met) none e = met_name words met none e
