-- The lines of a list are held against what is found, one behind another.
use Rattle.std.proofs.Common.{◌≡◌, ℕ, ◌+◌, ◌<◌, ◌≤◌, Bool, true, false, List, ◌∷◌, Option, IsTrue, drop, get_or, length, refl, sym, subst, arith, inl, inr, ltb-true, ltb-false, nat_lt}
use Rattle.std.specs.Prelude.{max}
use Rattle.std.proofs.lemmas.List.{drop_more}
use Rattle.std.proofs.Math.ListN.{drop_of_length-le}
use Rattle.edi_schema.specs.Classes.{Classes}
use Rattle.edi_answers.specs.Effects.{Effects, Stream}
use Rattle.edi_answers.specs.Hashes.{TellsFault}
use Rattle.edi_answers.specs.Replies.{EachUntil, OneThenOther, Reply}
use Rattle.edi_answers.proofs.Answering.{appends_nothing, over}
use Rattle.edi_answers.proofs.Replies.{behind}
use Rattle.edi_changes.specs.Checks.{SaysNoDigest, VerdictReply}
use Rattle.edi_changes.specs.declared.checks.NoDigest.{NoDigest}
use Rattle.edi_changes.specs.declared.checks.NoDigest.TheVariants.{NoFile, Fault}
use Rattle.edi_changes.specs.declared.list.ListLine.{ListLine}
use Rattle.edi_changes.specs.declared.verdict.LineOutcome.{LineOutcome}
use Rattle.edi_changes.specs.declared.verdict.LineOutcome.TheVariants.{Whole, CutOff}
use Rattle.edi_changes.specs.inner.Checking.{IsSaidAs, MatchNoDigest, TellsNoDigest, at_least}

-- what holds of two numbers holds of the greater
pub of_greater : (P : ℕ → Type 0) (a b : ℕ) → P a → P b → P (max a b)
of_greater P a b pa pb = go (nat_lt a b) refl
  where
    go : (t : Bool) → nat_lt a b ≡ t → P (max a b)
    go true e = let is : b ≡ max a b = omega (arith, ltb-true a b e) in subst P is pb
    go false e = let is : a ≡ max a b = omega (arith, ltb-false a b e) in subst P is pa

-- what is replied to those that are left, behind what was replied so far, is what is replied to all
abbrev pub CompletesUntil : {X : Type 0} → (X → Reply) → (X → Reply) → List X → ℕ → Option (List ℕ) → Option (List ℕ) → Option (List ℕ) → Option (List ℕ) → Bool → Bool → ℕ → Type 0
CompletesUntil Says Stops xs i o e p f pf ff worst =
    (q r : Option (List ℕ)) (qf rf : Bool) (t : ℕ) → (IsTrue pf → IsTrue qf) → (IsTrue ff → IsTrue rf)
    → EachUntil Says Stops (drop i xs) (over p q qf) (over f r rf) t → EachUntil Says Stops xs (over o q qf) (over e r rf) (max worst t)

module _ {X : Type 0} (Says Stops : X → Reply) (xs : List X) (o e : Option (List ℕ)) where
  pub none_so_far : (of ef : Bool) → CompletesUntil Says Stops xs 0 o e o e of ef 0
  none_so_far of ef q r qf rf t so se h =
      let is : t ≡ max 0 t = omega arith in subst (EachUntil Says Stops xs (over o q qf) (over e r rf)) is h

  pub one_more : (i : ℕ) (d : X) (p f p' f' : Option (List ℕ)) (pf ff pf' ff' : Bool) (worst status : ℕ) → i < length xs
      → CompletesUntil Says Stops xs i o e p f pf ff worst
      → Says (get_or xs i d) (over p p' pf') (over f f' ff') status → (IsTrue pf → IsTrue pf') → (IsTrue ff → IsTrue ff')
      → CompletesUntil Says Stops xs (i + 1) o e p' f' pf' ff' (max worst status)
  one_more i d p f p' f' pf ff pf' ff' worst status h so_far says so se q r qf rf t po pe rest =
      let cons : EachUntil Says Stops (get_or xs i d ∷ drop (i + 1) xs) (over p q qf) (over f r rf) (max status t) =
      inr (behind (Says (get_or xs i d)) (EachUntil Says Stops (drop (i + 1) xs)) p p' q f f' r pf' qf ff' rf status t (max status t) says rest po pe refl) in
      let is : max worst (max status t) ≡ max (max worst status) t = omega arith in
      subst (EachUntil Says Stops xs (over o q qf) (over e r rf)) is
      (so_far q r qf rf (max status t) (λ w. po (so w)) (λ w. pe (se w))
      (subst (λ l. EachUntil Says Stops l (over p q qf) (over f r rf) (max status t)) (sym (drop_more xs i d h)) cons))

  pub stopped : (i : ℕ) (d : X) (p f q r : Option (List ℕ)) (pf ff qf rf : Bool) (worst status : ℕ) → i < length xs
      → CompletesUntil Says Stops xs i o e p f pf ff worst
      → Stops (get_or xs i d) (over p q qf) (over f r rf) status → (IsTrue pf → IsTrue qf) → (IsTrue ff → IsTrue rf)
      → EachUntil Says Stops xs (over o q qf) (over e r rf) (max worst status)
  stopped i d p f q r pf ff qf rf worst status h so_far stops so se =
      so_far q r qf rf status so se
      (subst (λ l. EachUntil Says Stops l (over p q qf) (over f r rf) status) (sym (drop_more xs i d h)) (inl stops))

  pub all_done : (i : ℕ) (p f : Option (List ℕ)) (pf ff : Bool) (worst : ℕ) → length xs ≤ i → CompletesUntil Says Stops xs i o e p f pf ff worst
      → EachUntil Says Stops xs (over o p pf) (over e f ff) worst
  all_done i p f pf ff worst h so_far =
      let is : max worst 0 ≡ worst = omega arith in
      subst (EachUntil Says Stops xs (over o p pf) (over e f ff)) is
      (so_far p f pf ff 0 (λ w. w) (λ w. w) (subst (λ l. EachUntil Says Stops l (over p p pf) (over f f ff) 0) (sym (drop_of_length-le xs h)) (refl, refl, refl)))

-- one of two replies behind another, of which the status is no less
pub said_behind : (First Gives Fails : Reply) (o p q e f r : Option (List ℕ)) (pf qf ff rf : Bool) (a : ℕ) (said : LineOutcome) → First (over o p pf) (over e f ff) a
    → IsSaidAs Gives Fails (over p q qf) (over f r rf) said → (IsTrue pf → IsTrue qf) → (IsTrue ff → IsTrue rf)
    → IsSaidAs (OneThenOther First Gives) (OneThenOther First Fails) (over o q qf) (over e r rf) (at_least a said)
said_behind First Gives Fails o p q e f r pf qf ff rf a (Whole b) one other so se = behind First Gives o p q e f r pf qf ff rf a b (max a b) one other so se refl
said_behind First Gives Fails o p q e f r pf qf ff rf a (CutOff b) one other so se = behind First Fails o p q e f r pf qf ff rf a b (max a b) one other so se refl

-- what follows from either reply follows from what was said
pub said_weaker : (Gives Fails Gives' Fails' : Reply) (out err : Stream) (said : LineOutcome) → ((s : ℕ) → Gives out err s → Gives' out err s) → ((s : ℕ) → Fails out err s → Fails' out err s)
    → IsSaidAs Gives Fails out err said → IsSaidAs Gives' Fails' out err said
said_weaker Gives Fails Gives' Fails' out err (Whole s) g f h = g s h
said_weaker Gives Fails Gives' Fails' out err (CutOff s) g f h = f s h

-- why a sheet has no digest is said, where nothing else goes out
pub no_digest_said : (run : Effects) (s : Classes) (Says : VerdictReply) (line : ListLine) (o : Option (List ℕ)) (of : Bool) (err : Stream) (why : NoDigest) (status : ℕ)
    → MatchNoDigest run.inputs s line.name why → TellsNoDigest run.why err why status → SaysNoDigest run s Says line (over o o of) err status
no_digest_said run s Says line o of err (NoFile said) status m t = inr (said.now, m, (appends_nothing o, t.0), t.1)
no_digest_said run s Says line o of err (Fault path e) status m t =
    inl (e, m.1, m.2, subst (λ p. TellsFault run.why err e p status) m.0 t, appends_nothing o)
