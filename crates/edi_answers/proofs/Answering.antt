-- One sheet after the other is answered.
use Rattle.std.proofs.Common.{◌≡◌, ℕ, zero, suc, ◌+◌, ◌<◌, ◌≤◌, Bool, true, false, List, [], ◌∷◌, ◌++◌, Option, Some, None, IsTrue, Bor, map, length, take, drop, get_or, refl, inl, inr, sym, ◌∙◌, ap, subst, arith, append_assoc, append-nil, add-one, ltb-true, ltb-false}
use Rattle.std.specs.Prelude.{codes, flat_map, max, cond, nat_lt, ◌==◌}
use Rattle.std.specs.Ordering.{is_lt, nat_cmp, ord_max}
use Rattle.std.specs.declared.cmp.Ordering.TheVariants.{Less, Equal, Greater}
use Rattle.std.specs.Io.KnownBytes.{Appends}
use Rattle.std.proofs.lemmas.List.Sums.{fold-append}
use Rattle.edi_schema.specs.Classes.{Classes}
use Rattle.edi_answers.specs.Hashes.{AreAnswered, IsCutOff, IsStep, Step, worst_of}
use Rattle.edi_answers.specs.inner.Hashes.{StepsOn, OutputStopsAt}
use Rattle.edi_files.specs.Reasons.{Why, ended}
use Rattle.edi_answers.specs.declared.form.AnswerForm.{AnswerForm}
use Rattle.edi_answers.specs.Effects.{Inputs, Stream}
use Rattle.edi_answers.specs.Statuses.{GoesOut, IsSheetStatus}
use Rattle.edi_explain.proofs.Zipped.{zip_push}

abbrev pub paths_of : List (Bor (List ℕ)) → List (List ℕ)
paths_of paths = map (λ (p : Bor (List ℕ)). p.now) paths

before : (xs : List (Bor (List ℕ))) (i : ℕ) (d : Bor (List ℕ)) → i < length xs → paths_of (take (suc i) xs) ≡ paths_of (take i xs) ++ (get_or xs i d).now ∷ []
before [] i d h = absurd (omega (arith, h))
before (x ∷ xs) zero d h = refl
before (x ∷ xs) (suc i) d h = ap (λ l. x.now ∷ l) (before xs i d (omega (arith, h)))

pub one_more_path : (xs : List (Bor (List ℕ))) (i : ℕ) (d : Bor (List ℕ)) → i < length xs → paths_of (take (i + 1) xs) ≡ paths_of (take i xs) ++ (get_or xs i d).now ∷ []
one_more_path xs i d h = ap (λ n. paths_of (take n xs)) (add-one i) ∙ before xs i d h

pub split_at_path : (xs : List (Bor (List ℕ))) (i : ℕ) (d : Bor (List ℕ)) → i < length xs
    → paths_of xs ≡ paths_of (take i xs) ++ (get_or xs i d).now ∷ paths_of (drop (suc i) xs)
split_at_path [] i d h = absurd (omega (arith, h))
split_at_path (x ∷ xs) zero d h = refl
split_at_path (x ∷ xs) (suc i) d h = ap (λ l. x.now ∷ l) (split_at_path xs i d (omega (arith, h)))

pub all_paths : (xs : List (Bor (List ℕ))) (i : ℕ) → length xs ≤ i → paths_of (take i xs) ≡ paths_of xs
all_paths [] zero h = refl
all_paths [] (suc i) h = refl
all_paths (x ∷ xs) zero h = absurd (omega (arith, h))
all_paths (x ∷ xs) (suc i) h = ap (λ l. x.now ∷ l) (all_paths xs i (omega (arith, h)))

pub appends_nothing : (a : Option (List ℕ)) → Appends a a []
appends_nothing None = tt
appends_nothing (Some xs) = sym (append-nil xs)

pub appends_more : (a b c : Option (List ℕ)) (x y : List ℕ) → Appends a b x → Appends b c y → Appends a c (x ++ y)
appends_more None b c x y h k = tt
appends_more (Some p) None c x y h k = absurd h
appends_more (Some p) (Some q) None x y h k = absurd k
appends_more (Some p) (Some q) (Some r) x y h k = k ∙ (ap (λ l. l ++ y) h ∙ append_assoc p x y)

pub goes_more : (a b c : Option (List ℕ)) (f g : Bool) (x y : List ℕ) → GoesOut a b f x → GoesOut b c g y → (IsTrue f → IsTrue g) → GoesOut a c g (x ++ y)
goes_more a b c f g x y (inl h) (inl k) stays = inl (appends_more a b c x y h k)
goes_more a b c f g x y (inr h) (inl k) stays = inr (stays h)
goes_more a b c f g x y h (inr k) stays = inr k

said_push : (f : Step → List ℕ) (steps : List Step) (step : Step) → flat_map f (steps ++ step ∷ []) ≡ flat_map f steps ++ f step
said_push f [] step = append-nil (f step)
said_push f (x ∷ xs) step = ap (λ l. f x ++ l) (said_push f xs step) ∙ sym (append_assoc (f x) (flat_map f xs) (f step))

pub max_status : (a b : ℕ) → IsSheetStatus a → IsSheetStatus b → IsSheetStatus (max a b)
max_status a b (inl e) k = let is : b ≡ max a b = omega (arith, e) in subst IsSheetStatus is k
max_status a b (inr (inl e)) (inl f) = inr (inl (omega (arith, e, f)))
max_status a b (inr (inl e)) (inr (inl f)) = inr (inl (omega (arith, e, f)))
max_status a b (inr (inl e)) (inr (inr (inl f))) = inr (inr (inl (omega (arith, e, f))))
max_status a b (inr (inl e)) (inr (inr (inr f))) = inr (inr (inr (omega (arith, e, f))))
max_status a b (inr (inr (inl e))) (inl f) = inr (inr (inl (omega (arith, e, f))))
max_status a b (inr (inr (inl e))) (inr (inl f)) = inr (inr (inl (omega (arith, e, f))))
max_status a b (inr (inr (inl e))) (inr (inr (inl f))) = inr (inr (inl (omega (arith, e, f))))
max_status a b (inr (inr (inl e))) (inr (inr (inr f))) = inr (inr (inr (omega (arith, e, f))))
max_status a b (inr (inr (inr e))) (inl f) = inr (inr (inr (omega (arith, e, f))))
max_status a b (inr (inr (inr e))) (inr (inl f)) = inr (inr (inr (omega (arith, e, f))))
max_status a b (inr (inr (inr e))) (inr (inr (inl f))) = inr (inr (inr (omega (arith, e, f))))
max_status a b (inr (inr (inr e))) (inr (inr (inr f))) = inr (inr (inr (omega (arith, e, f))))

-- a stream, by what it has before and after
abbrev pub over : Option (List ℕ) → Option (List ℕ) → Bool → Stream
over before after failed = record { before = before; after = after; failed = failed }

pub none_answered : (inputs : Inputs) (why : Why) (s : Classes) (siblings : List (List ℕ)) (form : AnswerForm) (o : Option (List ℕ)) (of : Bool) (a : Option (List ℕ)) (af : Bool) → AreAnswered inputs why s siblings form (over o o of) (over a a af) [] 0
none_answered inputs why s siblings form o of a af = ([], tt, appends_nothing o, inl (appends_nothing a), refl)

-- over what the streams tell before the first sheet, before this one and after it
module _ (inputs : Inputs) (why : Why) (s : Classes) (siblings : List (List ℕ)) (form : AnswerForm) (o p q : Option (List ℕ)) (pf qf : Bool) (a b c : Option (List ℕ)) (bf cf : Bool) where
  pub answered_more : (paths : List (List ℕ)) (path : List ℕ) (worst status : ℕ) → AreAnswered inputs why s siblings form (over o p pf) (over a b bf) paths worst
      → StepsOn inputs why s siblings form path (over p q qf) (over b c cf) status → (IsTrue bf → IsTrue cf)
      → AreAnswered inputs why s siblings form (over o q qf) (over a c cf) (paths ++ path ∷ []) (max worst status)
  answered_more paths path worst status h k stays =
      let steps = h.0 in
      let step = k.0 in (
        steps ++ step ∷ [],
        zip_push (IsStep inputs why s siblings form) paths steps path step h.1 k.1,
        subst (Appends o q) (sym (said_push (λ (t : Step). t.out) steps step)) (appends_more o p q _ _ h.2 k.3),
        subst (GoesOut a c cf) (sym (said_push (λ (t : Step). t.err) steps step)) (goes_more a b c bf cf _ _ h.3 k.4 stays),
        ap (λ w. max w status) h.4 ∙ (ap (max (worst_of steps)) (sym k.2) ∙ sym (fold-append (λ w (t : Step). max w t.status) 0 steps (step ∷ []))),
      )

  pub cut_off : (paths done more : List (List ℕ)) (path : List ℕ) (worst status : ℕ) → paths ≡ done ++ path ∷ more → AreAnswered inputs why s siblings form (over o p pf) (over a b bf) done worst
      → OutputStopsAt inputs s form path (over p q qf) → GoesOut b c cf (ended (codes "cannot write standard output")) → (IsTrue bf → IsTrue cf) → status ≡ 4
      → IsCutOff inputs why s siblings form (over o q qf) (over a c cf) paths status
  cut_off paths done more path worst status is h k said stays four = (
    done,
    path,
    more,
    h.0,
    k.0,
    k.4.0,
    is,
    h.1,
    k.1,
    k.2,
    appends_more o p q _ _ h.2 k.4.1,
    k.3,
    goes_more a b c bf cf _ _ h.3 said stays,
    four,
  )

picked : (a b : ℕ) (p q : Bool) → (p ≡ true → b < a) → (p ≡ false → a ≤ b) → cond (is_lt (cond p Less (cond q Equal Greater))) a b ≡ max a b
picked a b true q less rest = omega (arith, less refl)
picked a b false true less rest = omega (arith, rest refl)
picked a b false false less rest = omega (arith, rest refl)

-- the greater of two numbers
pub ord_max_is : (a b : ℕ) → ord_max nat_cmp a b ≡ max a b
ord_max_is a b = picked a b (nat_lt b a) (b == a) (ltb-true b a) (ltb-false b a)
