-- Parts that differ.
use Rattle.std.proofs.Common.{◌≡◌, ◌↔◌, ℕ, ◌<◌, ◌+◌, [], ◌∷◌, ◌++◌, ◌⊎◌, inl, inr, ◌∙◌, Bool, false, true, not, refl, true≢false, IsTrue, List, length, get_or, Option, Result, Ok, Err, IfOk, sym, ap, subst, arith}
use Rattle.std.proofs.Math.Seq.{get_or-append_seam}
use Rattle.std.proofs.lemmas.Bool.{cases_eq}
use Rattle.std.proofs.lemmas.List.{get_or_append_left}
use Rattle.std.specs.List.{AllByRecursion}
use Rattle.std.specs.Prelude.{IsPermutation, map, option_map, slice_index}
use Rattle.edi_plan.specs.Plans.{PlanData, origin_of, others_of, record_at}
use Rattle.edi_rank.specs.Same.{moved}
use Rattle.edi_compare.specs.declared.uncarried.RecordPart.TheVariants.{Ends}
use Rattle.edi_compare.specs.inner.Checking.{AgreeAt}
use Rattle.edi_matching.specs.Matchings.{GoesTo, IsMatched, targets_of}
use Rattle.edi_matching.specs.declared.matching.Matching.{Matching}
use Rattle.edi_schema.specs.Classes.{Classes}
use Rattle.edi_report.specs.Reports.{parts_at}
use Rattle.edi_report.specs.declared.parts.DifferingParts.{DifferingParts}
use Rattle.edi_diff.specs.Changes.{AreChangedParts, ArePartsOfEach, HasEndsOf}
use Rattle.edi_diff.specs.inner.Comparisons.{ArePartsAt, Comparison, became}

-- the parts of the first n records
abbrev pub ArePartsUpTo : Comparison → List DifferingParts → ℕ → Type 0
ArePartsUpTo m parts n = (i j : ℕ) → i < n → ¬ (IsMatched m.unchanged i) → GoesTo m.to i j → ArePartsAt m i j (parts_at parts i)

abbrev none_differ : DifferingParts
none_differ = record { class = false; attributes = false; extras = false; points = false; ends = false }

at_last : {X : Type 0} (xs : List X) (x d : X) (n : ℕ) → length xs ≡ n → get_or (xs ++ x ∷ []) n d ≡ x
at_last xs x d n long = subst (λ (k : ℕ). get_or (xs ++ x ∷ []) k d ≡ x) long (get_or-append_seam xs x [] d)

pub parts_more : (m : Comparison) (parts : List DifferingParts) (x : DifferingParts) (n : ℕ) → length parts ≡ n → ArePartsUpTo m parts n
    → ((j : ℕ) → ¬ (IsMatched m.unchanged n) → GoesTo m.to n j → ArePartsAt m n j x) → ArePartsUpTo m (parts ++ x ∷ []) (n + 1)
parts_more m parts x n long reporter here i j less free goes = go (cases_eq i n)
  where
    go : (i ≡ n) ⊎ (i ≡ n → ⊥) → ArePartsAt m i j (parts_at (parts ++ x ∷ []) i)
    go (inl same) =
        let last : parts_at (parts ++ x ∷ []) i ≡ x = ap (λ k. get_or (parts ++ x ∷ []) k none_differ) same ∙ at_last parts x none_differ n long in
        subst (ArePartsAt m i j) (sym last)
        (subst (λ (k : ℕ). ArePartsAt m k j x) (sym same) (here j (λ w. free (subst (IsMatched m.unchanged) (sym same) w)) (subst (λ (k : ℕ). GoesTo m.to k j) same goes)))
    go (inr ne) =
        let before : i < n = omega (arith, less, ne) in
        subst (ArePartsAt m i j) (sym (get_or_append_left parts (x ∷ []) none_differ i (omega (arith, before, long)))) (reporter i j before free goes)

-- ---- one record, by what its parts were found to be

pub differs_unless : (same : Bool) (P : Type 0) → (IsTrue same ↔ P) → (not same ≡ false) ↔ P
differs_unless true P h = (λ e. h.0 refl, λ p. refl)
differs_unless false P h = (λ e. absurd (true≢false e), λ p. absurd (true≢false (sym (h.1 p))))

pub ends_left : (m : Comparison) (i j : ℕ) (b : Bool) → b ≡ false → (IsTrue b ↔ AllByRecursion (λ e. IsMatched m.to e.target) (record_at m.carried.plan i).ends)
    → IsTrue false ↔ HasEndsOf (became m) (record_at m.carried.plan i) (record_at m.carried.other j)
ends_left m i j b none reporter = (λ t. absurd (true≢false (sym t)), λ h. absurd (true≢false (sym (reporter.1 h.all) ∙ none)))

pub ends_known : {E : Type 0} (m : Comparison) (i j : ℕ) → m.carried.to ≡ targets_of m.to → AllByRecursion (λ e. IsMatched m.to e.target) (record_at m.carried.plan i).ends
    → (r : Result Bool E) → IfOk r (λ answer. IsTrue answer ↔ AgreeAt m.carried i j Ends)
    → IfOk r (λ answer. IsTrue answer ↔ HasEndsOf (became m) (record_at m.carried.plan i) (record_at m.carried.other j))
ends_known m i j targeted all (Err e) reporter = tt
ends_known m i j targeted all (Ok answer) reporter = (λ t. there (reporter.0 t), λ h. reporter.1 (back (h.origin, h.others)))
  where
    Moved : List ℕ → Type 0
    Moved to =
        (origin_of (record_at m.carried.other j) ≡ option_map (moved (slice_index to)) (origin_of (record_at m.carried.plan i)))
        × IsPermutation (map (moved (slice_index to)) (others_of (record_at m.carried.plan i))) (others_of (record_at m.carried.other j))

    there : Moved m.carried.to → HasEndsOf (became m) (record_at m.carried.plan i) (record_at m.carried.other j)
    there go =
        let gone = subst Moved targeted go in
        record { all = all; origin = gone.0; others = gone.1 }

    back : Moved (targets_of m.to) → Moved m.carried.to
    back gone = subst Moved (sym targeted) gone

-- ---- all records

pub parts_reported : {X E : Type 0} (s : Classes) (p q : PlanData) (unchanged became : Matching) (of_unchanged to : List (Option ℕ)) (turned : List Bool)
    → of_unchanged ≡ unchanged.to → to ≡ became.to → turned ≡ became.turned → (r : Result X E) (items : X → List DifferingParts)
    → IfOk r (λ parts. (i j : ℕ) → ¬ (IsMatched of_unchanged i) → GoesTo to i j → AreChangedParts s (record { to = to; turned = turned }) i (record_at p i) (record_at q j) (parts_at (items parts) i))
    → IfOk r (λ parts. ArePartsOfEach s p q unchanged became (items parts))
parts_reported s p q unchanged became of_unchanged to turned is_kept is_to is_turned (Err e) items reporter = tt
parts_reported s p q unchanged became of_unchanged to turned is_kept is_to is_turned (Ok parts) items reporter =
    subst (λ (d : List Bool). Reporter unchanged.to became.to d) is_turned
    (subst (λ (t : List (Option ℕ)). Reporter unchanged.to t turned) is_to (subst (λ (k : List (Option ℕ)). Reporter k to turned) is_kept reporter))
  where
    Reporter : List (Option ℕ) → List (Option ℕ) → List Bool → Type 0
    Reporter k t d = (i j : ℕ) → ¬ (IsMatched k i) → GoesTo t i j → AreChangedParts s (record { to = t; turned = d }) i (record_at p i) (record_at q j) (parts_at (items parts) i)
