-- The records that have a class, record by record; the lines on classes, class by class.
use Rattle.std.proofs.Common.{◌≡◌, ◌∙◌, ◌⊎◌, inl, inr, ◌+◌, ◌<◌, ◌≤◌, ◌++◌, ℕ, suc, Bool, true, false, cond, eqb, List, [], ◌∷◌, count_by, drop, get_or, length, slice_get, take, Some, sym, ap, ap₂, arith}
use Rattle.std.proofs.lemmas.Bool.{cases_order}
use Rattle.std.proofs.lemmas.List.{append_assoc, at_drop_more, get_or_past, take_more}
use Rattle.std.proofs.lemmas.Option.{get_or_from_slice_get, slice_get_within}
use Rattle.edi_plan.specs.Plans.{PlanData, blank}
use Rattle.edi_plan.specs.declared.record.PlanRecord.{PlanRecord}
use Rattle.edi_record.specs.declared.name.Name.{Name}
use Rattle.edi_schema.proofs.Noted.{count_joined}
use Rattle.edi_explain.specs.ClassCounts.{count_of_class, class_count_line, class_count_lines}

module _ (list : List PlanRecord) (class : ℕ) where
  abbrev pub Has : PlanRecord → Bool
  Has r = eqb r.class class

  abbrev pub counted : ℕ → ℕ
  counted n = count_by Has (take n list)

  pub counted_more : (n : ℕ) → n < length list → counted (n + 1) ≡ counted n + cond (Has (get_or list n blank)) 1 0
  counted_more n less =
      ap (count_by Has) (take_more list n blank less) ∙ (count_joined Has (take n list) (get_or list n blank ∷ []) ∙ omega arith)

pub lines_more : (p : PlanData) (place : ℕ) (names : List Name) (name : Name) → slice_get names place ≡ Some name
    → class_count_lines p place (drop place names) ≡ class_count_line name (count_of_class p place) ++ class_count_lines p (suc place) (drop (place + 1) names)
lines_more p place names name e =
    at_drop_more (class_count_lines p place) names place name (slice_get_within names place name e)
    ∙ ap (λ (x : Name). class_count_line x (count_of_class p place) ++ class_count_lines p (suc place) (drop (place + 1) names)) (get_or_from_slice_get names place name name e)

pub more_said : (p : PlanData) (place : ℕ) (names : List Name) (name said : Name) (count : ℕ) (old new total : List ℕ) → slice_get names place ≡ Some name
    → said ≡ name → count ≡ count_of_class p place → new ≡ old ++ class_count_line said count → old ++ class_count_lines p place (drop place names) ≡ total
    → new ++ class_count_lines p (place + 1) (drop (place + 1) names) ≡ total
more_said p place names name said count old new total there is counts pushed kept =
    ap (λ t. t ++ class_count_lines p (place + 1) (drop (place + 1) names)) (pushed ∙ ap₂ (λ (n : Name) (m : ℕ). old ++ class_count_line n m) is counts)
    ∙ append_assoc old (class_count_line name (count_of_class p place)) (class_count_lines p (place + 1) (drop (place + 1) names))
    ∙ ap (λ n. old ++ (class_count_line name (count_of_class p place) ++ class_count_lines p n (drop (place + 1) names))) next
    ∙ ap (λ t. old ++ t) (sym (lines_more p place names name there)) ∙ kept
  where
    next : place + 1 ≡ suc place
    next = omega arith

-- ---- one more counted

module _ (old new : List ℕ) (n place : ℕ) (long : length new ≡ length old)
    (each : (k : ℕ) → k < length old → get_or new k 0 ≡ get_or old k 0 + cond (eqb place k) 1 0) where
  at_most : (b : Bool) → cond b 1 0 ≤ 1
  at_most true = omega arith
  at_most false = omega arith

  pub few_more : ((k : ℕ) → get_or old k 0 ≤ n) → (k : ℕ) → get_or new k 0 ≤ n + 1
  few_more few k = go (cases_order k (length old))
    where
      past : length old ≤ k → get_or new k 0 ≤ n + 1
      past h = let none : get_or new k 0 ≡ 0 = get_or_past new k 0 (omega (arith, long, h)) in omega (arith, none)

      go : (k ≡ length old) ⊎ ((k < length old) ⊎ (length old < k)) → get_or new k 0 ≤ n + 1
      go (inl at) = past (omega (arith, at))
      go (inr (inl less)) = omega (arith, each k less, few k, at_most (eqb place k))
      go (inr (inr more)) = past (omega (arith, more))

  pub each_more : (list : List PlanRecord) (classes : ℕ) → n < length list → place ≡ (get_or list n blank).class → length old ≡ classes
      → ((k : ℕ) → k < classes → get_or old k 0 ≡ counted list k n) → (k : ℕ) → k < classes → get_or new k 0 ≡ counted list k (n + 1)
  each_more list classes there is many kept k less =
      each k (omega (arith, many, less)) ∙ (ap₂ (λ (a b : ℕ). a + b) (kept k less) (ap (λ c. cond (eqb c k) 1 0) is) ∙ sym (counted_more list k n there))
