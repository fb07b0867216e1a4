-- Records that are written some at a time.
use Rattle.std.proofs.Common.{◌≡◌, ◌∙◌, ◌++◌, ℕ, List, [], ◌∷◌, map, refl, sym, ap}
use Rattle.std.specs.Prelude.{flat_map}
use Rattle.std.specs.List.{AllByRecursion}
use Rattle.std.proofs.lemmas.Grind.{flat_map-append}
use Rattle.std.proofs.lemmas.List.{append_assoc}
use Rattle.edi_line.specs.ZoneData.{ZoneData}
use Rattle.edi_line.specs.Printing.{printed, printed_zone}
use Rattle.edi_plan.specs.Plans.{IsPlace}
use Rattle.edi_write.specs.declared.openings.Opening.{Opening}
use Rattle.edi_write.specs.inner.LabelledPlans.{LabelledPlanData}
use Rattle.edi_write.specs.inner.Openings.{opening_of}

module _ (l : LabelledPlanData) where
  abbrev pub IsOpened : Opening → Type 0
  IsOpened o = IsPlace l.plan o.place × (o ≡ opening_of l o.place)

  pub all_opened : (places : List ℕ) → AllByRecursion (IsPlace l.plan) places → AllByRecursion IsOpened (map (opening_of l) places)
  all_opened [] all = tt
  all_opened (p ∷ ps) all = ((all.0, refl), all_opened ps all.1)

  pub places_opened : (places : List ℕ) → map (λ (o : Opening). o.place) (map (opening_of l) places) ≡ places
  places_opened [] = refl
  places_opened (p ∷ ps) = ap (λ xs. p ∷ xs) (places_opened ps)

module _ (f : ℕ → List ZoneData) where
  -- two parts that were written one after the other
  pub both_written : (xs ys : List ℕ) (before between after : List ℕ) → between ≡ before ++ printed (flat_map f xs) → after ≡ between ++ printed (flat_map f ys)
      → after ≡ before ++ printed (flat_map f (xs ++ ys))
  both_written xs ys before between after first second =
      second ∙ (ap (λ b. b ++ printed (flat_map f ys)) first ∙ (append_assoc before (printed (flat_map f xs)) (printed (flat_map f ys))
      ∙ ap (λ t. before ++ t) (sym (ap printed (flat_map-append f xs ys) ∙ flat_map-append printed_zone (flat_map f xs) (flat_map f ys)))))

  -- one part more is written, and what is left is shorter by it
  pub batch_more : (batch behind : List ℕ) (old new all : List ℕ) → new ≡ old ++ printed (flat_map f batch) → old ++ printed (flat_map f (batch ++ behind)) ≡ all
      → new ++ printed (flat_map f behind) ≡ all
  batch_more batch behind old new all written kept = both_written batch behind old new (new ++ printed (flat_map f behind)) written refl ∙ kept
