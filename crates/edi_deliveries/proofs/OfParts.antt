-- The lines that are found of a delivery are of its parts.
use Rattle.std.proofs.Common.{◌≡◌, ◌⊎◌, ℕ, List, [], ◌∷◌, ◌++◌, Option, Some, None, Result, Ok, Err, inl, inr, refl, sym, subst, arith}
use Rattle.std.specs.Prelude.{Any, MatchOption}
use Rattle.std.specs.List.{AllByRecursion}
use Rattle.edi_line.proofs.EachElement.{each_weaker, any_later}
use Rattle.edi_schema.specs.Classes.{Classes}
use Rattle.edi_schema.specs.Roles.{KindCodes}
use Rattle.edi_manifest.specs.declared.line.Digested.{Digested}
use Rattle.edi_manifest.specs.declared.line.ManifestLine.{ManifestLine}
use Rattle.edi_compare.specs.declared.fault.RunFault.{RunFault}
use Rattle.edi_files.specs.Reasons.{Why}
use Rattle.edi_answers.specs.Effects.{Inputs, Stream}
use Rattle.edi_answers.specs.Hashes.{IsAnswerOf}
use Rattle.edi_deliveries.specs.Deliveries.{Opened, found_path}
use Rattle.edi_deliveries.specs.Found.{AreClassesFound, AreLotsFound, AreSheetsFound, EachFound, Finding, Finds, FindsNoMemory, IsBytesAnswer, IsFileFound, IsGeoFound, IsLotFound, IsPartFound, IsSchemaFound, IsSheetFound, OneFoundThenOther, PlacedLot, placed, schema_part}
use Rattle.edi_deliveries.specs.Parts.{IsLineOfDelivery, IsLineOfLot, IsSchemaOfLot, coordinates, schema, sheet}
use Rattle.edi_answers.proofs.Answering.{over}
use Rattle.edi_deliveries.proofs.Well.{no_fault}

-- where the status is 0, P holds of each line that is found
abbrev FindsOnly : Finding → (ManifestLine → Type 0) → Type 0
FindsOnly F P = (l : List ManifestLine) (e : Stream) → F l e 0 → AllByRecursion P l

all_behind : (P : ManifestLine → Type 0) (xs ys : List ManifestLine) → AllByRecursion P xs → AllByRecursion P ys → AllByRecursion P (xs ++ ys)
all_behind P [] ys h k = k
all_behind P (x ∷ xs) ys h k = (h.0, all_behind P xs ys h.1 k)

both_only : (First Rest : Finding) (P : ManifestLine → Type 0) → FindsOnly First P → FindsOnly Rest P → FindsOnly (OneFoundThenOther First Rest) P
both_only First Rest P f g l e h =
    let a : h.first ≡ 0 = omega (arith, h.greater) in
    let b : h.rest ≡ 0 = omega (arith, h.greater) in
    subst (AllByRecursion P) (sym h.all)
    (all_behind P h.first_lines h.rest_lines (f h.first_lines (over e.before h.between h.failed) (subst (λ s. First h.first_lines (over e.before h.between h.failed) s) a h.one))
    (g h.rest_lines (over h.between e.after e.failed) (subst (λ s. Rest h.rest_lines (over h.between e.after e.failed) s) b h.other)))

none_only : (P : ManifestLine → Type 0) (l : List ManifestLine) → l ≡ [] → AllByRecursion P l
none_only P l is = subst (AllByRecursion P) (sym is) tt

-- over those of which M holds
each_only : {X : Type 0} (F : X → Finding) (M : X → Type 0) (P : ManifestLine → Type 0) → ((x : X) → M x → FindsOnly (F x) P) → (xs : List X) → AllByRecursion M xs
    → FindsOnly (EachFound F xs) P
each_only F M P f [] m l e h = none_only P l h.0
each_only F M P f (x ∷ xs) m l e h = both_only (F x) (EachFound F xs) P (f x m.0) (each_only F M P f xs m.1) l e h

all_own : {X : Type 0} (xs : List X) → AllByRecursion (λ x. Any (λ y. y ≡ x) xs) xs
all_own [] = tt
all_own (x ∷ xs) = ((0, x, omega arith, refl, refl), each_weaker _ _ (λ y h. any_later (λ z. z ≡ y) x xs h) xs (all_own xs))

-- one of a list for which it holds
any_of : {X : Type 0} (P : X → Type 0) (x : X) (xs : List X) → Any (λ y. y ≡ x) xs → P x → Any P xs
any_of P x xs h p = (h.0, h.1, h.2, h.3, subst P (sym h.4) p)

file_only : (inputs : Inputs) (why : Why) (at : PlacedLot) (name : List ℕ) (digested : Digested) (CameOf : List ℕ → Result (List ℕ) RunFault → Type 0)
    (P : ManifestLine → Type 0) → ((path digest : List ℕ) → found_path at.before at.names name ≡ Some path → CameOf path (Ok digest) → P (record { name = name; digested = digested; digest = digest }))
    → FindsOnly (IsFileFound inputs why at name digested CameOf) P
file_only inputs why at name digested CameOf P f l e (inr h) = absurd (omega (arith, h.1))
file_only inputs why at name digested CameOf P f l e (inl h) = go (found_path at.before at.names name) refl h
  where
    of_part : (path : List ℕ) (answer : Result (List ℕ) RunFault) → found_path at.before at.names name ≡ Some path → CameOf path answer
        → IsPartFound why name digested path answer l e 0 → AllByRecursion P l
    of_part path (Ok digest) at came (inl k) = subst (AllByRecursion P) (sym k.0) (f path digest at came, tt)
    of_part path (Ok digest) at came (inr k) = absurd (omega (arith, k.1))
    of_part path (Err fault) at came k = absurd (no_fault why e fault path k.1)

    go : (o : Option (List ℕ)) → found_path at.before at.names name ≡ o → MatchOption o (Finds [] l e 0)
        (λ path. (answer : Result (List ℕ) RunFault) × CameOf path answer × IsPartFound why name digested path answer l e 0) → AllByRecursion P l
    go None at k = none_only P l k.0
    go (Some path) at k = of_part path k.0 at k.1 k.2

module _ (inputs : Inputs) (why : Why) (kinds : KindCodes) (at : PlacedLot) where
  abbrev OfLot : ManifestLine → Type 0
  OfLot line = IsLineOfLot inputs kinds at line

  sheets_only : (c : Classes) → IsSchemaOfLot inputs kinds at c → FindsOnly (AreSheetsFound inputs why c at) OfLot
  sheets_only c given = both_only _ _ OfLot head
      (each_only (IsSheetFound inputs why c at) (λ own. Any (λ y. y ≡ own) at.lot.vecs) OfLot
      (λ own among. file_only inputs why at _ _ (IsAnswerOf inputs c) OfLot (λ path digest there came. sheet c own path digest given among there came refl)) at.lot.vecs (all_own at.lot.vecs))
    where
      head : (l : List ManifestLine) (e : Stream) → Finds (schema_part at.lot c ∷ []) l e 0 ⊎ FindsNoMemory l e 0 → AllByRecursion OfLot l
      head l e (inl h) = subst (AllByRecursion OfLot) (sym h.0) (schema c given refl, tt)
      head l e (inr h) = absurd (omega (arith, h.1))

  classes_only : FindsOnly (AreClassesFound inputs why kinds at) OfLot
  classes_only l e (inl h) = go h.3
    where
      go : IsSchemaFound inputs why kinds h.0 at l e 0 → AllByRecursion OfLot l
      go (inl k) = sheets_only k.0 (record { files = h.0; scd = h.1; dic = h.2; note = k.1; given = k.2 }) l _ k.3.4
      go (inr k) = absurd (no_fault why e k.0 _ k.2)
  classes_only l e (inr (inl h)) = none_only OfLot l h.1.0
  classes_only l e (inr (inr h)) = absurd (omega (arith, h.1))

  geo_only : (o : Option (List ℕ)) → at.lot.geo ≡ o → (l : List ManifestLine) (e : Stream)
      → MatchOption o (Finds [] l e 0) (λ own. IsGeoFound inputs why at own l e 0) → AllByRecursion OfLot l
  geo_only None is l e h = none_only OfLot l h.0
  geo_only (Some own) is l e h =
      file_only inputs why at _ _ (IsBytesAnswer inputs) OfLot (λ path digest there came. coordinates own path digest is there came refl) l e h

  lot_only : FindsOnly (IsLotFound inputs why kinds at) OfLot
  lot_only = both_only _ _ OfLot (λ l e h. none_only OfLot l h.0) (both_only _ _ OfLot classes_only (λ l e h. geo_only at.lot.geo refl l e h))

pub lines_of_parts : (inputs : Inputs) (why : Why) (kinds : KindCodes) (d : Opened) (lines : List ManifestLine) (e : Stream) → AreLotsFound inputs why kinds d lines e 0
    → AllByRecursion (IsLineOfDelivery inputs kinds d) lines
lines_of_parts inputs why kinds d lines e h =
    both_only _ _ (IsLineOfDelivery inputs kinds d)
    (each_only (λ lot. IsLotFound inputs why kinds (placed d.before d.names lot)) (λ lot. Any (λ y. y ≡ lot) d.lots) (IsLineOfDelivery inputs kinds d)
    (λ lot among l f k. each_weaker _ _ (λ line of_lot. any_of (λ y. IsLineOfLot inputs kinds (placed d.before d.names y) line) lot d.lots among of_lot) l (lot_only inputs why kinds (placed d.before d.names lot) l f k)) d.lots (all_own d.lots))
    (λ l f k. none_only _ l k.0) lines e h
