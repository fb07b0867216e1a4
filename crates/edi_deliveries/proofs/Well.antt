-- Where each part is found, nothing was said of faults, so that what the folder gives as their reasons doesn't matter.
use Rattle.std.proofs.Common.{◌≡◌, ◌⊎◌, ℕ, List, [], ◌∷◌, Option, Some, None, Result, Ok, Err, inl, inr, refl, subst, arith}
use Rattle.std.specs.Prelude.{MatchOption}
use Rattle.edi_schema.specs.Classes.{Classes}
use Rattle.edi_schema.specs.Roles.{KindCodes}
use Rattle.edi_manifest.specs.declared.line.Digested.{Digested}
use Rattle.edi_manifest.specs.declared.line.ManifestLine.{ManifestLine}
use Rattle.edi_compare.specs.declared.fault.RunFault.{RunFault}
use Rattle.edi_files.specs.Reasons.{Why}
use Rattle.edi_outcome.specs.Status.{status_of_fault}
use Rattle.edi_words.specs.declared.words.ManyFiles.{ManyFiles}
use Rattle.edi_answers.specs.Effects.{Inputs, Stream}
use Rattle.edi_answers.specs.Hashes.{TellsFault}
use Rattle.edi_answers.proofs.Answering.{over}
use Rattle.edi_answers.proofs.Refusals.{fault_status}
use Rattle.edi_deliveries.specs.Deliveries.{Opened, found_path}
use Rattle.edi_deliveries.specs.Found.{AreClassesFound, AreLotsFound, AreSheetsFound, EachFound, Finding, Finds, IsFileFound, IsGeoFound, IsLotFound, IsPartFound, IsSchemaFound, OneFoundThenOther, PlacedLot, placed}

-- a fault that is told has a status
pub no_fault : (why : Why) (err : Stream) (e : RunFault) (path : List ℕ) → TellsFault why err e path 0 → ⊥
no_fault why err e path (inl h) = go (status_of_fault e) (fault_status e) h.0
  where
    go : (s : ℕ) → (s ≡ 2) ⊎ ((s ≡ 4) ⊎ (s ≡ 5)) → 0 ≡ s → ⊥
    go s (inl two) zero = absurd (omega (arith, two, zero))
    go s (inr (inl four)) zero = absurd (omega (arith, four, zero))
    go s (inr (inr five)) zero = absurd (omega (arith, five, zero))
no_fault why err e path (inr h) = absurd (omega (arith, h.0))

-- what is found of this is found of that, where the status is 0
abbrev pub FoundAs : Finding → Finding → Type 0
FoundAs F G = (l : List ManifestLine) (e : Stream) → F l e 0 → G l e 0

pub both_as : (First Rest First' Rest' : Finding) → FoundAs First First' → FoundAs Rest Rest' → FoundAs (OneFoundThenOther First Rest) (OneFoundThenOther First' Rest')
both_as First Rest First' Rest' f g l e h =
    let a : h.first ≡ 0 = omega (arith, h.greater) in
    let b : h.rest ≡ 0 = omega (arith, h.greater) in
    record {
      first_lines = h.first_lines;
      rest_lines = h.rest_lines;
      between = h.between;
      failed = h.failed;
      stays = h.stays;
      first = 0;
      rest = 0;
      one = f h.first_lines (over e.before h.between h.failed) (subst (λ s. First h.first_lines (over e.before h.between h.failed) s) a h.one);
      other = g h.rest_lines (over h.between e.after e.failed) (subst (λ s. Rest h.rest_lines (over h.between e.after e.failed) s) b h.other);
      all = h.all;
      greater = refl;
    }

pub each_as : {X : Type 0} (F G : X → Finding) → ((x : X) → FoundAs (F x) (G x)) → (xs : List X) → FoundAs (EachFound F xs) (EachFound G xs)
each_as F G f [] l e h = h
each_as F G f (x ∷ xs) l e h = both_as (F x) (EachFound F xs) (G x) (EachFound G xs) (f x) (each_as F G f xs) l e h

module _ (inputs : Inputs) (why other : Why) where
  part_as : (name : List ℕ) (digested : Digested) (path : List ℕ) (answer : Result (List ℕ) RunFault)
      → FoundAs (IsPartFound why name digested path answer) (IsPartFound other name digested path answer)
  part_as name digested path (Ok digest) l e h = h
  part_as name digested path (Err f) l e h = absurd (no_fault why e f path h.1)

  file_as : (at : PlacedLot) (name : List ℕ) (digested : Digested) (CameOf : List ℕ → Result (List ℕ) RunFault → Type 0)
      → FoundAs (IsFileFound inputs why at name digested CameOf) (IsFileFound inputs other at name digested CameOf)
  file_as at name digested CameOf l e (inr h) = inr h
  file_as at name digested CameOf l e (inl h) = inl (go (found_path at.before at.names name) h)
    where
      go : (o : Option (List ℕ)) → MatchOption o (Finds [] l e 0)
          (λ path. (answer : Result (List ℕ) RunFault) × CameOf path answer × IsPartFound why name digested path answer l e 0)
          → MatchOption o (Finds [] l e 0)
          (λ path. (answer : Result (List ℕ) RunFault) × CameOf path answer × IsPartFound other name digested path answer l e 0)
      go None k = k
      go (Some path) k = (k.0, k.1, part_as name digested path k.0 l e k.2)

  sheets_as : (c : Classes) (at : PlacedLot) → FoundAs (AreSheetsFound inputs why c at) (AreSheetsFound inputs other c at)
  sheets_as c at = both_as _ _ _ _ (λ l e h. h) (each_as _ _ (λ own. file_as at _ _ _) at.lot.vecs)

  module _ (kinds : KindCodes) where
    schema_as : (files : ManyFiles) (at : PlacedLot)
        → FoundAs (IsSchemaFound inputs why kinds files at) (IsSchemaFound inputs other kinds files at)
    schema_as files at l e (inl h) =
        inl (h.0, h.1, h.2, (h.3.0, h.3.1, h.3.2, h.3.3, sheets_as h.0 at l _ h.3.4))
    schema_as files at l e (inr h) = absurd (no_fault why e h.0 _ h.2)

    classes_as : (at : PlacedLot)
        → FoundAs (AreClassesFound inputs why kinds at) (AreClassesFound inputs other kinds at)
    classes_as at l e (inl h) = inl (h.0, h.1, h.2, schema_as h.0 at l e h.3)
    classes_as at l e (inr h) = inr h

    geo_as : (at : PlacedLot) (o : Option (List ℕ)) (l : List ManifestLine) (e : Stream)
        → MatchOption o (Finds [] l e 0) (λ own. IsGeoFound inputs why at own l e 0)
        → MatchOption o (Finds [] l e 0) (λ own. IsGeoFound inputs other at own l e 0)
    geo_as at None l e h = h
    geo_as at (Some own) l e h = file_as at _ _ _ l e h

    lot_as : (at : PlacedLot) → FoundAs (IsLotFound inputs why kinds at) (IsLotFound inputs other kinds at)
    lot_as at = both_as _ _ _ _ (λ l e h. h) (both_as _ _ _ _ (classes_as at) (λ l e h. geo_as at at.lot.geo l e h))

    pub lots_as : (d : Opened) → FoundAs (AreLotsFound inputs why kinds d) (AreLotsFound inputs other kinds d)
    lots_as d = both_as _ _ _ _ (each_as _ _ (λ lot. lot_as (placed d.before d.names lot)) d.lots) (λ l e h. h)
