-- A matching the other way round.
use Rattle.std.specs.Prelude.{◌≡◌, ℕ, List, Option, ◌<◌, ◌-◌, ◌^◌, false, None, length, slice_index_or}
use Rattle.edi_rank.specs.Labelling.{turned_at}
use Rattle.edi_matching.specs.Matchings.{GoesTo, IsMatched}
use Rattle.edi_matching.specs.declared.matching.Matching.{Matching}

-- Of so many places each goes back to one of the first so many records that went there, if there is one, and is
-- reversed as that was.
pub record IsInverse (m : Matching) (count places : ℕ) (back : Matching) : Type 0 where
  pub all_entered : length back.to ≡ count
  pub all_directed : length back.turned ≡ count
  pub back_to : (i j : ℕ) → GoesTo back.to j i → GoesTo m.to i j
  pub every : (i j : ℕ) → i < places → GoesTo m.to i j → j < count → IsMatched back.to j
  pub turned : (i j : ℕ) → GoesTo back.to j i → turned_at back.turned j ≡ turned_at m.turned i
  pub unturned : (j : ℕ) → slice_index_or back.to j None ≡ None → turned_at back.turned j ≡ false

-- as many records go somewhere, or nowhere, and each that went somewhere goes there still
pub record Grows (to more : List (Option ℕ)) : Type 0 where
  pub long : length more ≡ length to
  pub keeps : (i j : ℕ) → GoesTo to i j → GoesTo more i j

-- what is matched stays matched as it was, and the same arcs are reversed
pub record IsMore (m more : Matching) : Type 0 where
  pub long : length more.to ≡ length m.to
  pub turned : more.turned ≡ m.turned
  pub keeps : (i j : ℕ) → GoesTo m.to i j → GoesTo more.to i j

-- the matching the other way round, between plans of so many records, was made more, and turned back
pub record IsMoreBackwards (first second : ℕ) (m more : Matching) : Type 0 where
  pub back : Matching
  pub more_back : Matching
  pub inverse : IsInverse m second (2 ^ 32 - 1) back
  pub adds : IsMore back more_back
  pub again : IsInverse more_back first (2 ^ 32 - 1) more
