-- Why a pairing doesn't carry, and the names of the records that this concerns.
use Rattle.std.specs.Prelude.{◌≡◌, ℕ, ◌<◌, List, length, slice_index, ⊤}
use Rattle.edi_compare.specs.declared.pairing.Pairing.{Pairing}
use Rattle.edi_compare.specs.declared.uncarried.Uncarried.{Uncarried}
use Rattle.edi_compare.specs.declared.uncarried.Uncarried.TheVariants.{Entries, CharacterSets, Record, Unmet}
use Rattle.edi_compare.specs.declared.uncarried.WrongPartner.TheVariants.{Nowhere, Shared, Unlike}
use Rattle.edi_pairing.specs.Names.{name_at}
use Rattle.edi_pairing.specs.Verified.{pair_at}
use Rattle.edi_pairing.specs.declared.names.RecordName.{RecordName}
use Rattle.edi_pairing.specs.declared.verified.Unpaired.{Unpaired}
use Rattle.edi_pairing.specs.declared.verified.Unpaired.TheVariants as unpaired

-- the record at the place has a name, and so has the one that it goes to
pub record HasPair (a b : List RecordName) (pairing : Pairing) (i : ℕ) : Type 0 where
  pub here : i < length a
  pub paired : i < length pairing.to
  pub there : slice_index pairing.to i < length b

-- the records that the reason concerns have names
abbrev pub CanBeNamed : List RecordName → List RecordName → Pairing → Uncarried → Type 0
CanBeNamed a b pairing Entries = ⊥
CanBeNamed a b pairing CharacterSets = ⊤
CanBeNamed a b pairing (Record i Nowhere) = ⊥
CanBeNamed a b pairing (Record i (Shared k)) = HasPair a b pairing i × HasPair a b pairing k
CanBeNamed a b pairing (Record i (Unlike part)) = HasPair a b pairing i
CanBeNamed a b pairing (Unmet j) = j < length b

-- this is the reason with their names
abbrev pub HasNamesOf : List RecordName → List RecordName → Pairing → Uncarried → Unpaired → Type 0
HasNamesOf a b pairing Entries why = ⊥
HasNamesOf a b pairing CharacterSets why = why ≡ unpaired.CharacterSets
HasNamesOf a b pairing (Record i Nowhere) why = ⊥
HasNamesOf a b pairing (Record i (Shared k)) why = why ≡ unpaired.Shared (pair_at a b pairing i) (pair_at a b pairing k)
HasNamesOf a b pairing (Record i (Unlike part)) why = why ≡ unpaired.Unlike (pair_at a b pairing i) part
HasNamesOf a b pairing (Unmet j) why = why ≡ unpaired.Unmet (name_at b j)
