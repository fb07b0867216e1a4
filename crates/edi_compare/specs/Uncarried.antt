-- Why a pairing doesn't carry one plan onto another.
--
-- `find_uncarried` finds nothing exactly if the pairing carries (`PairingCarries`); otherwise it says why not, by
-- `IsUncarriedBy`: the first record in file order that isn't carried, where nothing that concerns all of them comes
-- first.
use Rattle.std.specs.Prelude.{◌≡◌, ◌≢◌, ℕ, ◌<◌, ◌≤◌, Bool, true, length, map, option_map, slice_index, IsPermutation}
use Rattle.edi_record.specs.declared.record.Kind.TheVariants.{Par}
use Rattle.edi_schema.specs.Classes.{Classes, partner_of}
use Rattle.edi_plan.specs.Plans.{PlanData, IsPlace, record_at, origin_of, others_of}
use Rattle.edi_plan.specs.declared.record.PlanRecord.{PlanRecord}
use Rattle.edi_rank.specs.Labelling.{turned_at}
use Rattle.edi_rank.specs.Same.{class_after, directed, moved}
use Rattle.edi_compare.specs.declared.pairing.Pairing.{Pairing}
use Rattle.edi_compare.specs.declared.uncarried.RecordPart.{RecordPart}
use Rattle.edi_compare.specs.declared.uncarried.RecordPart.TheVariants.{Reversal, Kind, Class, Points, Extras, Attributes, Ends}
use Rattle.edi_compare.specs.declared.uncarried.Uncarried.{Uncarried}
use Rattle.edi_compare.specs.declared.uncarried.Uncarried.TheVariants.{Entries, CharacterSets, Record, Unmet}
use Rattle.edi_compare.specs.declared.uncarried.WrongPartner.{WrongPartner}
use Rattle.edi_compare.specs.declared.uncarried.WrongPartner.TheVariants.{Nowhere, Shared, Unlike}

-- the order in which the parts of a record are compared
abbrev pub part_order : RecordPart → ℕ
part_order Reversal = 0
part_order Kind = 1
part_order Class = 2
part_order Points = 3
part_order Extras = 4
part_order Attributes = 5
part_order Ends = 6

-- what is asked of a part of the record a that is turned or not, if b is to be that record: all of it is
-- `CarriesRecord`, and that arcs alone are turned
module _ (s : Classes) (to : ℕ → ℕ) (turned : ℕ → Bool) (i : ℕ) (a b : PlanRecord) where
  -- the two agree in this part
  abbrev pub AgreeIn : RecordPart → Type 0
  AgreeIn Reversal = turned i ≡ true → a.kind ≡ Par
  AgreeIn Kind = b.kind ≡ a.kind
  AgreeIn Class = b.class ≡ class_after (partner_of s) turned a
  AgreeIn Points = b.points ≡ directed (turned i) a.points
  AgreeIn Extras = b.extras ≡ a.extras
  AgreeIn Attributes = IsPermutation a.attributes b.attributes
  AgreeIn Ends =
      (origin_of b ≡ option_map (moved to) (origin_of a)) × IsPermutation (map (moved to) (others_of a)) (others_of b)

  -- they differ in this part, and in none before it
  pub record IsFirstUnlike (part : RecordPart) : Type 0 where
    pub here : ¬ (AgreeIn part)
    pub before : (other : RecordPart) → part_order other < part_order part → AgreeIn other

-- ---- two plans under a schema, where each record of the first goes, and which are turned

module _ (s : Classes) (to : ℕ → ℕ) (turned : ℕ → Bool) (p q : PlanData) where
  -- the record at a place goes to a place of the second plan to which none before it goes, and is the record there
  pub record IsCarried (i : ℕ) : Type 0 where
    pub within : to i < length q.list
    pub alone : (k : ℕ) → k < i → to k ≢ to i
    pub agrees : (part : RecordPart) → AgreeIn s to turned i (record_at p i) (record_at q (to i)) part

  -- why it isn't carried
  abbrev pub IsWrongPartner : ℕ → WrongPartner → Type 0
  IsWrongPartner i Nowhere = length q.list ≤ to i
  IsWrongPartner i (Shared k) = (to i < length q.list) × (k < i) × (to k ≡ to i)
  IsWrongPartner i (Unlike part) = (to i < length q.list) × ((k : ℕ) → k < i → to k ≢ to i)
      × IsFirstUnlike s to turned i (record_at p i) (record_at q (to i)) part

  -- the record at the place is the first that isn't carried
  pub record IsFirstUncarried (i : ℕ) (why : WrongPartner) : Type 0 where
    pub there : IsPlace p i
    pub before : (k : ℕ) → k < i → IsCarried k
    pub wrong : IsWrongPartner i why

  -- each record is carried, and the place is the first of the second plan to which none goes
  pub record IsFirstUnmet (j : ℕ) : Type 0 where
    pub carried : (i : ℕ) → IsPlace p i → IsCarried i
    pub there : IsPlace q j
    pub unmet : (i : ℕ) → IsPlace p i → to i ≢ j
    pub before : (l : ℕ) → l < j → (i : ℕ) × IsPlace p i × (to i ≡ l)

-- the pairing has an entry for each record
pub record HasEntries (p : PlanData) (pairing : Pairing) : Type 0 where
  pub all_paired : length pairing.to ≡ length p.list
  pub all_directed : length pairing.turned ≡ length p.list

-- Why the pairing doesn't carry.
abbrev pub IsUncarriedBy : Classes → PlanData → PlanData → Pairing → Uncarried → Type 0
IsUncarriedBy s p q pairing Entries = ¬ (HasEntries p pairing)
IsUncarriedBy s p q pairing CharacterSets = HasEntries p pairing × (q.cse ≢ p.cse)
IsUncarriedBy s p q pairing (Record i why) =
    HasEntries p pairing × (q.cse ≡ p.cse)
    × IsFirstUncarried s (slice_index pairing.to) (turned_at pairing.turned) p q i why
IsUncarriedBy s p q pairing (Unmet j) =
    HasEntries p pairing × (q.cse ≡ p.cse) × IsFirstUnmet s (slice_index pairing.to) (turned_at pairing.turned) p q j
