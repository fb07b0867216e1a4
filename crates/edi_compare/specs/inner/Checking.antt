-- What is checked of a pairing, record by record.
use Rattle.std.specs.Prelude.{◌≡◌, ℕ, ◌<◌, Bool, true, false, List, length, slice_index, slice_index_or}
use Rattle.edi_schema.specs.Classes.{Classes}
use Rattle.edi_plan.specs.Plans.{PlanData, IsPlace, record_at}
use Rattle.edi_plan.specs.declared.record.PlanEnd.{PlanEnd}
use Rattle.edi_rank.specs.Labelling.{turned_at}
use Rattle.edi_rank.specs.Same.{CarriesRecord}
use Rattle.edi_plan.specs.Agreeing.{HasClasses}
use Rattle.edi_compare.specs.Uncarried.{AgreeIn, IsCarried, IsFirstUnlike, IsFirstUnmet, IsFirstUncarried, IsWrongPartner}
use Rattle.edi_compare.specs.declared.moved_ends.MovedEnd.{MovedEnd}
use Rattle.edi_compare.specs.declared.uncarried.RecordPart.{RecordPart}
use Rattle.edi_compare.specs.declared.uncarried.Uncarried.{Uncarried}
use Rattle.edi_compare.specs.declared.uncarried.Uncarried.TheVariants.{Entries, CharacterSets, Record, Unmet}
use Rattle.edi_compare.specs.declared.uncarried.WrongPartner.{WrongPartner}

-- two plans of one schema, the places that the records of the first go to, and which of them are turned
pub record PairedPlans : Type 0 where
  pub classes : Classes
  pub plan : PlanData
  pub other : PlanData
  pub to : List ℕ
  pub turned : List Bool

-- each record has an entry
pub record HasEntryForEach (m : PairedPlans) : Type 0 where
  pub classed : HasClasses m.classes m.plan
  pub all_paired : length m.to ≡ length m.plan.list
  pub all_directed : length m.turned ≡ length m.plan.list

-- the record at the place is carried, or isn't by this
abbrev pub IsCarriedAt : PairedPlans → ℕ → Type 0
IsCarriedAt m i = IsCarried m.classes (slice_index m.to) (turned_at m.turned) m.plan m.other i

abbrev pub IsWrongAt : PairedPlans → ℕ → WrongPartner → Type 0
IsWrongAt m i why = IsWrongPartner m.classes (slice_index m.to) (turned_at m.turned) m.plan m.other i why

-- the record at the place i is that at the place j of the other plan
abbrev pub IsCarriedTo : PairedPlans → ℕ → ℕ → Type 0
IsCarriedTo m i j =
    CarriesRecord m.classes (slice_index m.to) (turned_at m.turned) i (record_at m.plan i) (record_at m.other j)

-- the two agree in a part
abbrev pub AgreeAt : PairedPlans → ℕ → ℕ → RecordPart → Type 0
AgreeAt m i j part =
    AgreeIn m.classes (slice_index m.to) (turned_at m.turned) i (record_at m.plan i) (record_at m.other j) part

-- it is the first part in which they don't
abbrev pub IsUnlikeAt : PairedPlans → ℕ → ℕ → RecordPart → Type 0
IsUnlikeAt m i j part =
    IsFirstUnlike m.classes (slice_index m.to) (turned_at m.turned) i (record_at m.plan i) (record_at m.other j) part

-- the marks of places: those to which the first so many records go
pub record AreMarked (to : ℕ → ℕ) (marks : List Bool) (count done : ℕ) : Type 0 where
  pub long : length marks ≡ count
  pub found : (j : ℕ) → slice_index_or marks j false ≡ true → (k : ℕ) × (k < done) × (to k ≡ j)
  pub marked : (k : ℕ) → k < done → slice_index_or marks (to k) false ≡ true

-- each record is carried, and one goes to each of the second plan
pub record AreCarried (m : PairedPlans) : Type 0 where
  pub each : (i : ℕ) → IsPlace m.plan i → IsCarriedAt m i
  pub onto : (j : ℕ) → IsPlace m.other j → (i : ℕ) × IsPlace m.plan i × (slice_index m.to i ≡ j)

-- what isn't so of two plans, where there is an entry for each record and one character set
abbrev pub FailsBy : PairedPlans → Uncarried → Type 0
FailsBy m Entries = ⊥
FailsBy m CharacterSets = ⊥
FailsBy m (Record i why) = IsFirstUncarried m.classes (slice_index m.to) (turned_at m.turned) m.plan m.other i why
FailsBy m (Unmet j) = IsFirstUnmet m.classes (slice_index m.to) (turned_at m.turned) m.plan m.other j

-- an end as it is compared
abbrev pub placed_end : PlanEnd → MovedEnd
placed_end e = record { target = e.target; sns = e.sns }
