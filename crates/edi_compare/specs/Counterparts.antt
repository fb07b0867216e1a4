-- The way in which two sheets with one canonical file are paired: by the types and the numbers of their records.
use Rattle.std.specs.Prelude.{◌≡◌, ℕ, ◌-◌, ◌<◌, ◌≤◌, not, length, slice_index, slice_index_or}
use mathlib.Core.Bool.{beq}
use Rattle.edi_record.specs.declared.record.Kind.{Kind}
use Rattle.edi_record.specs.declared.record.Kind.TheVariants.{Pno}
use Rattle.edi_plan.specs.Plans.{PlanData, IsPlace, record_at}
use Rattle.edi_rank.specs.Labelling.{Labelling, order_of, turned_at}
use Rattle.edi_compare.specs.declared.numbered.NumberedRecords.{NumberedRecords}
use Rattle.edi_compare.specs.declared.pairing.Pairing.{Pairing}

-- the type and the number of the record at a place of the first sheet
abbrev pub kind_at : NumberedRecords → ℕ → Kind
kind_at f k = slice_index_or f.kinds.items k Pno

abbrev pub number_at : NumberedRecords → ℕ → ℕ
number_at f k = slice_index f.numbers k

-- the records of a plan by its labels: the type, the number and the reversal of each
pub record IsNumbered (p : PlanData) (l : Labelling) (f : NumberedRecords) : Type 0 where
  pub long : length f.kinds.items ≡ length p.list
  pub kinds : (k : ℕ) → IsPlace p k → kind_at f k ≡ (record_at p k).kind
  pub numbers : f.numbers ≡ l.numbers
  pub turned : f.turned ≡ l.turned

-- each record of the first sheet has a counterpart by the labels m of a second plan: one of its type with its number
pub record HasCounterparts (f : NumberedRecords) (m : Labelling) : Type 0 where
  pub numbered : length f.numbers ≡ length f.kinds.items
  pub directed : length f.turned ≡ length f.kinds.items
  pub from_one : (k : ℕ) → k < length f.kinds.items → 1 ≤ number_at f k
  pub to_count : (k : ℕ) → k < length f.kinds.items → number_at f k ≤ length (order_of m (kind_at f k))
  pub there : (kind : Kind) (i : ℕ) → i < length (order_of m kind) → slice_index (order_of m kind) i < length m.turned

-- the place of the record of a type that has the number which the record of the first sheet at the place i has
abbrev pub counterpart : NumberedRecords → Labelling → ℕ → ℕ
counterpart f m i = slice_index (order_of m (kind_at f i)) (number_at f i - 1)

-- each record goes to the one with its type and its number, and is turned where one of the two alone is turned
pub record PairsByNumber (f : NumberedRecords) (m : Labelling) (pairing : Pairing) : Type 0 where
  pub all_paired : length pairing.to ≡ length f.kinds.items
  pub all_directed : length pairing.turned ≡ length f.kinds.items
  pub to : (i : ℕ) → i < length f.kinds.items → slice_index pairing.to i ≡ counterpart f m i
  pub turned : (i : ℕ) → i < length f.kinds.items
      → turned_at pairing.turned i ≡ not (beq (turned_at f.turned i) (turned_at m.turned (counterpart f m i)))
