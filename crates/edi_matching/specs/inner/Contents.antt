-- Numbers of what records hold.
use Rattle.std.specs.Prelude.{◌≡◌, ◌≢◌, ◌⊎◌, ℕ, ◌+◌, Bool, List, Option, IsPermutation, filter_map, length, slice_index_or}
use Rattle.std.specs.declared.cmp.Ordering.{Ordering}
use Rattle.edi_record.specs.declared.record.Kind.{Kind}
use Rattle.edi_plan.specs.Places.{places_of}
use Rattle.edi_plan.specs.Plans.{PlanData, IsPlace, record_at}
use Rattle.edi_plan.specs.declared.record.PlanRecord.{PlanRecord}
use Rattle.edi_matching.specs.declared.contents.Contents.{Contents}
use Rattle.edi_matching.specs.declared.entries.ContentKey.{ContentKey}
use Rattle.edi_matching.specs.inner.Additions.{AreInOrder, HasKey, IsFirstFrom}
use Rattle.edi_matching.specs.inner.Entries.{content_beside, content_key_of}

-- one more than the first position whose key isn't less, if that has the key, and else 0
pub record IsNumberIn {K X : Type 0} (cmp : K → K → Ordering) (eq : K → K → Bool) (order : List (K × X)) (key : K)
    (number : ℕ) : Type 0 where
  pub at : ℕ
  pub first : IsFirstFrom cmp order 0 key at
  pub is : (HasKey eq order at key × (number ≡ at + 1)) ⊎ (¬ (HasKey eq order at key) × (number ≡ 0))

-- a place with what its record holds, if it is one of the plan
abbrev pub held_at : PlanData → ℕ → Option (ContentKey × ℕ)
held_at p k = content_beside p k k

-- over the order and the equality of what records hold
module _ (cmp : ContentKey → ContentKey → Ordering) (eq : ContentKey → ContentKey → Bool) where
  -- the number of what a record of this type holds, or 0 for another record
  abbrev pub IsContentNumber : Kind → List (ContentKey × ℕ) → PlanRecord → ℕ → Type 0
  IsContentNumber kind order r number =
      ((r.kind ≡ kind) × IsNumberIn cmp eq order (content_key_of r) number) ⊎ ((r.kind ≢ kind) × (number ≡ 0))

  -- a number for each record of a plan
  pub record AreContentNumbers (kind : Kind) (order : List (ContentKey × ℕ)) (p : PlanData) (numbers : List ℕ) : Type 0 where
    pub all : length numbers ≡ length p.list
    pub each : (k : ℕ) → IsPlace p k → IsContentNumber kind order (record_at p k) (slice_index_or numbers k 0)

  -- the numbers of what the records of a type hold in two plans, by what those of the first hold, in order
  pub record AreContents (kind : Kind) (p q : PlanData) (contents : Contents) : Type 0 where
    pub order : List (ContentKey × ℕ)
    pub ordered : AreInOrder cmp order
    pub listed : IsPermutation (filter_map (held_at p) (places_of kind p)) order
    pub here : AreContentNumbers kind order p contents.here.items
    pub there : AreContentNumbers kind order q contents.there.items
