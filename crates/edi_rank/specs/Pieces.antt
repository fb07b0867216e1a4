-- The links that are pieces of an object.
use Rattle.std.specs.Prelude.{ℕ, List, count_by, slice_index}
use Rattle.edi_plan.specs.Plans.{PlanData, record_at, is_object}
use Rattle.edi_plan.specs.declared.record.PlanEnd.{PlanEnd}
use Rattle.edi_rank.specs.Keys.{object_key}
use Rattle.edi_rank.specs.declared.keys.ObjectKey.{ObjectKey}

-- how many of these ends are objects
abbrev pub object_count : PlanData → List PlanEnd → ℕ
object_count p ends = count_by (λ e. is_object (record_at p e.target).kind) ends

-- what the keys of objects are made of: the plan, and the number of each record, 0 for an object
pub record ObjectSource : Type 0 where
  pub plan : PlanData
  pub numbers : List ℕ

abbrev pub object_key_at : ObjectSource → ℕ → ObjectKey
object_key_at l place = object_key l.plan (slice_index l.numbers) place
