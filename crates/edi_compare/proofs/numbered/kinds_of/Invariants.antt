use Rattle.std.proofs.Common.{◌≡◌, ◌<◌, ℕ, length, slice_index_or}
use Rattle.edi_plan.specs.Plans.{record_at}
use Rattle.edi_record.specs.declared.record.Kind.TheVariants.{Pno}
use Rattle.edi_compare.proofs.numbered.kinds_of.Given as goal

-- the types of the records so far
abbrev pub invariant-loop-place : goal.invariant-loop-place
invariant-loop-place l = record {
  long : length l.kinds.items ≡ l.place;
  each : (k : ℕ) → k < l.place → slice_index_or l.kinds.items k Pno ≡ (record_at l.plan k).kind;
}
