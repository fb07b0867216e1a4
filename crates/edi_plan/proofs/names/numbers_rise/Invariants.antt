use Rattle.std.proofs.Common.{◌≡◌, ◌≢◌, ℕ, ◌<◌, true, Some, slice_get}
use Rattle.edi_record.specs.declared.record.Record.{Record}
use Rattle.edi_record.specs.Records.{is_link}
use Rattle.edi_plan.specs.inner.LinkNames.{link_number}
use Rattle.edi_plan.proofs.names.numbers_rise.Given as goal

-- the links so far end with less than the least that the next may have, and no two have one identifier
abbrev pub invariant-loop-place : goal.invariant-loop-place
invariant-loop-place l = record {
  below : (j : ℕ) (q : Record) → j < l.place → slice_get l.records j ≡ Some q → is_link q.kind ≡ true → link_number l.by_digits q.rid < l.least;
  differ : (j k : ℕ) (q r : Record) → j < k → k < l.place → slice_get l.records j ≡ Some q → slice_get l.records k ≡ Some r
      → is_link q.kind ≡ true → is_link r.kind ≡ true → q.rid ≢ r.rid;
}
