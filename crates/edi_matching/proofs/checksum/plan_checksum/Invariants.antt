use Rattle.std.proofs.Common.{◌≡◌, ◌%◌, ◌^◌}
use Rattle.edi_plan.specs.Plans.{record_at}
use Rattle.edi_topo.specs.Ranking.{sum_below}
use Rattle.edi_matching.specs.inner.Checksums.{record_checksum}
use Rattle.edi_matching.proofs.checksum.plan_checksum.Given as goal

-- the sum of the checksums of the records so far
abbrev pub invariant-loop-place : goal.invariant-loop-place
invariant-loop-place l = l.sum ≡ sum_below l.place (λ k. record_checksum (record_at l.plan k)) % 2 ^ 64
