use Rattle.std.proofs.Common.{◌≡◌, take}
use Rattle.edi_matching.specs.inner.Checksums.{sum_of}
use Rattle.edi_matching.specs.inner.Ranked.{end_checksum}
use Rattle.edi_matching.proofs.ranked.Ranked.sum_of_ends.Given as goal

-- the sum of the checksums so far
abbrev pub invariant-loop-end : goal.invariant-loop-end
invariant-loop-end l = l.sum ≡ sum_of (end_checksum l.self.plan.now l.self.labels.now) (take l.end-index l.ends)
