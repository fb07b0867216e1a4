use Rattle.std.proofs.Common.{◌≡◌, take}
use Rattle.edi_matching.specs.inner.Checksums.{sum_of}
use Rattle.edi_matching.proofs.checksum.sum_of.Given as goal

-- the sum of the checksums so far
abbrev pub invariant-loop-part : goal.invariant-loop-part
invariant-loop-part g l = l.sum ≡ sum_of g.P.Checksum.checksum_of (take l.part-index l.parts)
