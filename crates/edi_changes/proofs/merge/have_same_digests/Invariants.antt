use Rattle.std.proofs.Common.{◌≡◌, map, take}
use Rattle.edi_changes.specs.inner.Merging.{digest_in}
use Rattle.edi_changes.proofs.merge.have_same_digests.Given as goal

abbrev pub invariant-loop-place : goal.invariant-loop-place
invariant-loop-place l = take l.place (map digest_in l.before) ≡ take l.place (map digest_in l.after)
