use Rattle.std.proofs.Common.{◌≡◌, drop}
use Rattle.edi_matching.specs.inner.Entries.{object_among}
use Rattle.edi_matching.proofs.entries.object_among.Given as goal

-- what is left decides
abbrev pub invariant-loop-end : goal.invariant-loop-end
invariant-loop-end l = object_among l.plan (drop l.end-index l.ends) ≡ object_among l.plan l.ends
