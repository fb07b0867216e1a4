use Rattle.std.proofs.Common.{◌≡◌, ◌++◌, drop}
use Rattle.edi_diff.specs.inner.Joints.{joined_with}
use Rattle.edi_diff.proofs.proposing.names_of.Given as goal

abbrev pub invariant-loop-of : goal.invariant-loop-of
invariant-loop-of l = l.names.items ++ joined_with (drop l.of-index l.behind) l.code ≡ joined_with l.behind l.code
