use Rattle.std.proofs.Common.{◌≡◌, map, take}
use Rattle.edi_schema.specs.inner.Drafts.{drafted}
use Rattle.edi_schema.proofs.sorting.by_name.Given as goal

abbrev pub invariant-loop-draft : goal.invariant-loop-draft
invariant-loop-draft l = l.classes.entries ≡ map drafted (take l.draft-index l.drafts)
