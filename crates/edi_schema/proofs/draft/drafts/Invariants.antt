use Rattle.std.proofs.Common.{◌≡◌, map, take, Some}
use Rattle.edi_schema.specs.inner.Drafts.{definition_said, class_in, drafted}
use Rattle.edi_schema.proofs.draft.drafts.Given as goal

abbrev pub invariant-loop-place : goal.invariant-loop-place
invariant-loop-place l = map (class_in l.kinds (map definition_said l.words.records.now)) (map definition_said (take l.place l.records)) ≡ map Some (map drafted l.drafts.items)
