use Rattle.std.proofs.Common.{◌≡◌, map, take}
use Rattle.std.specs.List.{IsDistinct}
use Rattle.edi_schema.specs.Classes.{is_name}
use Rattle.edi_schema.specs.inner.Drafts.{title_name, definition_said}
use Rattle.edi_schema.proofs.titles.titles.Given as goal

abbrev pub invariant-loop-place : goal.invariant-loop-place
invariant-loop-place l = record {
  names : map title_name l.titles.keys ≡ map (λ d. (definition_said d).name) (take l.place l.records);
  distinct : IsDistinct is_name (map (λ d. (definition_said d).name) (take l.place l.records));
}
