-- The first record that states no class.
use Rattle.std.proofs.Common.{◌≡◌, ℕ, ◌+◌, ◌<◌, List, length, take, map, get_or, Option, Some, None, option_map, refl, ap, ◌∙◌}
use Rattle.std.proofs.lemmas.Option.{slice_get-map, slice_get-get_or}
use Rattle.std.proofs.lemmas.List.{take-map}
use Rattle.edi_schema.specs.inner.Drafts.{Said, definition_said}
use Rattle.edi_schema.specs.inner.Steps.{IsFirstLacking}
use Rattle.edi_schema.specs.declared.definition.Definition.{Definition}

pub lacking_found : {Y : Type 0} (gives : Said → Option Y) (records : List Definition) (i : ℕ) (d : Definition) (found : List Y) → i < length records
    → map gives (map definition_said (take i records)) ≡ map Some found → gives (definition_said (get_or records i d)) ≡ None → IsFirstLacking gives (map definition_said records) (i + 1)
lacking_found gives records i d found below front lacks = record {
  place = i;
  item = definition_said (get_or records i d);
  found = found;
  at_is = refl;
  here = slice_get-map definition_said records i ∙ ap (option_map definition_said) (slice_get-get_or records i d below);
  lacks = lacks;
  front = ap (map gives) (take-map definition_said i records) ∙ front;
}
