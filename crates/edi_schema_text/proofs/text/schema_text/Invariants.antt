use Rattle.std.proofs.Common.{◌≡◌, ◌++◌, take}
use Rattle.edi_schema_text.specs.SchemaText.{class_lines, schema_head}
use Rattle.edi_schema_text.proofs.text.schema_text.Given as goal

abbrev pub invariant-loop-place : goal.invariant-loop-place
invariant-loop-place l = l.text.items ≡ schema_head ++ class_lines (take l.place l.schema)
