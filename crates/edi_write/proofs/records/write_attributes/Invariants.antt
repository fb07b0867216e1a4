use Rattle.std.proofs.Common.{◌≡◌, ◌++◌, map, take}
use Rattle.std.specs.Prelude.{flat_map}
use Rattle.edi_line.specs.Printing.{printed}
use Rattle.edi_write.specs.Layout.{attribute_zones}
use Rattle.edi_write.proofs.records.write_attributes.Given as goal

abbrev pub invariant-loop-attribute : goal.invariant-loop-attribute
invariant-loop-attribute l = l.page.file.items ≡ l.fn.page.file.items ++ printed (flat_map (attribute_zones l.schema) (map (λ a. a.now) (take l.attribute-index l.attributes)))
