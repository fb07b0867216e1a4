use Rattle.std.proofs.Common.{◌≡◌, take}
use Rattle.std.specs.List.{AllZip}
use Rattle.edi_plan.specs.inner.Resolving.{Resolves}
use Rattle.edi_plan.proofs.records.plan_attributes.Given as goal

abbrev pub invariant-loop-attribute : goal.invariant-loop-attribute
invariant-loop-attribute l = record {
  zipped : AllZip (Resolves l.schema) (take l.attribute-index l.attributes) l.done.items;
  finders : l.classes ≡ l.schema;
}
