use Rattle.std.proofs.Common.{◌≡◌, drop}
use Rattle.std.specs.List.{list_any}
use Rattle.edi_plan.specs.inner.Resolving.{lacks_class}
use Rattle.edi_plan.proofs.reference_findings.any_lacks_class.Given as goal

abbrev pub invariant-loop-attribute : goal.invariant-loop-attribute
invariant-loop-attribute l = list_any (lacks_class l.schema) (drop l.attribute-index l.attributes) ≡ list_any (lacks_class l.schema) l.attributes
