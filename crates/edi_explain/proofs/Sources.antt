-- The files of a schema that breaks no rule of lines.
use Rattle.std.proofs.Common.{ℕ, List}
use Rattle.edi_line.specs.LineRules.{BreaksLineRule}
use Rattle.edi_line.specs.Refusal.{IsUnbroken}
use Rattle.edi_schema.specs.SchemaRules.{SchemaLinesHold}
use Rattle.edi_schema.specs.declared.fault.Source.{Source}
use Rattle.edi_schema.specs.declared.fault.Source.TheVariants.{Scd, Dic}
use Rattle.edi_explain.specs.Explained.{of_source}

pub lines_of : (file : Source) (scd dic : List ℕ) → SchemaLinesHold scd dic → IsUnbroken (BreaksLineRule (of_source file scd dic))
lines_of Scd scd dic h = h.0
lines_of Dic scd dic h = h.1
