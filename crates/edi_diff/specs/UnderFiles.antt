-- What differs between two sheets under the schema of two files.
use Rattle.std.specs.Prelude.{ℕ, List}
use Rattle.edi_schema.specs.Classes.{Classes}
use Rattle.edi_schema.specs.Roles.{KindCodes}
use Rattle.edi_schema.specs.SchemaRefusal.{IsGoodSchema}
use Rattle.edi_compare.specs.Rules.{IsAccepted}
use Rattle.edi_diff.specs.Differences.{IsDifference}
use Rattle.edi_diff.specs.declared.differing.Difference.{Difference}
use Rattle.edi_diff.specs.declared.form.TextForm.{TextForm}

-- both sheets are accepted under the schema of the two files and the codes, and this is what differs between them
abbrev pub IsDifferenceUnder : KindCodes → List ℕ → List ℕ → List ℕ → List ℕ → TextForm → Difference → Type 0
IsDifferenceUnder kinds scd dic a b form difference =
    (s : Classes) × IsGoodSchema scd dic kinds s × IsAccepted s a × IsAccepted s b × IsDifference s a b form difference
