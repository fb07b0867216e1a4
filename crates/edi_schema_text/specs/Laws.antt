-- Laws of the texts of schemas.
use Rattle.std.specs.Prelude.{◌≡◌, ◌≢◌, ◌⊎◌, ◌↔◌, ℕ, List, IsPermutation}
use Rattle.sha2.specs.Sha256.{sha256}
use Rattle.edi_schema.specs.Classes.{Classes, IsSchema}
use Rattle.edi_schema.specs.Roles.{KindCodes}
use Rattle.edi_schema.specs.SchemaRefusal.{IsGoodSchema}
use Rattle.edi_schema_text.specs.SchemaText.{MeanSame, text_of_schema}

-- two schemas have one text exactly if they mean the same
abbrev pub TextsTellSchemas : Type 0
TextsTellSchemas = (s t : Classes) → IsSchema s → IsSchema t → (text_of_schema s ≡ text_of_schema t) ↔ MeanSame s t

-- Two pairs of files have schemas with one text if their records state the same classes, in whatever order: a lot, a
-- subset, a remark and what else a record has are no part of what it states.
abbrev pub OneStatementOneText : Type 0
OneStatementOneText =
    (scd dic scd' dic' : List ℕ) (kinds kinds' : KindCodes) (s t : Classes)
    (first : IsGoodSchema scd dic kinds s) (second : IsGoodSchema scd' dic' kinds' t)
    → IsPermutation first.is.stated second.is.stated → text_of_schema s ≡ text_of_schema t

-- two schemas that mean the same have one digest
abbrev pub OneMeaningOneDigest : Type 0
OneMeaningOneDigest =
    (s t : Classes) → IsSchema s → IsSchema t → MeanSame s t → sha256 (text_of_schema s) ≡ sha256 (text_of_schema t)

-- two with one digest mean the same, or their texts are two and share their SHA-256
abbrev pub OneDigestOneMeaning : Type 0
OneDigestOneMeaning =
    (s t : Classes) → IsSchema s → IsSchema t → sha256 (text_of_schema s) ≡ sha256 (text_of_schema t)
    → MeanSame s t ⊎ (text_of_schema s ≢ text_of_schema t)
