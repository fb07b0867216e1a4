-- What loading a schema answers.
use Rattle.std.specs.Prelude.{◌≡◌, ◌⊎◌, ℕ, List, Option, None, codes}
use Rattle.edi_schema.specs.Classes.{Classes}
use Rattle.edi_schema.specs.Roles.{AreKindCodes, KindCodes}
use Rattle.edi_schema.specs.SchemaRefusal.{IsGoodSchema, IsSchemaRefusal}
use Rattle.edi_schema.specs.declared.fault.SchemaFault.{SchemaFault}
use Rattle.edicad_c.specs.declared.answer.Answer.{Answer}
use Rattle.edicad_c.specs.declared.content.Content.{Content}
use Rattle.edicad_c.specs.Answers.{done, schema_answer, wrong_call}
use Rattle.edicad_c.specs.Held.{HoldsSchema}

-- the usual codes of the four kinds
abbrev pub usual_codes : KindCodes
usual_codes = record { initial = codes "IND"; final_node = codes "FND"; left = codes "LPO"; right = codes "RPO" }

-- the codes of the four kinds, as they are given
abbrev pub codes_in_order : List ℕ → List ℕ → List ℕ → List ℕ → KindCodes
codes_in_order a b c d = record { initial = a; final_node = b; left = c; right = d }

-- The handle holds the schema of the two files under the codes of the kinds; or it is empty, and the answer is the
-- refusal of the files.
abbrev pub IsLoaded : List ℕ → List ℕ → KindCodes → Option Content → Answer → Type 0
IsLoaded scd dic kinds held answer =
    ((s : Classes) × IsGoodSchema scd dic kinds s × HoldsSchema held s × (answer ≡ done))
    ⊎ ((f : SchemaFault) × IsSchemaRefusal scd dic kinds f × (held ≡ None) × (answer ≡ schema_answer f))

-- The same for codes from outside: where one is empty or two are equal, the call was wrong, and the handle is empty.
abbrev pub IsLoadedUnder : List ℕ → List ℕ → KindCodes → Option Content → Answer → Type 0
IsLoadedUnder scd dic kinds held answer =
    (AreKindCodes kinds × IsLoaded scd dic kinds held answer)
    ⊎ ((¬ (AreKindCodes kinds)) × (held ≡ None) × (answer ≡ wrong_call))
