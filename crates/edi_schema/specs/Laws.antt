-- Laws of schemas.
use Rattle.std.specs.Prelude.{◌≡◌, ℕ, List, Some}
use Rattle.std.specs.Ordering.{nat_cmp}
use Rattle.edi_record.specs.declared.name.Name.{Name}
use Rattle.edi_schema.specs.Roles.{KindCodes}
use Rattle.edi_schema.specs.Classes.{Classes, IsSchema, IsPaired, name_cmp, class_name_at}
use Rattle.edi_schema.specs.SchemaRefusal.{IsGoodSchema}

-- what two good files state under four codes is a schema
abbrev pub GoodSchemasAreSchemas : Type 0
GoodSchemasAreSchemas = (scd dic : List ℕ) (kinds : KindCodes) (s : Classes) → IsGoodSchema scd dic kinds s → IsSchema s

abbrev pub SchemasArePaired : Type 0
SchemasArePaired = (s : Classes) → IsSchema s → IsPaired s

abbrev pub SchemasAreOrdered : Type 0
SchemasAreOrdered =
    (s : Classes) → IsSchema s → (a b : ℕ) (m n : Name) → class_name_at s a ≡ Some m → class_name_at s b ≡ Some n
    → name_cmp m n ≡ nat_cmp a b

-- two schemas of one file of classes, one dictionary and four codes are one
abbrev pub SchemasAreOne : Type 0
SchemasAreOne =
    (scd dic : List ℕ) (kinds : KindCodes) (s t : Classes) → IsGoodSchema scd dic kinds s → IsGoodSchema scd dic kinds t
    → s ≡ t
