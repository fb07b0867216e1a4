use Rattle.std.proofs.Common.{IfErr, subst}
use Rattle.edi_schema.specs.Roles.{KindCodes}
use Rattle.edi_schema.specs.SchemaRefusal.{IsSchemaRefusal}
use Rattle.uses.proofs.sheets.schema_by_identifiers.Goals as goal

pub returns-clause-refusal : goal.returns-clause-refusal
returns-clause-refusal c =
    subst (λ (k : KindCodes). IfErr c.load.result (IsSchemaRefusal c.args.scd.now c.args.dic.now k)) c.kinds.ensures c.load.ensures.refusal
