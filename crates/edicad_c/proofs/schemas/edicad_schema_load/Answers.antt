-- The usual codes are those of the clause.
use Rattle.std.proofs.Common.{subst}
use Rattle.edi_schema.specs.Roles.{KindCodes}
use Rattle.edicad_c.specs.Schemas.{IsLoaded}
use Rattle.edicad_c.proofs.schemas.edicad_schema_load.Goals as goal

pub returns : goal.returns
returns c =
    let P : KindCodes → Type 0 = λ kinds. IsLoaded c.args.scd.now c.args.dic.now kinds c.load.new.schema.held c.load.result in
    subst P c.usual.ensures c.load.ensures
