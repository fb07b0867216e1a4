-- The codes that were taken are those that were given.
use Rattle.std.proofs.Common.{inl, refl, subst}
use Rattle.edi_schema.specs.Roles.{KindCodes}
use Rattle.edicad_c.specs.Schemas.{IsLoaded}
use Rattle.edicad_c.proofs.schemas.edicad_schema_load_kinds.Goals as goal

pub returns-in-Some : goal.returns-in-Some
returns-in-Some c =
    let P : KindCodes → Type 0 = λ kinds. IsLoaded c.args.scd.now c.args.dic.now kinds c.load.new.schema.held c.load.result in
    inl (c.in-Some.ensures.good.0 refl, subst P c.in-Some.ensures.codes c.load.ensures)
