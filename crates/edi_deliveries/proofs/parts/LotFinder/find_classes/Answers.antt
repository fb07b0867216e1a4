use Rattle.std.proofs.Common.{◌∙◌, Some, ap, inl, inr, refl, subst, sym}
use Rattle.std.specs.Option.{MatchOption}
use Rattle.edi_deliveries.specs.Deliveries.{LacksSchema}
use Rattle.edi_deliveries.specs.inner.Finding.{placed_of}
use Rattle.edi_deliveries.specs.inner.Paths.{AreLotPaths}
use Rattle.edi_deliveries.proofs.FoundSteps.{adds_map, none_added}
use Rattle.edi_deliveries.proofs.parts.LotFinder.find_classes.Goals as goal

pub returns-in-Ok-Some-clause-found : goal.returns-in-Ok-Some-clause-found
returns-in-Ok-Some-clause-found g c =
    let at = placed_of c.args.self.now in
    let are = subst (λ found. MatchOption found (LacksSchema at.names at.lot) (AreLotPaths at.before at.names at.lot)) c.in-Ok-Some.field-0-is c.in-Ok-Some.ensures in
    adds_map c.args.lines.now.items c.find_under.new.lines.items _ _
    (λ l h. inl (
      record { scd = c.as_str.result; dic = c.as_str-in-Ok-Some.result; sheets = c.new.result },
      are.scd ∙ ap Some (sym c.as_str.ensures.value),
      are.dic ∙ ap Some (sym c.as_str-in-Ok-Some.ensures.value),
      h,
    ))
    c.find_under.ensures.found

pub returns-in-Ok-None-clause-found : goal.returns-in-Ok-None-clause-found
returns-in-Ok-None-clause-found g c =
    let at = placed_of c.args.self.now in
    let lacks = subst (λ found. MatchOption found (LacksSchema at.names at.lot) (AreLotPaths at.before at.names at.lot)) c.in-Ok-None.field-0-is c.in-Ok-None.ensures in
    none_added c.args.lines.now.items _ (inr (inl (lacks, (refl, refl, refl))))

pub returns-in-Err-clause-found : goal.returns-in-Err-clause-found
returns-in-Err-clause-found g c = none_added c.args.lines.now.items _ (inr (inr (refl, c.out_of_memory.ensures.status, c.out_of_memory.ensures.text)))
