use Rattle.std.proofs.Common.{subst}
use Rattle.std.specs.Prelude.{IfSome}
use Rattle.edi_plan.specs.inner.Hints.{HasTabled}
use Rattle.edi_plan.proofs.HintLemmas.{finds_all}
use Rattle.edi_plan.proofs.name_places.NamePlaces.among.Goals as goal

pub returns-in-Some : goal.returns-in-Some
returns-in-Some c =
    let list = c.args.records.now in
    let rise = c.links_rise.result in
    finds_all rise list c.in-Some.hints c.links_rise.ensures (subst (λ hints. IfSome hints (HasTabled rise list)) c.in-Some.is c.in_ok-hints.ensures)
