use Rattle.std.proofs.Common.{subst}
use Rattle.edi_plan.specs.inner.Found.{FindsAll}
use Rattle.edi_plan.proofs.HintLemmas.{no_repeats}
use Rattle.edi_plan.proofs.name_places.NamePlaces.repeat.Goals as goal

pub returns-in-Hinted : goal.returns-in-Hinted
returns-in-Hinted c = λ list finds j. let finds_all = subst (FindsAll list) c.in-Hinted.is finds in no_repeats list c.in-Hinted.field-0 finds_all.0 finds_all.1 j
