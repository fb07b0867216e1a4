use Rattle.std.proofs.Common.{◌<◌, ap, arith, length}
use Rattle.edi_plan.specs.Plans.{PlanData}
use Rattle.edi_pairing.proofs.CarriedPairs.{names_long}
use Rattle.uses.proofs.plans.canonical_number.Goals as goal

pub number-requires : goal.number-requires
number-requires c =
    let named = c.in_ok-named.named in
    let sheet = c.in_ok-named.ensures.sheet in
    let long = names_long c.args.schema.now c.args.sheet.now named.names named.accepted sheet.names sheet.plan in
    let within : c.in-Some.place < length named.names = c.in-Some.ensures.within in
    omega (arith, long, within, c.in_ok-labels.ensures.all_numbered, ap (λ (p : PlanData). length p.list) c.sound.ensures)
