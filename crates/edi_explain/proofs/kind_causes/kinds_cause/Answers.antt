use Rattle.edi_line.specs.ZoneData.{entries}
use Rattle.edi_line.specs.Zones.{groups_of}
use Rattle.edi_explain.specs.KindClasses.{codes_of}
use Rattle.edi_explain.specs.declared.kind_causes.KindsCase.TheVariants.{Alone, Barred}
use Rattle.edi_explain.proofs.KindRows.{below_alone, below_barred, cause_first, none_broken, with_match}
use Rattle.edi_explain.proofs.kind_causes.kinds_cause.Goals as goal

pub returns-in-Some-first_of_case : goal.returns-in-Some-first_of_case
returns-in-Some-first_of_case c =
    let groups = groups_of (entries c.args.zones.now) in
    let kinds = codes_of c.args.codes.now in
    cause_first groups kinds Alone c.in-Some-first_of_case.cause c.in-Some-first_of_case.ensures (below_alone groups kinds c.in_default.ensures)

pub returns : goal.returns
returns c =
    let groups = groups_of (entries c.args.zones.now) in
    let kinds = codes_of c.args.codes.now in
    with_match c.first_of_case-3.result _ _ _ _ (none_broken groups kinds c.in_default.ensures c.in_default-first_of_case.ensures)
    (λ cause first. cause_first groups kinds Barred cause first (below_barred groups kinds c.in_default.ensures c.in_default-first_of_case.ensures)) c.first_of_case-3.ensures
