use Rattle.std.proofs.Common.{List, subst}
use Rattle.edi_line.specs.ZoneData.{entries}
use Rattle.edi_line.specs.Zones.{groups_of}
use Rattle.edi_line.specs.declared.zone.Zone.{Zone}
use Rattle.edi_explain.specs.KindClasses.{codes_of}
use Rattle.edi_explain.specs.KindLines.{AreLacking}
use Rattle.edi_explain.proofs.kind_lines.lacking_kinds.Goals as goal

pub returns-in-Ok-clause-named : goal.returns-in-Ok-clause-named
returns-in-Ok-clause-named c =
    let zones = c.in_ok-zones.zones.items in
    let lacking = c.lacking_in-lacking.result in (
      entries zones,
      lacking,
      c.in_ok-zones.ensures.zones,
      subst (λ (zs : List Zone). AreLacking (groups_of (entries zs)) (codes_of c.args.codes.now) lacking) c.deref.ensures.value c.lacking_in-lacking.ensures,
      c.in-Ok.ensures,
    )
