use Rattle.std.proofs.Common.{List, Option, subst, sym}
use Rattle.std.specs.Prelude.{IfSome}
use Rattle.std.specs.Global.{Vec}
use Rattle.edi_line.specs.ZoneData.{entries}
use Rattle.edi_line.specs.LineRules.{IsZonesOf}
use Rattle.edi_line.specs.declared.zone.Zone.{Zone}
use Rattle.edi_explain.proofs.Phases.{lines_hold}
use Rattle.edi_explain.proofs.explained.explain_record.Goals as goal

pub zones_of-requires : goal.zones_of-requires
zones_of-requires c = lines_hold c.args.schema.now c.args.file.now.bytes.now c.args.rule c.args.at c.requires.refusal

pub explain_among-requires-clause-zones : goal.explain_among-requires-clause-zones
explain_among-requires-clause-zones c =
    let b = c.args.file.now.bytes.now in
    let read = subst (λ (o : Option (Vec Zone)). IfSome o (λ zs. IsZonesOf b (entries zs.items))) c.in-Some.is c.requires.zones in
    subst (λ (zs : List Zone). IsZonesOf b (entries zs)) (sym c.deref.ensures.value) read

pub explain_among-requires-in-None-clause-zones : goal.explain_among-requires-in-None-clause-zones
explain_among-requires-in-None-clause-zones c =
    let b = c.args.file.now.bytes.now in
    subst (λ (zs : List Zone). IsZonesOf b (entries zs)) (sym c.deref-in-None.ensures.value) c.in_ok-zones-in-None.ensures
