use Rattle.std.proofs.Common.{◌≡◌, false}
use Rattle.edi_line.specs.ZoneData.{entries, entry}
use Rattle.edi_record.specs.Records.{is_known}
use Rattle.edi_explain.proofs.ExtraZonesOf.{extra_told}
use Rattle.edi_explain.proofs.unknown.is_extra.Goals as goal

pub returns-then-not-is_known : goal.returns-then-not-is_known
returns-then-not-is_known c =
    let unknown : is_known c.args.kind (entry c.args.zone.now).code ≡ false = let t = c.if-not-is_known.true in let e = c.if-not-is_known.ensures in let d = c.is_known.ensures in cc in
    extra_told c.args.kind (entries c.args.front.zones.now) (entry c.args.zone.now) unknown c.is_set.result c.is_set.ensures
