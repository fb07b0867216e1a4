use Rattle.std.proofs.lemmas.Result.{IfOk-weaker}
use Rattle.edi_line.specs.ZoneData.{entries}
use Rattle.edi_explain.proofs.refused.sites_of.Goals as goal

pub returns : goal.returns
returns c = IfOk-weaker c.sites_of_records.result _ _ (λ sites h. h (entries c.args.zones.now) c.args.number c.args.earlier c.records_in.ensures) c.sites_of_records.ensures
