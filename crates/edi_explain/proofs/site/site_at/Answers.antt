use Rattle.std.proofs.lemmas.Result.{IfOk-weaker}
use Rattle.edi_line.specs.ZoneData.{entries}
use Rattle.edi_explain.specs.inner.Found.{number_from_one}
use Rattle.edi_explain.proofs.site.site_at.Goals as goal

pub returns : goal.returns
returns c = IfOk-weaker c.site_if_found.result _ _ (λ site h. h (entries c.args.zones.now) (number_from_one c.args.place) c.record_at.ensures) c.site_if_found.ensures
