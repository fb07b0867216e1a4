use Rattle.std.proofs.Common.{◌+◌, refl, ap}
use Rattle.std.proofs.lemmas.Result.{IfOk-weaker}
use Rattle.edi_census.proofs.NotedRules.{put_if}
use Rattle.edi_census.proofs.judging.push_if.Goals as goal

pub returns : goal.returns
returns g c = IfOk-weaker c.push_if_broken.result _ _ (λ _ is h.
    put_if (g.J.Judging.Breaks c.args.records.now) c.args.rule (c.args.place + 1) c.args.list.now.items c.push_if_broken.new.list.items (record { rule = c.args.rule; at = c.from.result + 1 })
    c.breaks-is_broken.result refl (ap (λ n. n + 1) c.from.ensures) c.breaks-is_broken.ensures.0 c.breaks-is_broken.ensures.1 is h) c.push_if_broken.ensures
