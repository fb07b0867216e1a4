use Rattle.std.proofs.lemmas.Result.{on_ok_weaker}
use Rattle.edi_line.specs.ZoneData.{entry}
use Rattle.edi_explain.proofs.LinkEnds.{sought_on}
use Rattle.edi_explain.proofs.elsewhere.SoughtNameGroupOut.take.Goals as goal

pub returns : goal.returns
returns c =
    let was = c.args.self.now in
    on_ok_weaker c.take.result
    (λ titled groups group one held. sought_on was groups group (entry c.args.zone.now) c.take_zone.new.self c.take.new.self one (λ gs. c.in_ok-take_zone.ensures gs group one) (titled group) held)
    c.take.ensures
