use Rattle.std.proofs.lemmas.Result.{on_ok_weaker}
use Rattle.edi_line.specs.ZoneData.{entry}
use Rattle.edi_explain.proofs.LinkEnds.{sought_begun}
use Rattle.edi_explain.proofs.elsewhere.SoughtNameGroupOut.begin.Goals as goal

pub returns : goal.returns
returns c =
    let was = c.args.self.now in
    on_ok_weaker c.begin.result (λ titled groups held. sought_begun was groups (entry c.args.head.now) c.begin_record.new.self c.begin.new.self c.begin_record.ensures titled held) c.begin.ensures
