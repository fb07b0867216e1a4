use Rattle.std.proofs.Common.{◌∷◌, [], ◌∙◌, sym}
use Rattle.edi_line.specs.ZoneData.{entry}
use Rattle.edi_record.proofs.ListRead.{begun_past, begun_now}
use Rattle.edi_record.proofs.list.RecordsUntilFaultGroupOut.begin.Goals as goal

pub returns-then-is_some : goal.returns-then-is_some
returns-then-is_some c = λ groups held.
    let was = c.args.self.now in
    record { made = held.made; coming_is = begun_past was.fault was.coming was.parts [] (entry c.args.head.now ∷ []) (sym c.is_some.ensures ∙ c.if-is_some.true) held.coming_is }

pub returns : goal.returns
returns c = λ groups held.
    let was = c.args.self.now in
    record { made = held.made; coming_is = begun_now was.fault c.coming_of.result c.clear.new.self (entry c.args.head.now ∷ []) (sym c.is_some.ensures ∙ c.if-is_some.false) (c.coming_of.ensures c.clear.new.self c.clear.ensures) }
