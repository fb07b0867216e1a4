use Rattle.edi_line.specs.ZoneData.{entries}
use Rattle.edi_line.specs.inner.Groups.{handed_at_first, with_zones}
use Rattle.edi_line.proofs.HandedOn.{zones_gone}
use Rattle.edi_line.proofs.groups.hand_done_on.Goals as goal

pub returns-clause-went : goal.returns-clause-went
returns-clause-went g c = λ lines left given at.
    zones_gone lines left given (entries c.done.result.now) c.args.reader.now c.let_go.new.self c.args.handing.now c.hand_all_on.new.self
    (g.O.GroupOut.Holds c.args.out.now) (g.O.GroupOut.Holds c.hand_all_on.new.out) c.done.ensures
    (c.in_ok-hand_all_on.ensures.state (with_zones handed_at_first given)) (c.in_ok-hand_all_on.ensures.keeps (with_zones handed_at_first given))
    c.let_go.ensures.line c.let_go.ensures.order c.let_go.ensures.zones at
