use Rattle.std.proofs.Common.{◌+◌, ◌<◌, ◌^◌, [], ℕ, List, length, arith}
use Rattle.std.proofs.lemmas.Result.{on_ok_weaker, IfOk-weaker}
use Rattle.edi_line.specs.ZoneData.{ZoneData}
use Rattle.edi_line.specs.Groups.{IsHandedOut}
use Rattle.edi_line.specs.LineRules.{BreaksLineRule}
use Rattle.edi_line.specs.Refusal.{IsLeastBroken}
use Rattle.edi_line.specs.inner.HandingOn.{IsAtLines, IsHandedOutBehind}
use Rattle.edi_line.specs.inner.Zones.{readings_of}
use Rattle.edi_line.proofs.Ends.{readings_few}
use Rattle.edi_line.proofs.Feeds.{if_err}
use Rattle.edi_line.proofs.HandedOn.{at_start, handed_from_none}
use Rattle.edi_line.proofs.groups.read_groups.Goals as goal

pub read_last-requires : goal.read_last-requires
read_last-requires g c =
    let lines = readings_of c.args.bytes.now in
    let room : length lines + 1 < 2 ^ 64 = search (arith, readings_few c.args.bytes.now) in
    (lines, [], at_start lines c.new.result c.new-2.result c.new.ensures c.new-2.ensures, room)

pub returns-clause-groups : goal.returns-clause-groups
returns-clause-groups g c =
    let file = c.args.bytes.now in
    let Before = g.O.GroupOut.Holds c.args.out.now in
    let After = g.O.GroupOut.Holds c.read_last.new.out in
    IfOk-weaker c.read_last.result
    (λ charset. (f : List ℕ) (given : List ZoneData) → IsAtLines (readings_of f) (readings_of file) given c.new.result c.new-2.result → IsHandedOutBehind given f charset Before After)
    (λ charset. IsHandedOut file charset Before After)
    (λ charset handed. handed_from_none file charset Before After (handed file [] (at_start (readings_of file) c.new.result c.new-2.result c.new.ensures c.new-2.ensures)))
    c.read_last.ensures.groups

pub returns-clause-sound : goal.returns-clause-sound
returns-clause-sound g c =
    let file = c.args.bytes.now in
    on_ok_weaker c.read_last.result (λ sound. sound file [] (at_start (readings_of file) c.new.result c.new-2.result c.new.ensures c.new-2.ensures)) c.read_last.ensures.sound

pub returns-clause-least : goal.returns-clause-least
returns-clause-least g c =
    let file = c.args.bytes.now in
    if_err
    (λ rule place. (f : List ℕ) (given : List ZoneData) → IsAtLines (readings_of f) (readings_of file) given c.new.result c.new-2.result → IsLeastBroken (BreaksLineRule f) rule place)
    (IsLeastBroken (BreaksLineRule file)) c.read_last.result
    (λ rule place refused. refused file [] (at_start (readings_of file) c.new.result c.new-2.result c.new.ensures c.new-2.ensures))
    c.read_last.ensures.least
