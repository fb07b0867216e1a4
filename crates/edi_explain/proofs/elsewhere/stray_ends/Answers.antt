use Rattle.std.proofs.Common.{[], append-nil, subst}
use Rattle.edi_line.specs.LineRules.{BreaksLineRule}
use Rattle.edi_line.specs.Refusal.{IsLineRefusal}
use Rattle.edi_line.specs.Zones.{groups_of}
use Rattle.edi_explain.specs.Elsewhere.{link_ends}
use Rattle.edi_explain.specs.inner.Elsewhere.{AreEndsWithStray}
use Rattle.edi_explain.proofs.LinkEnds.{at_first, stray_ends_are}
use Rattle.edi_explain.proofs.elsewhere.stray_ends.Goals as goal

pub returns-in-Ok : goal.returns-in-Ok
returns-in-Ok c =
    let h = c.in-Ok.ensures.groups in
    stray_ends_are c.args.bytes.now c.in-Ok.ensures.sound h.zones h.of_file c.both_of.result
    (c.both_of.ensures (link_ends (groups_of h.zones)) (subst (λ l. AreEndsWithStray l c.read_groups.new.out) (append-nil (link_ends (groups_of h.zones))) (h.handed [] (at_first c.none-ends.result c.none-ends.ensures)).ends))

pub returns-in-Err-Broken : goal.returns-in-Err-Broken
returns-in-Err-Broken c = λ home stray h.
    let least = subst (IsLineRefusal (BreaksLineRule c.args.bytes.now)) c.in-Err-Broken.field-0-is c.in-Err-Broken.ensures.least in
    h.unbroken _ _ least.is
