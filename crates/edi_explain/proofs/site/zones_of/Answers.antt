use Rattle.std.proofs.Common.{subst}
use Rattle.edi_line.specs.LineRules.{BreaksLineRule}
use Rattle.edi_line.specs.Refusal.{IsLineRefusal}
use Rattle.edi_explain.proofs.site.zones_of.Goals as goal

pub unreachable-requires : goal.unreachable-requires
unreachable-requires c =
    let least = subst (IsLineRefusal (BreaksLineRule c.args.bytes.now)) c.in-Err-Broken.field-0-is c.in-Err-Broken.ensures.least in
    c.requires _ _ least.is
