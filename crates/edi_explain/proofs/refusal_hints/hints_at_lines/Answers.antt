use Rattle.std.proofs.Common.{inr, subst}
use Rattle.std.proofs.lemmas.Result.{IfOk-weaker}
use Rattle.edi_line.specs.LineRules.{BreaksLineRule}
use Rattle.edi_line.specs.Refusal.{IsLineRefusal}
use Rattle.edi_explain.proofs.refusal_hints.hints_at_lines.Goals as goal

pub hints_at_line-requires : goal.hints_at_line-requires
hints_at_line-requires c = subst (IsLineRefusal (BreaksLineRule c.args.file.now.bytes.now)) c.in-Err-Broken.field-0-is c.in-Err-Broken.ensures.least

pub returns-in-Err-Broken : goal.returns-in-Err-Broken
returns-in-Err-Broken c =
    let least = subst (IsLineRefusal (BreaksLineRule c.args.file.now.bytes.now)) c.in-Err-Broken.field-0-is c.in-Err-Broken.ensures.least in
    IfOk-weaker c.hints_at_line.result _ _ (λ lines h. inr (c.in-Err-Broken.rule, c.in-Err-Broken.at, least, h)) c.hints_at_line.ensures
