use Rattle.std.proofs.Common.{inr, subst}
use Rattle.edi_line.specs.LineRules.{BreaksLineRule}
use Rattle.edi_line.specs.Refusal.{IsLineRefusal}
use Rattle.edi_answers.proofs.notes.note_of.Goals as goal

pub returns-in-Err-Broken : goal.returns-in-Err-Broken
returns-in-Err-Broken c =
    let least = subst (IsLineRefusal (BreaksLineRule c.args.scd.now)) c.in-Err-Broken.field-0-is c.in-Err-Broken.ensures.refused in
    inr (λ sound. sound _ _ least.is, c.new.ensures.items)
