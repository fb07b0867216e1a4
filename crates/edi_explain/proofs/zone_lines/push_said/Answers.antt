use Rattle.std.proofs.Common.{◌++◌, inr, refl, sym, rules, append_assoc, subst}
use Rattle.std.proofs.lemmas.Result.{on_ok_weaker}
use Rattle.edi_explain.specs.ZoneLines.{IsRightText, count_text, zone_sentence}
use Rattle.edi_explain.proofs.zone_lines.push_said.Goals as goal

pub returns : goal.returns
returns c =
    let rule = c.args.rule in
    let count = c.args.count in
    on_ok_weaker c.push_count.result (λ text. (
      zone_sentence rule ++ count_text count,
      inr (λ right. let t = c.is_right_text.ensures.1 (subst (IsRightText rule count) (sym c.as_slice.ensures.value) right) in let f = c.if-is_right_text.false in cc, refl),
      search (rules, append_assoc),
    )) c.push_count.ensures
