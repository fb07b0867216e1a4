use Rattle.std.proofs.Common.{◌∙◌, ap}
use Rattle.std.proofs.lemmas.Result.{on_ok_weaker}
use Rattle.edi_answers.specs.Hashes.{escaped_name}
use Rattle.edi_deliveries.proofs.Lines.{missing_more}
use Rattle.edi_deliveries.proofs.said.push_missing.Goals as goal

pub returns : goal.returns
returns c =
    let path = c.deref.ensures.value ∙ c.in_ok-path.ensures in
    let name = c.deref-3.ensures.value ∙ (c.in_ok-name.ensures ∙ ap escaped_name (c.deref-2.ensures.value ∙ c.in_ok-path.ensures)) in
    on_ok_weaker c.push_reason.result (missing_more _ _ _ _ _ _ path c.in_ok-push_named.ensures name) c.push_reason.ensures
