use Rattle.std.proofs.Common.{List, ℕ, ap, ◌∙◌}
use Rattle.std.proofs.lemmas.Result.{IfOk-weaker}
use Rattle.edi_explain.specs.Lines.{lines_of_sites}
use Rattle.edi_explain.proofs.explained.explain_place.Goals as goal

pub returns : goal.returns
returns c =
    let said = c.sentence_for.ensures in
    let sites = c.in_ok-sites.sites in
    IfOk-weaker c.lines_of_refused.result _ _ (λ lines is zones number earlier found. (
      said.0,
      sites,
      said.1,
      c.in_ok-sites.ensures zones number earlier found,
      is ∙ ap (λ (s : List ℕ). lines_of_sites c.args.name.now sites s c.args.rule) (c.as_bytes.ensures.value ∙ said.2),
    )) c.lines_of_refused.ensures
