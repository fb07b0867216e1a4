use Rattle.std.proofs.Common.{◌∙◌, ℕ, List, ap}
use Rattle.std.proofs.lemmas.Result.{IfOk-weaker}
use Rattle.edi_line.specs.ZoneData.{entries}
use Rattle.edi_explain.specs.Lines.{line_of_site}
use Rattle.edi_explain.proofs.end_nodes.line_of_node.Goals as goal

pub returns : goal.returns
returns c = rw c.in-Some.is (IfOk-weaker c.line_of_place.result _ _ (λ lines is b read. (
  entries c.args.zones.now,
  c.in_ok-site.site,
  read,
  c.in_ok-site.ensures,
  is ∙ ap (λ (said : List ℕ). line_of_site c.args.name.now c.in_ok-site.site said c.args.rule) c.sentence_of_node.ensures,
)) c.line_of_place.ensures)
