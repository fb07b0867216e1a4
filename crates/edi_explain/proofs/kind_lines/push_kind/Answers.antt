use Rattle.std.proofs.lemmas.Result.{on_ok_weaker}
use Rattle.edi_explain.proofs.kind_lines.push_kind.Goals as goal

pub returns : goal.returns
returns c = on_ok_weaker c.push_class_line.result (λ is. (c.in_ok-site.site, c.in_ok-site.ensures, is)) c.push_class_line.ensures
