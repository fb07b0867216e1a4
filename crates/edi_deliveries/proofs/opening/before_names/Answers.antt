use Rattle.std.proofs.Common.{◌∙◌, [], ap}
use Rattle.std.proofs.lemmas.Result.{IfOk-weaker}
use Rattle.std.specs.Path.{path_join}
use Rattle.edi_deliveries.proofs.Lines.{join_nothing}
use Rattle.edi_deliveries.proofs.opening.before_names.Goals as goal

pub returns : goal.returns
returns c = IfOk-weaker c.join.result _ _ (λ b is. is ∙ (ap (λ p. path_join p []) c.new.ensures ∙ join_nothing c.args.folder.now)) c.join.ensures
