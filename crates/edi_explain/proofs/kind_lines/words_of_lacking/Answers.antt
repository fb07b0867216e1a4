use Rattle.std.proofs.Common.{◌∙◌, ap}
use Rattle.edi_schema.specs.declared.role.Role.TheVariants.{Initial, Final, Left, Right}
use Rattle.edi_explain.specs.KindLines.{with_lacking}
use Rattle.edi_explain.proofs.kind_lines.words_of_lacking.Goals as goal

pub returns : goal.returns
returns c =
    let lacking = c.args.lacking.now in
    c.in_ok-push_lacking-4.ensures ∙ ap (λ w. with_lacking w lacking.right Right)
    (c.in_ok-push_lacking-3.ensures ∙ ap (λ w. with_lacking w lacking.left Left)
    (c.in_ok-push_lacking-2.ensures ∙ ap (λ w. with_lacking w lacking.final_node Final)
    (c.in_ok-push_lacking.ensures ∙ ap (λ w. with_lacking w lacking.initial Initial) c.new-words.ensures.items)))
