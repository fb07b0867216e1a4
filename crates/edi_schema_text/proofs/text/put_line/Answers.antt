use Rattle.std.proofs.Common.{◌++◌, ap, ◌∙◌}
use Rattle.edi_schema_text.specs.SchemaText.{line_of_class}
use Rattle.edi_schema_text.proofs.Lines.{joined}
use Rattle.edi_schema_text.proofs.text.put_line.Goals as goal

pub returns : goal.returns
unfolding line_of_class
returns c = joined _ _ _ _ _ _ _ _ _ _ _ _ _
    (c.in_ok-extend_from_slice.ensures.items ∙ ap (λ r. c.args.text.now.items ++ r) c.as_slice.ensures)
    c.in_ok-push.ensures.items
    (c.in_ok-extend_from_slice-2.ensures.items ∙ ap (λ r. c.push.new.self.items ++ r) c.as_slice-2.ensures)
    c.in_ok-push-2.ensures.items
    c.in_ok-put_values.ensures
    c.in_ok-push-3.ensures.items
    (c.in_ok-extend_from_slice-3.ensures.items ∙ ap (λ r. c.push-3.new.self.items ++ r) c.kind_text.ensures)
    c.in_ok-push-4.ensures.items
