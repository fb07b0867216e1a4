use Rattle.std.proofs.Common.{◌≡◌, true≢false, bytes_eq, sym, ap, ◌∙◌, refl, true, false}
use Rattle.edi_schema.specs.declared.role.Role.TheVariants.{Left, Right}
use Rattle.edi_schema_text.specs.Known.{sided_classes}
use Rattle.edi_schema_text.specs.SchemaText.{line_of_class, text_of_schema}
use Rattle.edi_schema_text.proofs.known.exchanged_sides_differ.Goals as goal

one_text : bytes_eq (text_of_schema (sided_classes Right Left)) (text_of_schema (sided_classes Right Left)) ≡ true
unfolding line_of_class
one_text = refl

two_texts : bytes_eq (text_of_schema (sided_classes Right Left)) (text_of_schema (sided_classes Left Right)) ≡ false
unfolding line_of_class
two_texts = refl

pub returns : goal.returns
returns c = λ e. true≢false (sym one_text ∙ (ap (bytes_eq (text_of_schema (sided_classes Right Left))) e ∙ two_texts))
