use Rattle.std.proofs.Common.{refl}
use Rattle.edi_schema_text.specs.SchemaText.{line_of_class}
use Rattle.edi_schema_text.proofs.known.known_texts_of_schemas.Goals as goal

pub returns-clause-text : goal.returns-clause-text
unfolding line_of_class
returns-clause-text c = refl

pub returns-clause-sides : goal.returns-clause-sides
unfolding line_of_class
returns-clause-sides c = refl

pub returns-clause-more : goal.returns-clause-more
unfolding line_of_class
returns-clause-more c = refl
