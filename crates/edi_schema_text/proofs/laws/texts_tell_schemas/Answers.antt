use Rattle.edi_schema_text.proofs.Tell.{texts_tell}
use Rattle.edi_schema_text.proofs.laws.texts_tell_schemas.Goals as goal

pub returns : goal.returns
returns c = texts_tell
