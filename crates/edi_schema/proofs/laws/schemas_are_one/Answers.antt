use Rattle.edi_schema.proofs.One.{schemas_one}
use Rattle.edi_schema.proofs.laws.schemas_are_one.Goals as goal

pub returns : goal.returns
returns c = schemas_one
