use Rattle.edi_compare.proofs.SchemaBytes.{names_read}
use Rattle.edi_compare.proofs.laws.names_are_bytes.Goals as goal

pub returns : goal.returns
returns c = names_read
