use Rattle.edi_schema_meaning.proofs.Agreeing.{probes}
use Rattle.edi_schema_meaning.proofs.laws.probes_tell.Goals as goal

pub returns : goal.returns
returns c = probes
