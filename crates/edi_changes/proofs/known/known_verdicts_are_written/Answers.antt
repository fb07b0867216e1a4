use Rattle.std.proofs.Common.{refl}
use Rattle.edi_changes.proofs.known.known_verdicts_are_written.Goals as goal

pub returns : goal.returns
returns c = record {
  schema = refl;
  sheet = refl;
}
