use Rattle.std.proofs.Common.{refl}
use Rattle.hex.specs.Hex.{encode_with}
use Rattle.edi_changes.proofs.known.known_lines_are_written.Goals as goal

pub returns : goal.returns
unfolding encode_with
returns c = refl
