use Rattle.edi_shown.proofs.Quiet.{quiet}
use Rattle.edi_shown.proofs.known.shown_bytes_control_nothing.Goals as goal

pub returns : goal.returns
returns c = quiet
