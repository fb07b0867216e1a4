use Rattle.edi_compare.proofs.OverFiles.{files_decide}
use Rattle.edi_compare.proofs.laws.canonical_files_decide.Goals as goal

pub returns : goal.returns
returns c = files_decide
