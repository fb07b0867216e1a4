use Rattle.edi_manifest.proofs.LastLines.{last_by_lines, lines_by_last}
use Rattle.edi_manifest.proofs.laws.last_lines_tell_manifests.Goals as goal

pub returns-clause-one : goal.returns-clause-one
returns-clause-one c = last_by_lines

pub returns-clause-back : goal.returns-clause-back
returns-clause-back c = lines_by_last
