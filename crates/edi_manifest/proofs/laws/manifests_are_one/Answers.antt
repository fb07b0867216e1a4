use Rattle.edi_manifest.proofs.SameLines.{same_text, text_same}
use Rattle.edi_manifest.proofs.laws.manifests_are_one.Goals as goal

pub returns : goal.returns
returns c = λ lines others h k. (text_same lines others h k, same_text lines others)
