use Rattle.std.proofs.Common.{◌≡◌, ◌++◌, take}
use Rattle.std.specs.List.{concat}
use Rattle.edi_manifest.specs.ManifestText.{manifest_head}
use Rattle.edi_manifest.proofs.writing.body_of.Given as goal

abbrev pub invariant-loop-text : goal.invariant-loop-text
invariant-loop-text l = l.body.items ≡ manifest_head ++ concat (take l.text-index l.text-items)
