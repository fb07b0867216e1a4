use Rattle.std.proofs.Common.{◌≡◌, map, take}
use Rattle.edi_manifest.specs.ManifestText.{manifest_line}
use Rattle.edi_manifest.proofs.writing.sorted_lines.Given as goal

abbrev pub invariant-loop-line : goal.invariant-loop-line
invariant-loop-line l = l.texts.items ≡ map manifest_line (take l.line-index l.lines)
