use Rattle.std.proofs.Common.{◌∙◌, map, ap}
use Rattle.std.proofs.lemmas.List.{take_all}
use Rattle.edi_manifest.specs.ManifestText.{manifest_line}
use Rattle.edi_manifest.proofs.SameLines.{lines_sorted}
use Rattle.edi_manifest.proofs.writing.sorted_lines.Goals as goal

pub returns : goal.returns
returns c =
    lines_sorted c.args.lines.now c.loop-line.texts.items c.sort_unstable.new.self.items
    (c.loop-line.invariant ∙ ap (map manifest_line) (take_all c.loop-line.line-index c.args.lines.now c.loop-line-test.false)) c.sort_unstable.ensures.permutation c.sort_unstable.ensures.sorted
