use Rattle.std.proofs.Common.{rules, option_map}
use Rattle.std.proofs.lemmas.Result.{IfOk-weaker}
use Rattle.edi_manifest.specs.ManifestText.{IsManifestLine}
use Rattle.edi_manifest.proofs.ReadBack.{lines_read}
use Rattle.edi_manifest.proofs.ReadingOn.{all_lines}
use Rattle.edi_manifest.proofs.reading.lines_in.Goals as goal

pub returns-clause-finds : goal.returns-clause-finds
returns-clause-finds c =
    IfOk-weaker c.read_lines.result _ _ (λ found h. lines_read _ c.args.body.now (option_map (λ lines. lines.items) found) h (λ content line reads. search rules)) c.read_lines.ensures

pub returns-clause-are : goal.returns-clause-are
returns-clause-are c =
    IfOk-weaker c.read_lines.result _ _ (λ found h. all_lines _ (λ lines. lines.items) IsManifestLine c.args.body.now found h (λ content line reads. search rules)) c.read_lines.ensures
