use Rattle.edi_line.specs.FileBytes.{file_bytes}
use Rattle.edi_compare.proofs.Compared.{verdict_on_files}
use Rattle.edi_compare.proofs.comparing.compare_with.Goals as goal

pub verdict_of-requires-clause-held : goal.verdict_of-requires-clause-held
verdict_of-requires-clause-held g c = (file_bytes c.args.b, c.keeps.ensures.short, c.in-Ok.ensures.accepted, c.in-Ok.ensures.plan)

pub returns-clause-verdict : goal.returns-clause-verdict
returns-clause-verdict g c a p states untouched =
    let q = c.in-Ok.second.0.sound in
    verdict_on_files c.args.schema.now a (file_bytes c.args.b) p q states c.in-Ok.ensures.plan c.in_ok-verdict.verdict (c.in_ok-verdict.ensures p untouched)
