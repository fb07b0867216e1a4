use Rattle.std.proofs.Common.{sym}
use Rattle.edi_manifest.proofs.ReadBack.{none_lacks, cut_found}
use Rattle.edi_manifest.proofs.reading.cut_at.Goals as goal

pub returns-in_default-clause-cut : goal.returns-in_default-clause-cut
returns-in_default-clause-cut c = none_lacks c.args.byte c.args.bytes.now (sym c.in_default.ensures)

pub returns-in-len1-up-clause-cut : goal.returns-in-len1-up-clause-cut
returns-in-len1-up-clause-cut c =
    cut_found c.args.byte c.args.bytes.now c.split_at.result.0.now c.split_at.result.1.now c.in-Some.place (sym c.in-Some.ensures) c.split_at.ensures.front c.split_at.ensures.back
