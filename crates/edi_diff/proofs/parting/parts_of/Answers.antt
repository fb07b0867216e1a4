use Rattle.edi_diff.proofs.PartsReported.{parts_reported}
use Rattle.edi_diff.proofs.parting.parts_of.Goals as goal

pub returns : goal.returns
returns c =
    parts_reported c.args.schema.now c.args.plan.now c.args.other.now c.args.unchanged.now c.args.became.now c.as_slice-3.result.now c.as_slice-4.result.now c.as_slice-2.result.now
    c.as_slice-3.ensures c.as_slice-4.ensures c.as_slice-2.ensures c.all_parts.result (λ parts. parts.items) c.all_parts.ensures
