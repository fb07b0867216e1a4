use Rattle.edi_deliveries.proofs.LastLines.{one_last_line, same_deliveries}
use Rattle.edi_deliveries.proofs.laws.last_lines_tell_deliveries.Goals as goal

pub returns-clause-one_last_line : goal.returns-clause-one_last_line
returns-clause-one_last_line c = one_last_line c.one_text_one_answer.ensures c.one_answer_one_text.ensures c.last_lines_tell_manifests.ensures.one

pub returns-clause-same : goal.returns-clause-same
returns-clause-same c = same_deliveries c.one_text_one_answer.ensures c.one_answer_one_text.ensures c.last_lines_tell_manifests.ensures.back
