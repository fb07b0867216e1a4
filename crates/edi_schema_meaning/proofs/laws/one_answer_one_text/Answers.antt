use Rattle.edi_schema_meaning.proofs.OneText.{one_text}
use Rattle.edi_schema_meaning.proofs.laws.one_answer_one_text.Goals as goal

pub returns : goal.returns
returns c = one_text
