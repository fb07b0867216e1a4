use Rattle.edi_schema_meaning.proofs.Alike.{one_answer}
use Rattle.edi_schema_meaning.proofs.laws.one_text_one_answer.Goals as goal

pub returns : goal.returns
returns c = one_answer
