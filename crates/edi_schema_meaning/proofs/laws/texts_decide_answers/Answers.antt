use Rattle.edi_schema_meaning.proofs.OneText.{texts_decide}
use Rattle.edi_schema_meaning.proofs.laws.texts_decide_answers.Goals as goal

pub returns : goal.returns
returns c = texts_decide
