use Rattle.edi_schema_text.proofs.Stated.{one_statement}
use Rattle.edi_schema_text.proofs.laws.one_statement_one_text.Goals as goal

pub returns : goal.returns
returns c = one_statement
