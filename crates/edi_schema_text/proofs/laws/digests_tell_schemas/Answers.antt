use Rattle.edi_schema_text.proofs.Tell.{one_digest, one_meaning_of}
use Rattle.edi_schema_text.proofs.laws.digests_tell_schemas.Goals as goal

pub returns-clause-one : goal.returns-clause-one
returns-clause-one c = one_digest

pub returns-clause-back : goal.returns-clause-back
returns-clause-back c = one_meaning_of
