use Rattle.edi_record.specs.Texts.{shown}
use Rattle.edi_explain.proofs.Straying.{type_named}
use Rattle.edi_explain.proofs.breaking.names_type.Goals as goal

pub returns-in-Some : goal.returns-in-Some
returns-in-Some c = type_named c.args.text.now c.args.rty.now (shown c.in-Some.pointer) c.in-Some.ensures c.is_same.result c.is_same.ensures
