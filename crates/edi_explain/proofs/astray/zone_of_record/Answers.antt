use Rattle.edi_explain.proofs.Straying.{in_neither, none_of}
use Rattle.edi_explain.proofs.astray.zone_of_record.Goals as goal

pub returns-in-None : goal.returns-in-None
returns-in-None c = λ z count. in_neither (c.in_default.ensures z count) (none_of _ c.in_ok-zone.field-0 c.in-None.is c.in_ok-zone.ensures z)
