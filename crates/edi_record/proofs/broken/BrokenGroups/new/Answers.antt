use Rattle.std.proofs.Common.{refl}
use Rattle.edi_record.proofs.RecordsBroken.{none_held}
use Rattle.edi_record.proofs.broken.BrokenGroups.new.Goals as goal

pub returns-clause-groups : goal.returns-clause-groups
returns-clause-groups c = none_held (record { place = 0; list = c.new.result; zones = c.new-2.result }) refl c.new.ensures.items
