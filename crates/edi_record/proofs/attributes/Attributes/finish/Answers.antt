use Rattle.edi_record.specs.inner.Stored.{kept_attributes}
use Rattle.edi_record.proofs.AttributesStored.{as_closed, attributes_come, attributes_sound}
use Rattle.edi_record.proofs.attributes.Attributes.finish.Goals as goal

pub returns-clause-states : goal.returns-clause-states
returns-clause-states c = λ list group h. attributes_come (kept_attributes c.args.self list) list group c.if-self.false (as_closed c.args.self.is_open list h.valueless) h

pub returns-clause-sound : goal.returns-clause-sound
returns-clause-sound c = λ list group h. attributes_sound (kept_attributes c.args.self list) list group c.if-self.false (as_closed c.args.self.is_open list h.valueless) h
