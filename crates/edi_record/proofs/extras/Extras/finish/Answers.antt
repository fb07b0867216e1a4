use Rattle.edi_record.specs.inner.Stored.{kept_extras}
use Rattle.edi_record.proofs.PointsStored.{extras_come, extras_sound}
use Rattle.edi_record.proofs.extras.Extras.finish.Goals as goal

pub returns-clause-states : goal.returns-clause-states
returns-clause-states c = λ kind is_open list group h. extras_come kind is_open (kept_extras c.args.self list) group c.if-self.false h

pub returns-clause-sound : goal.returns-clause-sound
returns-clause-sound c = λ kind is_open list group k h. extras_sound kind is_open (kept_extras c.args.self list) group c.if-self.false k h
