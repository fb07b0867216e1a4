use Rattle.edi_record.proofs.list.RecordsAndOtherGroupOut.take.Goals as goal

pub returns : goal.returns
returns g c = λ groups group one held. (c.in_ok-take.ensures groups group one held.0, c.in_ok-take-2.ensures groups group one held.1)
