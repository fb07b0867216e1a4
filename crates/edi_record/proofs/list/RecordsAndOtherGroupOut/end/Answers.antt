use Rattle.edi_record.proofs.list.RecordsAndOtherGroupOut.end.Goals as goal

pub returns : goal.returns
returns g c = λ groups group one held. (c.in_ok-end.ensures groups group one held.0, c.in_ok-end-2.ensures groups group one held.1)
