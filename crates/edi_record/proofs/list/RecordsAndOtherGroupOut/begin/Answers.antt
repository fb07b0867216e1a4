use Rattle.edi_record.proofs.list.RecordsAndOtherGroupOut.begin.Goals as goal

pub returns : goal.returns
returns g c = λ groups held. (c.in_ok-begin.ensures groups held.0, c.in_ok-begin-2.ensures groups held.1)
