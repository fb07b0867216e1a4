use Rattle.edi_changes.proofs.ReadLists.{digits_found}
use Rattle.edi_changes.proofs.reading.digits_in.Goals as goal

pub returns : goal.returns
returns c = λ digits name long cut.
    digits_found c.args.text.now c.split_at.result.0.now c.split_at.result.1.now c.split_at-2.result.1.now digits name c.split_at.ensures.front c.split_at.ensures.back c.split_at-2.ensures.back long cut
