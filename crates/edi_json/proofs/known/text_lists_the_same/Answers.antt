use Rattle.edi_json.proofs.ListedLines.{lists_the_same}
use Rattle.edi_json.proofs.known.text_lists_the_same.Goals as goal

pub returns : goal.returns
returns c = lists_the_same
