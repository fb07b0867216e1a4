use Rattle.std.proofs.Common.{codes}
use Rattle.edi_pairing.specs.UnpairedText.{name_text}
use Rattle.edi_pairing.proofs.Appended.{in_two_parts}
use Rattle.edi_pairing.proofs.unpaired.push_unmet.Goals as goal

pub returns : goal.returns
returns c =
    in_two_parts c.extend_from_slice.result c.args.text.now.items c.push_name.new.text.items c.extend_from_slice.new.self.items (name_text c.args.name.now) (codes " of B: no record of A goes to it")
    c.in_ok-push_name.ensures c.extend_from_slice.ensures.items
