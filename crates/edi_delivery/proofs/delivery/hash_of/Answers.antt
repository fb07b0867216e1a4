use Rattle.std.proofs.Common.{[], ◌∷◌}
use Rattle.edi_delivery.proofs.delivery.hash_of.Goals as goal

pub returns : goal.returns
returns c = c.hash.ensures (c.args.bytes.now ∷ []) (c.add.ensures [] c.new-names.ensures)
