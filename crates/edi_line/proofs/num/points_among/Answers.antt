use Rattle.std.proofs.Common.{eqb, arith, w8}
use Rattle.std.proofs.lemmas.Simd.{bitmask_splat}
use Rattle.edi_line.proofs.num.points_among.Goals as goal

pub returns : goal.returns
returns c = bitmask_splat w8 eqb c.args.lanes 8 46 c.fits-lanes.0 (omega arith)
