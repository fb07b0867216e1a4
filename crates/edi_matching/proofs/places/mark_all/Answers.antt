use Rattle.std.proofs.Common.{◌≡◌, refl, length, subst, arith}
use Rattle.edi_matching.proofs.Taken.{AreTaken, all_apart}
use Rattle.edi_matching.proofs.places.mark_all.Goals as goal

pub returns : goal.returns
returns c =
    let to = c.args.to.now in
    let same : c.loop-target.target-index ≡ length to = omega arith in
    (λ t. all_apart to c.loop-target.met (length c.args.met.now) (subst (AreTaken to c.loop-target.met (length c.args.met.now)) same c.loop-target.invariant), λ apart. refl)
