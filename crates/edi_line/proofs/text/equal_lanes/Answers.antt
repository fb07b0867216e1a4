use Rattle.std.proofs.Common.{◌∙◌, ◌^◌, ◌%◌, ℕ, not, eqb, leb, ap, arith, w8}
use Rattle.std.proofs.lemmas.Simd.{tops_compared, mask_l-mod, length-zip2}
use lib.Count.{count_trailing_zeros}
use lib.Lanes.{mask_l, zip2}
use Rattle.edi_line.proofs.SameFront.{lanes_equal}
use Rattle.edi_line.proofs.text.equal_lanes.Goals as goal

pub returns : goal.returns
returns c = λ k few.
    let xs = c.args.lanes in
    let ys = c.args.others in
    let differ = λ (x y : ℕ). not (eqb x y) in
    let long = length-zip2 differ xs ys (omega (arith, c.fits-lanes.0, c.fits-others.0)) in
    ap (λ m. leb k (count_trailing_zeros 64 m)) (ap (λ ms. mask_l ms % 2 ^ 64) (tops_compared w8 differ xs ys) ∙ mask_l-mod (zip2 differ xs ys) 64 (omega (arith, long, c.fits-lanes.0)))
    ∙ lanes_equal xs ys k c.fits-lanes.0 c.fits-others.0 few
