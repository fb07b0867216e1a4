use Rattle.std.proofs.Common.{◌≡◌, ◌+◌, ◌<◌, ℕ, Some, map, eqb, ap, ◌∙◌, arith}
use lib.Count.{count_trailing_zeros}
use lib.Lanes.{chunk, mask_l}
use Rattle.edi_line.proofs.Lanes.{found_in_lanes}
use Rattle.edi_line.proofs.num.point_in.Goals as goal

pub returns-then-points-ne0 : goal.returns-then-points-ne0
returns-then-points-ne0 c =
    let points = c.points_among-points in
    let found : ℕ = count_trailing_zeros 64 (mask_l (map (λ b. eqb b 46) (chunk 0 8 c.args.digits.now))) in
    let first : found ≡ 0 + found = omega arith in
    ap (λ m. Some (count_trailing_zeros 64 m)) points.ensures
    ∙ (ap Some first ∙ found_in_lanes (λ b. eqb b 46) c.args.digits.now 0 8 (omega arith) (omega arith) (λ e. omega (arith, points.ensures, e)) (λ k (l : k < 0). absurd (omega (arith, l))))
