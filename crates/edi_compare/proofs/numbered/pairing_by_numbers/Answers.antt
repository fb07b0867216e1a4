use Rattle.std.proofs.Common.{◌≡◌, ap₂, not, false, Bool, List, [], ◌∷◌, length, length-append, ap, arith, ◌∙◌}
use Rattle.std.proofs.lemmas.List.{length_push}
use mathlib.Core.Bool.{beq}
use Rattle.edi_rank.specs.Labelling.{turned_at}
use Rattle.edi_compare.specs.Counterparts.{counterpart}
use Rattle.edi_compare.proofs.Pairs.{one_more_known}
use Rattle.edi_compare.proofs.numbered.pairing_by_numbers.Goals as goal

pub loop-place-preserved : goal.loop-place-preserved
loop-place-preserved c =
    let f = c.args.first.now in
    let m = c.args.others.now in
    let to = c.in_ok-push.ensures.items in
    let turned = c.in_ok-push-2.ensures.items in
    let at = c.loop-place.place in
    let is = c.counterpart-target.ensures.is in
    let own = turned_at c.as_slice.result.now at in
    let flag : not (beq own c.turned.result) ≡ not (beq (turned_at f.turned at) (turned_at m.turned (counterpart f m at))) =
    ap₂ (λ a b. not (beq a b)) (ap (λ (ts : List Bool). turned_at ts at) c.as_slice.ensures) (c.turned.ensures ∙ ap (turned_at m.turned) is) in
    record {
      to_long = omega (arith, ap length to, length-append c.loop-place.to.items (c.counterpart-target.result ∷ []), c.loop-place.invariant.to_long);
      turned_long = omega (arith, ap length turned, length_push c.loop-place.turned.items (not (beq own c.turned.result)), c.loop-place.invariant.turned_long);
      to = one_more_known (counterpart f m) 0 c.loop-place.to.items c.push.new.self.items c.counterpart-target.result at to c.loop-place.invariant.to_long c.loop-place.invariant.to is;
      turned = one_more_known (λ k. not (beq (turned_at f.turned k) (turned_at m.turned (counterpart f m k)))) false c.loop-place.turned.items c.push-in-loop-place.new.self.items (not (beq own c.turned.result)) at turned
          c.loop-place.invariant.turned_long c.loop-place.invariant.turned flag;
    }
