use Rattle.std.proofs.Common.{◌<◌, arith, ap, get_or, length, refl, subst, sym}
use Rattle.edi_matching.specs.declared.ranked.Member.{Member}
use Rattle.edi_matching.specs.inner.Additions.{AreAlike, IsListed, PairsIfAlike}
use Rattle.edi_matching.proofs.KeysAdded.{then_alike}
use Rattle.edi_matching.proofs.PairsAdded.{not_left}
use Rattle.edi_matching.proofs.RunsAdded.{only_one}
use Rattle.edi_matching.proofs.added.add_run.Goals as goal

pub loop-at-preserved : goal.loop-at-preserved
loop-at-preserved g c =
    let p = c.args.plan.now in
    let q = c.args.other.now in
    let objects = c.args.objects.now in
    let others = c.args.others.now in
    let to = c.loop-at.to in
    let taken = c.loop-at.taken in
    let more = c.add_alike.new.to in
    let marks = c.add_alike.new.taken in
    let n = c.loop-at.at in
    let x = c.index-objects-at.result in
    let y = c.index-others-at.result in
    let here : n < length objects = omega (arith, c.loop-at-test.true, c.min-at-end.ensures) in
    let there : n < length others = omega (arith, c.loop-at-test.true, c.min-at-end.ensures) in
    let said : PairsIfAlike p q x.1.place y.1.place to taken more marks =
    subst (λ (z : g.row.K.Denot × Member). PairsIfAlike p q z.1.place y.1.place to taken more marks) (sym c.index-objects-at.is)
    (subst (λ (z : g.row.K.Denot × Member). PairsIfAlike p q (get_or objects n x).1.place z.1.place to taken more marks) (sym c.index-others-at.is) c.in_ok-add_alike.ensures) in
    record {
      pairs = then_alike (λ i j. IsListed objects i × IsListed others j × AreAlike p q i j) c.args.to.now c.args.taken.now to taken more marks c.loop-at.invariant.pairs p q x.1.place y.1.place
          (λ alike. ((x, (n, here, sym c.index-objects-at.is), refl), (y, (n, there, sym c.index-others-at.is), refl), alike)) said;
      none_left = λ u v one another low. not_left p q u.1.place v.1.place to taken more marks
          (subst (λ (z : g.row.K.Denot × Member). PairsIfAlike p q z.1.place v.1.place to taken more marks) (only_one objects u x n one here c.index-objects-at.is)
          (subst (λ (z : g.row.K.Denot × Member). PairsIfAlike p q x.1.place z.1.place to taken more marks) (only_one others v y n another there c.index-others-at.is) said));
    }

pub returns-clause-none_left : goal.returns-clause-none_left
returns-clause-none_left g c =
    λ x y one another. c.loop-at.invariant.none_left x y one another
    (let long = ap length one in let wide = ap length another in omega (arith, long, wide, c.loop-at-test.false, c.min-at-end.ensures))
