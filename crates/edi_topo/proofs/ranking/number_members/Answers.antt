use Rattle.std.proofs.Common.{◌+◌, ◌≡◌, ap, sym, ◌∙◌, length-set, subst, get_or, set}
use Rattle.edi_topo.proofs.KeyPlaces.{places_more}
use Rattle.edi_topo.proofs.ranking.number_members.Goals as goal

pub loop-pair-preserved : goal.loop-pair-preserved
loop-pair-preserved g c =
    let old = c.loop-pair.invariant in
    record {
      length = length-set c.loop-pair.numbers.items c.pair-item.result.1 (c.loop-pair.number + 1) ∙ old.length;
      number = ap (λ n. n + 1) old.number;
      places = λ i d h. subst (λ n. get_or (set c.loop-pair.numbers.items c.pair-item.result.1 (n + 1)) (get_or c.args.pairs.now i d).1 0 ≡ i + 1) (sym old.number)
          (places_more c.args.pairs.now c.loop-pair.numbers.items c.loop-pair.pair-index c.pair-item.result c.loop-pair-test.true c.pair-item.is c.requires.within c.requires.apart old.length old.places i d h);
    }
