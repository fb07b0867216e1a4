use Rattle.std.proofs.Common.{◌<◌, ◌∙◌, sym, subst, arith, get_or}
use Rattle.edi_topo.specs.Ranking.{IsRanking}
use Rattle.edi_topo.proofs.KeyOrder.{long, each_member, members_apart, numbers_are, numbers_onto, keys_apart, along_permutation, along_sorted}
use Rattle.edi_topo.proofs.KeyTies.{first_tie_is}
use Rattle.edi_topo.proofs.ranking.ranks_or_tie.Goals as goal

pub number_members-requires-clause-few : goal.number_members-requires-clause-few
number_members-requires-clause-few g c =
    let xs = c.deref-sorted.result.now in
    let ys = c.in_ok-pairs.pairs.items in
    let key = g.L.Layer.key_of c.args.layer.now in
    let size = g.L.Layer.size c.args.layer.now in
    let same = along_permutation key size xs ys c.deref-sorted.ensures.value c.in_ok-pairs.ensures.permutation in
    let sorted = along_sorted g.L.Key.Ord.cmp xs ys c.deref-sorted.ensures.value c.in_ok-pairs.ensures.sorted in
    omega (arith, long g.L.Key.Ord.cmp g.met.L.Key.Ord.total key size xs same sorted c.in-None.ensures, c.in_ok-pairs.ensures.few)

pub number_members-requires-clause-within : goal.number_members-requires-clause-within
number_members-requires-clause-within g c k d h =
    let xs = c.deref-sorted.result.now in
    let ys = c.in_ok-pairs.pairs.items in
    let key = g.L.Layer.key_of c.args.layer.now in
    let size = g.L.Layer.size c.args.layer.now in
    let same = along_permutation key size xs ys c.deref-sorted.ensures.value c.in_ok-pairs.ensures.permutation in
    let sorted = along_sorted g.L.Key.Ord.cmp xs ys c.deref-sorted.ensures.value c.in_ok-pairs.ensures.sorted in
    subst (λ n. (get_or xs k d).1 < n) (sym (long g.L.Key.Ord.cmp g.met.L.Key.Ord.total key size xs same sorted c.in-None.ensures))
    (each_member g.L.Key.Ord.cmp g.met.L.Key.Ord.total key size xs same sorted c.in-None.ensures k d h).0

pub number_members-requires-clause-apart : goal.number_members-requires-clause-apart
number_members-requires-clause-apart g c =
    let xs = c.deref-sorted.result.now in
    let ys = c.in_ok-pairs.pairs.items in
    let key = g.L.Layer.key_of c.args.layer.now in
    let size = g.L.Layer.size c.args.layer.now in
    let same = along_permutation key size xs ys c.deref-sorted.ensures.value c.in_ok-pairs.ensures.permutation in
    let sorted = along_sorted g.L.Key.Ord.cmp xs ys c.deref-sorted.ensures.value c.in_ok-pairs.ensures.sorted in
    members_apart g.L.Key.Ord.cmp g.met.L.Key.Ord.total key size xs same sorted c.in-None.ensures

pub returns-in-Some-clause-tie : goal.returns-in-Some-clause-tie
returns-in-Some-clause-tie g c =
    let xs = c.deref-sorted.result.now in
    let ys = c.in_ok-pairs.pairs.items in
    let key = g.L.Layer.key_of c.args.layer.now in
    let size = g.L.Layer.size c.args.layer.now in
    let same = along_permutation key size xs ys c.deref-sorted.ensures.value c.in_ok-pairs.ensures.permutation in
    let sorted = along_sorted g.L.Key.Ord.cmp xs ys c.deref-sorted.ensures.value c.in_ok-pairs.ensures.sorted in
    first_tie_is g.L.Key.Ord.cmp g.met.L.Key.Ord.total key size xs same sorted c.in-Some.tied c.in-Some.ensures

pub returns-clause-numbers : goal.returns-clause-numbers
returns-clause-numbers g c =
    let xs = c.deref-sorted.result.now in
    let ys = c.in_ok-pairs.pairs.items in
    let cmp = g.L.Key.Ord.cmp in
    let key = g.L.Layer.key_of c.args.layer.now in
    let size = g.L.Layer.size c.args.layer.now in
    let total = g.met.L.Key.Ord.total in
    let same = along_permutation key size xs ys c.deref-sorted.ensures.value c.in_ok-pairs.ensures.permutation in
    let sorted = along_sorted cmp xs ys c.deref-sorted.ensures.value c.in_ok-pairs.ensures.sorted in
    let numbers = c.in_ok-numbers-in-None.numbers.items in
    let places = c.in_ok-numbers-in-None.ensures.places in
    subst (IsRanking cmp key size) (sym (c.from_numbers.ensures ∙ c.from_vec.ensures)) (record {
      distinct = λ m t. keys_apart cmp total key size xs same sorted c.in-None.ensures t.1.0 m t.1.1 t.0 t.1.2;
      all = c.in_ok-numbers-in-None.ensures.length ∙ long cmp total key size xs same sorted c.in-None.ensures;
      each = numbers_are cmp total key size xs same sorted c.in-None.ensures numbers places;
      onto = numbers_onto cmp total key size xs same sorted c.in-None.ensures numbers places;
    })
