use Rattle.std.proofs.Common.{◌+◌, ◌<◌, ◌≤◌, ◌∙◌, length, length-set, get_or, set, subst, sym, ap, arith}
use Rattle.edi_plan.specs.Places.{places_of}
use Rattle.edi_plan.proofs.PlaceLemmas.{place_there, places_few}
use Rattle.edi_rank.proofs.KindNumbers.{WrittenTo, OthersStay, written_more, others_stay, each_member}
use Rattle.edi_rank.proofs.numbering.number_kind.Goals as goal

pub number-requires : goal.number-requires
number-requires c = omega (arith, c.requires.ranks, ap length c.loop-place.invariant.places, c.loop-place.invariant.member, c.loop-place-test.true)

pub overflow_add-member : goal.overflow_add-member
overflow_add-member c = omega (arith, ap length c.loop-place.invariant.places, places_few c.args.kind c.args.plan.now, c.keeps.ensures.whole.few, c.loop-place.invariant.member, c.loop-place-test.true)

pub index_mut-requires : goal.index_mut-requires
index_mut-requires c =
    let within = subst (λ ks. c.loop-place.place-index < length ks) c.loop-place.invariant.places c.loop-place-test.true in
    omega (arith, c.loop-place.invariant.long, ap (λ ks. get_or ks c.loop-place.place-index 0) c.loop-place.invariant.places, place_there c.args.kind c.args.plan.now c.loop-place.place-index within)

pub loop-place-preserved : goal.loop-place-preserved
loop-place-preserved c =
    let p = c.args.plan.now in
    let kind = c.args.kind in
    let n = c.loop-place.place-index in
    let i = c.loop-place.invariant in
    let old = c.loop-place.numbers.items in
    let value = c.number.result in
    let within = subst (λ ks. n < length ks) i.places c.loop-place-test.true in
    let place = ap (λ ks. get_or ks n 0) i.places in
    record {
      places = i.places;
      long = length-set old (get_or c.places-place-items.result.now n 0) value ∙ i.long;
      member = ap (λ m. m + 1) i.member;
      each = subst (λ k. WrittenTo p kind c.args.ranks.now (n + 1) (set old k value)) (sym place)
          (written_more p kind old n value within c.args.ranks.now i.long (c.number.ensures ∙ ap (λ m. get_or c.args.ranks.now m 0) i.member) i.each);
      others = subst (λ k. OthersStay p kind c.args.numbers.items (set old k value)) (sym place) (others_stay p kind old n value within c.args.numbers.items i.others);
    }

pub returns-clause-each : goal.returns-clause-each
returns-clause-each c =
    let i = c.loop-place.invariant in
    let all : length (places_of c.args.kind c.args.plan.now) ≤ c.loop-place.place-index = subst (λ ks. length ks ≤ c.loop-place.place-index) i.places c.loop-place-test.false in
    each_member c.args.plan.now c.args.kind c.args.ranks.now c.loop-place.numbers.items (λ m h. i.each m (omega (arith, h, all)))

pub returns-clause-others : goal.returns-clause-others
returns-clause-others c = c.loop-place.invariant.others
