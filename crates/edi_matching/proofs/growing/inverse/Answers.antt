use Rattle.std.proofs.Common.{◌+◌, ◌<◌, ◌∙◌, ◌≡◌, ℕ, None, Some, Bool, List, Option, Vec, Global, ap, arith, get_or, rules, set, subst, sym}
use Rattle.edi_rank.specs.Labelling.{turned_at}
use Rattle.edi_matching.specs.Matchings.{GoesTo}
use Rattle.edi_matching.specs.inner.Inverses.{IsInverse}
use Rattle.edi_matching.proofs.Inverted.{all_turned, no_turn, one_turn}
use Rattle.edi_matching.proofs.growing.inverse.Goals.{in-Some+then-target-count, in_default, in_default-via-in-None-1, in_default-via-in-Some+else-target-count}
use Rattle.edi_matching.proofs.growing.inverse.Goals as goal

pub loop-place-preserved : goal.loop-place-preserved
loop-place-preserved c =
    let m = c.args.matching.now in
    let count = c.args.count in
    let i = c.loop-place.place in
    let to = c.loop-place.to.items in
    let turned = c.loop-place.turned.items in
    let found : c.target_of.result ≡ get_or m.to i None = c.target_of.ensures ∙ ap (λ (xs : List (Option ℕ)). get_or xs i None) c.as_slice.ensures in
    elim c.match-target_of.branch [
      | in-Some+then-target-count w ↦
          let j = w.in-Some.target in
          let goes : GoesTo m.to i j = sym found ∙ w.in-Some.is in
          let is : w.unwrap_or.result ≡ turned_at c.as_slice-directions.result.now i = search rules in
          let turn : w.unwrap_or.result ≡ turned_at m.turned i = is ∙ ap (λ (xs : List Bool). turned_at xs i) c.as_slice-directions.ensures in
          subst (λ (v : Vec (Option ℕ) Global). IsInverse m count (i + 1) (record { to = v.items; turned = c.match-target_of.turned.items })) (sym w.to-is)
          (subst (λ (v : Vec Bool Global). IsInverse m count (i + 1) (record { to = set to j (Some i); turned = v.items })) (sym w.turned-is)
          (subst (λ (b : Bool). IsInverse m count (i + 1) (record { to = set to j (Some i); turned = set turned j b })) (sym turn)
          (one_turn m count i to turned c.loop-place.invariant j goes w.if-target-count.true)))
      | in_default w ↦
          let none : (j : ℕ) → GoesTo m.to i j → j < count → ⊥ = λ j goes less. (elim w.in_default.branch [
            | in_default-via-in-None-1 v ↦ (let e : c.target_of.result ≡ None = search rules in let wrong : None ≡ Some j = sym e ∙ (found ∙ goes) in cc)
            | in_default-via-in-Some+else-target-count v ↦ (let e : Some v.in-Some.target ≡ Some j = sym v.in-Some.is ∙ (found ∙ goes) in let same : v.in-Some.target ≡ j = cc in let h = v.if-target-count.false in omega (arith, same, h, less))
          ]) in
          subst (λ (v : Vec (Option ℕ) Global). IsInverse m count (i + 1) (record { to = v.items; turned = c.match-target_of.turned.items })) (sym w.to-is)
          (subst (λ (v : Vec Bool Global). IsInverse m count (i + 1) (record { to = to; turned = v.items })) (sym w.turned-is)
          (no_turn m count i (record { to = to; turned = turned }) c.loop-place.invariant none))
    ]

pub returns : goal.returns
returns c =
    let m = c.args.matching.now in
    let whole = all_turned m c.args.count c.loop-place.place 4294967295 (record { to = c.loop-place.to.items; turned = c.loop-place.turned.items }) (omega arith) c.loop-place.invariant in
    subst (λ (xs : List (Option ℕ)). IsInverse m c.args.count 4294967295 (record { to = xs; turned = c.from_vec-2.result })) (sym c.from_vec.ensures)
    (subst (λ (bs : List Bool). IsInverse m c.args.count 4294967295 (record { to = c.loop-place.to.items; turned = bs })) (sym c.from_vec-2.ensures) whole)
