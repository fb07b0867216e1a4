use Rattle.std.proofs.Common.{◌≡◌, ℕ, ◌+◌, ◌∙◌, Bool, List, Option, arith, get_or, subst, sym, true≢false}
use Rattle.std.proofs.lemmas.List.{get_or_default}
use Rattle.edi_matching.specs.declared.ranked.Member.{Member}
use Rattle.edi_matching.specs.inner.Additions.{AddsPairs, AreAlike, IsListed}
use Rattle.edi_matching.proofs.KeysAdded.{Shared, then_more}
use Rattle.edi_matching.proofs.LoneKeys.{NoneLeft, looked_at, none_left, passed_over, run_alone}
use Rattle.edi_matching.proofs.RunsAdded.{runs_share}
use Rattle.edi_matching.proofs.added.add_objects.Goals.{then-starts_run+in_ok-add_run, else-starts_run}
use Rattle.edi_matching.proofs.added.add_objects.Goals as goal

pub loop-index-preserved : goal.loop-index-preserved
loop-index-preserved g c =
    let eq = g.K.PartialEq.eq in
    let cmp = g.K.Ord.cmp in
    let total = g.met.K.Ord.total in
    let ties = g.met.K.Ord.matches_eq in
    let laws = g.met.K.Eq.laws in
    let p = c.args.plan.now in
    let q = c.args.other.now in
    let objects = c.args.objects.now in
    let others = c.args.others.now in
    let start = c.args.to.now in
    let free = c.args.taken.now in
    let to = c.loop-index.to in
    let taken = c.loop-index.taken in
    let n = c.loop-index.index in
    elim c.if-starts_run.branch [
      | then-starts_run+in_ok-add_run w ↦
          let x = get_or objects n w.index-objects-index.result in
          let is : x ≡ get_or objects n x = get_or_default objects n w.index-objects-index.result x c.loop-index-test.true in
          let at = w.first_from-at.result in
          let run = w.run_with-run.result.now in
          let there = w.run_with-there.result.now in
          let more = w.add_run.new.to in
          let marks = w.add_run.new.taken in
          let Pair : ℕ → ℕ → Type 0 = λ i j. IsListed run i × IsListed there j × AreAlike p q i j in
          record {
            pairs = subst (λ (ts : List (Option ℕ)). AddsPairs (Shared eq p q objects others) start free ts c.if-starts_run.taken) (sym w.to-is)
                (subst (λ (bs : List Bool). AddsPairs (Shared eq p q objects others) start free more bs) (sym w.taken-is)
                (then_more (Shared eq p q objects others) start free to taken more marks c.loop-index.invariant.pairs Pair
                (λ i j v. runs_share eq laws p q objects others n at x.0 i j
                (subst (λ (r : List (g.row.K.Denot × Member)). IsListed r i) w.run_with-run.ensures v.0, subst (λ (r : List (g.row.K.Denot × Member)). IsListed r j) w.run_with-there.ensures v.1, v.2))
                w.in_ok-add_run.ensures.pairs));
            none_left = λ order other_order.
                subst (λ (k : ℕ). NoneLeft cmp eq p q objects others (n + 1) k c.if-starts_run.to c.if-starts_run.taken) (sym w.at-is)
                (subst (λ (ts : List (Option ℕ)). NoneLeft cmp eq p q objects others (n + 1) at ts c.if-starts_run.taken) (sym w.to-is)
                (subst (λ (bs : List Bool). NoneLeft cmp eq p q objects others (n + 1) at more bs) (sym w.taken-is)
                (looked_at cmp eq total ties p q objects others order other_order n c.loop-index.at at Pair to taken more marks c.loop-index-test.true x is w.first_from-at.ensures
                w.in_ok-add_run.ensures.pairs
                (λ y within at_y same lone lone_there alike. w.in_ok-add_run.ensures.none_left x y
                (w.run_with-run.ensures ∙ run_alone eq laws objects n x c.loop-index-test.true is x.0 (laws.refl x.0) lone)
                (w.run_with-there.ensures ∙ run_alone eq laws others at y within (sym at_y) x.0 same lone_there) alike)
                (c.loop-index.invariant.none_left order other_order))));
          }
      | else-starts_run w ↦ record {
        pairs = subst (λ (ts : List (Option ℕ)). AddsPairs (Shared eq p q objects others) start free ts c.if-starts_run.taken) (sym w.to-is)
            (subst (λ (bs : List Bool). AddsPairs (Shared eq p q objects others) start free to bs) (sym w.taken-is) c.loop-index.invariant.pairs);
        none_left = λ order other_order.
            subst (λ (k : ℕ). NoneLeft cmp eq p q objects others (n + 1) k c.if-starts_run.to c.if-starts_run.taken) (sym w.at-is)
            (subst (λ (ts : List (Option ℕ)). NoneLeft cmp eq p q objects others (n + 1) c.loop-index.at ts c.if-starts_run.taken) (sym w.to-is)
            (subst (λ (bs : List Bool). NoneLeft cmp eq p q objects others (n + 1) c.loop-index.at to bs) (sym w.taken-is)
            (passed_over cmp eq total ties p q objects others n c.loop-index.at to taken (λ starts. true≢false (sym (c.starts_run.ensures.1 starts) ∙ w.if-starts_run.false))
            (c.loop-index.invariant.none_left order other_order))));
      }
    ]

pub returns-clause-none_left : goal.returns-clause-none_left
returns-clause-none_left g c =
    λ order other_order i j w alike free.
    none_left g.K.Ord.cmp g.K.PartialEq.eq g.met.K.Ord.total g.met.K.Ord.matches_eq c.args.plan.now c.args.other.now c.args.objects.now c.args.others.now c.loop-index.index c.loop-index.at c.loop-index.to c.loop-index.taken
    (omega arith) (c.loop-index.invariant.none_left order other_order) i j w alike free
