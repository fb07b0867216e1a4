use Rattle.std.proofs.Common.{ℕ, ◌<◌, ◌+◌, ◌∙◌, Bool, List, Option, arith, length, subst, sym, true≢false}
use Rattle.edi_matching.specs.inner.Additions.{AddsPairs}
use Rattle.edi_matching.proofs.KeysAdded.{Alone, alone_more}
use Rattle.edi_matching.proofs.LoneKeys.{NoneLeft, lone_passed, lone_taken, none_left}
use Rattle.edi_matching.proofs.added.add_lone_objects.Goals.{then-are_lone+in_ok-add_alike, else-are_lone}
use Rattle.edi_matching.proofs.added.add_lone_objects.Goals as goal

pub offset_bounds-others-at : goal.offset_bounds-others-at
offset_bounds-others-at g c = let h = ((c.are_lone.ensures.0 c.if-are_lone.true).same c.index-objects-index.result).within in omega (arith, h)

pub bounds-others-at : goal.bounds-others-at
bounds-others-at g c = ((c.are_lone.ensures.0 c.if-are_lone.true).same c.index-objects-index.result).within

pub bounds-others-at-then-are_lone : goal.bounds-others-at-then-are_lone
bounds-others-at-then-are_lone g c = ((c.are_lone.ensures.0 c.if-are_lone.true).same c.index-objects-index.result).within

pub loop-index-preserved : goal.loop-index-preserved
loop-index-preserved g c =
    let eq = g.K.PartialEq.eq in
    let cmp = g.K.Ord.cmp in
    let total = g.met.K.Ord.total in
    let ties = g.met.K.Ord.matches_eq in
    let p = c.args.plan.now in
    let q = c.args.other.now in
    let objects = c.args.objects.now in
    let others = c.args.others.now in
    let start = c.args.to.now in
    let free = c.args.taken.now in
    let n = c.loop-index.index in
    let at = c.first_from-at.result in
    let x = c.index-objects-index.result in
    let within : n < length objects = omega arith in
    elim c.if-are_lone.branch [
      | then-are_lone+in_ok-add_alike w ↦ record {
        pairs = subst (λ (ts : List (Option ℕ)). AddsPairs (Alone eq p q objects others) start free ts c.if-are_lone.taken) (sym w.to-is)
            (subst (λ (bs : List Bool). AddsPairs (Alone eq p q objects others) start free w.add_alike.new.to bs) (sym w.taken-is)
            (alone_more eq p q objects others start free c.loop-index.to c.loop-index.taken w.add_alike.new.to w.add_alike.new.taken c.loop-index.invariant.pairs n at x w.index-others-at.result within
            c.index-objects-index.is (c.are_lone.ensures.0 w.if-are_lone.true) w.in_ok-add_alike.ensures));
        none_left = λ order other_order.
            subst (λ (ts : List (Option ℕ)). NoneLeft cmp eq p q objects others (n + 1) at ts c.if-are_lone.taken) (sym w.to-is)
            (subst (λ (bs : List Bool). NoneLeft cmp eq p q objects others (n + 1) at w.add_alike.new.to bs) (sym w.taken-is)
            (lone_taken cmp eq total ties p q objects others order other_order n c.loop-index.at at c.loop-index.to c.loop-index.taken w.add_alike.new.to w.add_alike.new.taken within x w.index-others-at.result
            c.index-objects-index.is c.first_from-at.ensures w.in_ok-add_alike.ensures (c.loop-index.invariant.none_left order other_order)));
      }
      | else-are_lone w ↦ record {
        pairs = subst (λ (ts : List (Option ℕ)). AddsPairs (Alone eq p q objects others) start free ts c.if-are_lone.taken) (sym w.to-is)
            (subst (λ (bs : List Bool). AddsPairs (Alone eq p q objects others) start free c.loop-index.to bs) (sym w.taken-is) c.loop-index.invariant.pairs);
        none_left = λ order other_order.
            subst (λ (ts : List (Option ℕ)). NoneLeft cmp eq p q objects others (n + 1) at ts c.if-are_lone.taken) (sym w.to-is)
            (subst (λ (bs : List Bool). NoneLeft cmp eq p q objects others (n + 1) at c.loop-index.to bs) (sym w.taken-is)
            (lone_passed cmp eq total ties p q objects others order other_order n c.loop-index.at at c.loop-index.to c.loop-index.taken within x c.index-objects-index.is c.first_from-at.ensures
            (λ lone. true≢false (sym (c.are_lone.ensures.1 lone) ∙ w.if-are_lone.false)) (c.loop-index.invariant.none_left order other_order)));
      }
    ]

pub returns-clause-none_left : goal.returns-clause-none_left
returns-clause-none_left g c =
    λ order other_order i j w alike free.
    none_left g.K.Ord.cmp g.K.PartialEq.eq g.met.K.Ord.total g.met.K.Ord.matches_eq c.args.plan.now c.args.other.now c.args.objects.now c.args.others.now c.loop-index.index c.loop-index.at c.loop-index.to c.loop-index.taken
    (omega arith) (c.loop-index.invariant.none_left order other_order) i j w alike free
