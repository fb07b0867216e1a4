use Rattle.std.proofs.Common.{◌≡◌, ◌≤◌, ℕ, List, Result, Ok, Err, IfOk, IfErr, sym, subst, get_or}
use Rattle.edi_record.specs.Orders.{points_cmp}
use Rattle.edi_record.specs.declared.record.Kind.TheVariants.{Par}
use Rattle.edi_plan.specs.EarlierLinks.{IsLeast}
use Rattle.edi_plan.specs.Places.{places_of}
use Rattle.edi_plan.specs.Plans.{PlanData}
use Rattle.edi_topo.specs.Arcs.{IsForwardRanking}
use Rattle.edi_topo.specs.EarlierRecords.{SharesPoints}
use Rattle.edi_topo.specs.inner.Arcs.{RepeatsAnEarlierArc}
use Rattle.edi_topo.specs.Ranking.{IsFirstTie}
use Rattle.edi_topo.specs.declared.fault.Tied.{Tied}
use Rattle.edi_topo.proofs.FirstArcRepeat.{key_of, count_of, first_sharing, none_repeats, least_repeats}
use Rattle.edi_topo.proofs.arcs.ranks_or_repeat.Goals as goal

abbrev IsTiedFirst : PlanData → Tied → Type 0
IsTiedFirst q tied = IsFirstTie points_cmp (key_of q) (count_of q) tied

-- the numbers, of the arcs of the plan
ranks_here : (p q : PlanData) (found : Result (List ℕ) Tied) (numbers : List ℕ) → q ≡ p → found ≡ Ok numbers → IfOk found (IsForwardRanking q) → IsForwardRanking p numbers
ranks_here p q found numbers e is h = subst (λ r. IsForwardRanking r numbers) e (subst (λ (r : Result (List ℕ) Tied). IfOk r (IsForwardRanking q)) is h)

-- the first tie, among the arcs of the plan
tie_here : (p q : PlanData) (found : Result (List ℕ) Tied) (tied : Tied) → q ≡ p → found ≡ Err tied → IfErr found (IsTiedFirst q) → IsTiedFirst p tied
tie_here p q found tied e is h = subst (λ r. IsTiedFirst r tied) e (subst (λ (r : Result (List ℕ) Tied). IfErr r (IsTiedFirst q)) is h)

place_here : (p q : PlanData) (n m : ℕ) → q ≡ p → n ≡ get_or (places_of Par q) m 0 → n ≡ get_or (places_of Par p) m 0
place_here p q n m e h = subst (λ r. n ≡ get_or (places_of Par r) m 0) e h

pub returns-in-Ok-clause-ranks : goal.returns-in-Ok-clause-ranks
returns-in-Ok-clause-ranks c = ranks_here c.args.plan.now c.in_plan-arcs.result c.in_ok-ranks.field-0 c.in-Ok.ranks c.in_plan-arcs.ensures c.in-Ok.is c.in_ok-ranks.ensures.numbers

pub returns-in-Ok-clause-repeat : goal.returns-in-Ok-clause-repeat
returns-in-Ok-clause-repeat c =
    let here = ranks_here c.args.plan.now c.in_plan-arcs.result c.in_ok-ranks.field-0 c.in-Ok.ranks c.in_plan-arcs.ensures c.in-Ok.is c.in_ok-ranks.ensures.numbers in
    none_repeats c.args.plan.now here.distinct

pub returns-in-Err-clause-repeat : goal.returns-in-Err-clause-repeat
returns-in-Err-clause-repeat c =
    let p = c.args.plan.now in
    let tied = c.in-Err.tied in
    let tie = tie_here p c.in_plan-arcs.result c.in_ok-ranks.field-0 tied c.in_plan-arcs.ensures c.in-Err.is c.in_ok-ranks.ensures.tie in
    subst (λ n. RepeatsAnEarlierArc p n × ((k : ℕ) → RepeatsAnEarlierArc p k → n ≤ k)) (sym (place_here p c.in_plan-arcs.result c.place.result tied.member c.in_plan-arcs.ensures c.place.ensures))
    (least_repeats p tied.member tie.ties tie.least)

pub returns-in-Err-clause-earlier : goal.returns-in-Err-clause-earlier
returns-in-Err-clause-earlier c =
    let p = c.args.plan.now in
    let q = c.in_plan-arcs.result in
    let tied = c.in-Err.tied in
    let tie = tie_here p q c.in_ok-ranks.field-0 tied c.in_plan-arcs.ensures c.in-Err.is c.in_ok-ranks.ensures.tie in
    subst (λ n. IsLeast (SharesPoints p n) c.place-in-Err.result) (sym (place_here p q c.place.result tied.member c.in_plan-arcs.ensures c.place.ensures))
    (subst (IsLeast (SharesPoints p (get_or (places_of Par p) tied.member 0))) (sym (place_here p q c.place-in-Err.result tied.earlier c.in_plan-arcs.ensures c.place-in-Err.ensures))
    (first_sharing p tied.member tied.earlier tie.ties.0 tie.earlier))
