use Rattle.std.proofs.Common.{◌≡◌, ◌≤◌, ℕ, List, Result, Err, IfOk, IfErr, sym, subst, get_or}
use Rattle.edi_record.specs.declared.record.Kind.TheVariants.{Pno}
use Rattle.edi_plan.specs.EarlierLinks.{IsLeast}
use Rattle.edi_plan.specs.Places.{places_of}
use Rattle.edi_plan.specs.Plans.{PlanData}
use Rattle.edi_topo.specs.EarlierRecords.{IsEqualNode}
use Rattle.edi_topo.specs.inner.Nodes.{RepeatsAnEarlier}
use Rattle.edi_topo.specs.Ranking.{IsFirstTie, IsRanking}
use Rattle.edi_topo.specs.declared.fault.Tied.{Tied}
use Rattle.edi_topo.specs.contracts.node_key.NodeKeyOrd.TheImpl.{ghosts as nodes}
use Rattle.edi_topo.proofs.FirstRepeat.{key_of, count_of, first_equal, none_repeats, least_repeats, ranking_of}
use Rattle.edi_topo.proofs.nodes.ranks_or_repeat.Goals as goal

abbrev AreRanks : PlanData → List ℕ → Type 0
AreRanks q numbers = IsRanking nodes.cmp (key_of q) (count_of q) numbers

abbrev IsTiedFirst : PlanData → Tied → Type 0
IsTiedFirst q tied = IsFirstTie nodes.cmp (key_of q) (count_of q) tied

pub returns-in-Ok-clause-ranks : goal.returns-in-Ok-clause-ranks
returns-in-Ok-clause-ranks c = ranking_of c.args.plan.now c.in_plan-nodes.result c.in-Ok.ranks c.in_plan-nodes.ensures
    (subst (λ (r : Result (List ℕ) Tied). IfOk r (AreRanks c.in_plan-nodes.result)) c.in-Ok.is c.in_ok-ranks.ensures.numbers)

pub returns-in-Ok-clause-repeat : goal.returns-in-Ok-clause-repeat
returns-in-Ok-clause-repeat c =
    let ranks = subst (λ (r : Result (List ℕ) Tied). IfOk r (AreRanks c.in_plan-nodes.result)) c.in-Ok.is c.in_ok-ranks.ensures.numbers in
    let here : AreRanks c.args.plan.now c.in-Ok.ranks = subst (λ q. AreRanks q c.in-Ok.ranks) c.in_plan-nodes.ensures ranks in
    none_repeats c.args.plan.now c.keeps.ensures.whole here.distinct

-- the first tie, among the nodes of the plan
tie_here : (p q : PlanData) (found : Result (List ℕ) Tied) (tied : Tied) → q ≡ p → found ≡ Err tied → IfErr found (IsTiedFirst q) → IsTiedFirst p tied
tie_here p q found tied e is h = subst (λ r. IsTiedFirst r tied) e (subst (λ (r : Result (List ℕ) Tied). IfErr r (IsTiedFirst q)) is h)

place_here : (p q : PlanData) (n m : ℕ) → q ≡ p → n ≡ get_or (places_of Pno q) m 0 → n ≡ get_or (places_of Pno p) m 0
place_here p q n m e h = subst (λ r. n ≡ get_or (places_of Pno r) m 0) e h

pub returns-in-Err-clause-repeat : goal.returns-in-Err-clause-repeat
returns-in-Err-clause-repeat c =
    let p = c.args.plan.now in
    let tied = c.in-Err.tied in
    let tie = tie_here p c.in_plan-nodes.result c.in_ok-ranks.field-0 tied c.in_plan-nodes.ensures c.in-Err.is c.in_ok-ranks.ensures.tie in
    subst (λ n. RepeatsAnEarlier p n × ((k : ℕ) → RepeatsAnEarlier p k → n ≤ k)) (sym (place_here p c.in_plan-nodes.result c.place.result tied.member c.in_plan-nodes.ensures c.place.ensures))
    (least_repeats p c.keeps.ensures.whole tied.member tie.ties tie.least)

pub returns-in-Err-clause-earlier : goal.returns-in-Err-clause-earlier
returns-in-Err-clause-earlier c =
    let p = c.args.plan.now in
    let q = c.in_plan-nodes.result in
    let tied = c.in-Err.tied in
    let tie = tie_here p q c.in_ok-ranks.field-0 tied c.in_plan-nodes.ensures c.in-Err.is c.in_ok-ranks.ensures.tie in
    subst (λ n. IsLeast (IsEqualNode p n) c.place-in-Err.result) (sym (place_here p q c.place.result tied.member c.in_plan-nodes.ensures c.place.ensures))
    (subst (IsLeast (IsEqualNode p (get_or (places_of Pno p) tied.member 0))) (sym (place_here p q c.place-in-Err.result tied.earlier c.in_plan-nodes.ensures c.place-in-Err.ensures))
    (first_equal p c.keeps.ensures.whole tied.member tied.earlier tie.ties.0 tie.earlier))
