use Rattle.std.proofs.Common.{◌≡◌, ◌∙◌, ◌+◌, ◌-◌, ℕ, List, Result, Ok, Err, IfOk, IfErr, add-one, arith, refl, sym, subst, ap, length, get_or}
use Rattle.edi_line.specs.Refusal.{IsLeastBroken}
use Rattle.edi_record.specs.declared.record.Kind.TheVariants.{Fea}
use Rattle.edi_plan.specs.EarlierLinks.{IsLeast}
use Rattle.edi_plan.specs.Places.{places_of}
use Rattle.edi_plan.specs.Plans.{PlanData}
use Rattle.edi_topo.specs.Ranking.{IsFirstTie, IsRanking}
use Rattle.edi_topo.specs.declared.fault.Tied.{Tied}
use Rattle.edi_rank.specs.EqualObjects.{BreaksObjectRule, IsEqualObject}
use Rattle.edi_rank.specs.Keys.{object_key_cmp}
use Rattle.edi_rank.specs.Pieces.{ObjectSource, object_key_at}
use Rattle.edi_rank.specs.declared.keys.ObjectKey.{ObjectKey}
use Rattle.edi_rank.specs.inner.Pieces.{IsObjectRanking}
use Rattle.edi_rank.specs.contracts.keys.ObjectKeyOrd.TheImpl.{ghosts as objects}
use Rattle.edi_rank.proofs.KeyOrders.{object_order}
use Rattle.edi_rank.proofs.ObjectTies.{first_equal_object, least_equal_object, none_equal}
use Rattle.edi_rank.proofs.Rankings.{first_tie_by, ranking_by}
use Rattle.edi_rank.proofs.labels.object_ranks_with_earlier.Goals as goal

abbrev key_at : ObjectSource → ℕ → ObjectKey
key_at l m = object_key_at l (get_or (places_of Fea l.plan) m 0)

abbrev count_of : ObjectSource → ℕ
count_of l = length (places_of Fea l.plan)

-- the layer is of this plan
of_plan : (l : ObjectSource) (p : PlanData) → l.plan ≡ p → l ≡ record { plan = p; numbers = l.numbers }
of_plan l p e = λ i. record { plan = e i; numbers = l.numbers }

-- what is found by the derived order is found by the written one

ranking : (l q : ObjectSource) (found : Result (List ℕ) Tied) (numbers : List ℕ) → q ≡ l → found ≡ Ok numbers → IfOk found (IsRanking objects.cmp (key_at q) (count_of q)) → IsObjectRanking l numbers
ranking l q found numbers e is h = ranking_by objects.cmp object_key_cmp object_order (key_at l) (count_of l) numbers
    (subst (λ (r : ObjectSource). IsRanking objects.cmp (key_at r) (count_of r) numbers) e (subst (λ (r : Result (List ℕ) Tied). IfOk r (IsRanking objects.cmp (key_at q) (count_of q))) is h))

first_tie : (l q : ObjectSource) (found : Result (List ℕ) Tied) (tied : Tied) → q ≡ l → found ≡ Err tied → IfErr found (IsFirstTie objects.cmp (key_at q) (count_of q)) → IsFirstTie object_key_cmp (key_at l) (count_of l) tied
first_tie l q found tied e is h = first_tie_by objects.cmp object_key_cmp object_order (key_at l) (count_of l) tied
    (subst (λ (r : ObjectSource). IsFirstTie objects.cmp (key_at r) (count_of r) tied) e (subst (λ (r : Result (List ℕ) Tied). IfErr r (IsFirstTie objects.cmp (key_at q) (count_of q))) is h))

pub returns-in-Ok-clause-ranks : goal.returns-in-Ok-clause-ranks
returns-in-Ok-clause-ranks c = ranking c.args.layer.now c.args.layer.now c.in_ok-ranks.field-0 c.in-Ok.ranks refl c.in-Ok.is c.in_ok-ranks.ensures.numbers

pub returns-in-Ok-clause-distinct : goal.returns-in-Ok-clause-distinct
returns-in-Ok-clause-distinct c =
    let p = c.args.sound.now in
    let q = c.args.layer.now in
    let is = ranking (record { plan = p; numbers = q.numbers }) q c.in_ok-ranks.field-0 c.in-Ok.ranks (of_plan q p c.requires.plan) c.in-Ok.is c.in_ok-ranks.ensures.numbers in
    none_equal p c.plan-plan.ensures.whole (λ k. get_or q.numbers k 0) c.requires.apart is.distinct

pub returns-in-Err-clause-least : goal.returns-in-Err-clause-least
returns-in-Err-clause-least c =
    let p = c.args.sound.now in
    let q = c.args.layer.now in
    let l : ObjectSource = record { plan = p; numbers = q.numbers } in
    let e : q ≡ l = of_plan q p c.requires.plan in
    let m = c.in-Err.tied.member in
    let tie = first_tie l q c.in_ok-ranks.field-0 c.in-Err.tied e c.in-Err.is c.in_ok-ranks.ensures.tie in
    let place : c.place.result ≡ get_or (places_of Fea p) m 0 = subst (λ (r : ObjectSource). c.place.result ≡ get_or (places_of Fea r.plan) m 0) e c.place.ensures in
    subst (IsLeastBroken (BreaksObjectRule p) 501) (sym (ap (λ n. n + 1) (c.from.ensures ∙ place) ∙ add-one (get_or (places_of Fea p) m 0)))
    (least_equal_object p c.plan-plan.ensures.whole (λ k. get_or q.numbers k 0) c.requires.apart m tie.ties tie.least)

pub returns-in-Err-clause-earlier : goal.returns-in-Err-clause-earlier
returns-in-Err-clause-earlier c =
    let p = c.args.sound.now in
    let q = c.args.layer.now in
    let l : ObjectSource = record { plan = p; numbers = q.numbers } in
    let e : q ≡ l = of_plan q p c.requires.plan in
    let tied = c.in-Err.tied in
    let tie = first_tie l q c.in_ok-ranks.field-0 tied e c.in-Err.is c.in_ok-ranks.ensures.tie in
    let place : c.place.result ≡ get_or (places_of Fea p) tied.member 0 = subst (λ (r : ObjectSource). c.place.result ≡ get_or (places_of Fea r.plan) tied.member 0) e c.place.ensures in
    let before : c.place-in-Err.result ≡ get_or (places_of Fea p) tied.earlier 0 = subst (λ (r : ObjectSource). c.place-in-Err.result ≡ get_or (places_of Fea r.plan) tied.earlier 0) e c.place-in-Err.ensures in
    let here : c.from.result + 1 - 1 ≡ get_or (places_of Fea p) tied.member 0 = omega (arith, c.from.ensures ∙ place) in
    subst (λ n. IsLeast (IsEqualObject p n) c.from-in-Err.result) (sym here)
    (subst (IsLeast (IsEqualObject p (get_or (places_of Fea p) tied.member 0))) (sym (c.from-in-Err.ensures ∙ before))
    (first_equal_object p c.plan-plan.ensures.whole (λ k. get_or q.numbers k 0) c.requires.apart tied.member tied.earlier tie.ties.0 tie.earlier))
