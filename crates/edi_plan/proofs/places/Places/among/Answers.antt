use Rattle.std.proofs.Common.{◌≡◌, ℕ, ◌+◌, ◌<◌, ◌≤◌, Bool, true, false, cond, List, [], ◌∷◌, ◌++◌, length, get_or, drop, map, refl, sym, ap, ◌∙◌, arith, append_assoc}
use Rattle.std.proofs.lemmas.List.{append-nil, at_drop_more, at_drop_all, length-map}
use Rattle.edi_record.specs.AnyRecords.{record_lent}
use Rattle.edi_record.specs.declared.record.Kind.{Kind}
use Rattle.edi_plan.specs.Plans.{blank, same_kind}
use Rattle.edi_plan.specs.Places.{places_from}
use Rattle.edi_plan.specs.declared.record.PlanRecord.{PlanRecord}
use Rattle.edi_plan.specs.inner.Places.{places_listed}
use Rattle.edi_plan.specs.inner.RecordLists.{plan_record_of, plan_records_of}
use Rattle.edi_plan.proofs.RecordLists.{record_there}
use Rattle.edi_plan.proofs.places.Places.among.Goals as goal

kinds_more : (ks : List Kind) (rs : List PlanRecord) (n : ℕ) → n < length rs
    → (ks ++ (get_or rs n blank).kind ∷ []) ++ map (λ (r : PlanRecord). r.kind) (drop (n + 1) rs) ≡ ks ++ map (λ (r : PlanRecord). r.kind) (drop n rs)
kinds_more ks rs n there =
    append_assoc ks ((get_or rs n blank).kind ∷ []) (map (λ (r : PlanRecord). r.kind) (drop (n + 1) rs))
    ∙ sym (at_drop_more (λ xs. ks ++ map (λ (r : PlanRecord). r.kind) xs) rs n blank there)

-- a place that is added behind the others, or isn't
added : (b : Bool) (ps qs : List ℕ) (n : ℕ) → cond b (ps ++ n ∷ []) ps ++ qs ≡ ps ++ cond b (n ∷ qs) qs
added true ps qs n = append_assoc ps (n ∷ []) qs
added false ps qs n = refl

places_more : (kind : Kind) (ps : List ℕ) (rs : List PlanRecord) (n : ℕ) → n < length rs
    → cond (same_kind kind (get_or rs n blank).kind) (ps ++ n ∷ []) ps ++ places_from kind (n + 1) (drop (n + 1) rs) ≡ ps ++ places_from kind n (drop n rs)
places_more kind ps rs n there =
    added (same_kind kind (get_or rs n blank).kind) ps (places_from kind (n + 1) (drop (n + 1) rs)) n
    ∙ sym (at_drop_more (λ xs. ps ++ places_from kind n xs) rs n blank there)

-- what is added to the end of a list, where nothing is left to add
all_added : {X : Type 0} (f : List PlanRecord → List X) (ps : List X) (rs : List PlanRecord) (n : ℕ) → f [] ≡ [] → length rs ≤ n → ps ++ f (drop n rs) ≡ ps
all_added f ps rs n none past = at_drop_all (λ xs. ps ++ f xs) rs n past ∙ (ap (λ xs. ps ++ xs) none ∙ append-nil ps)

pub loop-place-preserved : goal.loop-place-preserved
loop-place-preserved c =
    let rs = plan_records_of c.args.list.now in
    let n = c.loop-place.place in
    let there : n < length rs = omega (arith, length-map c.args.list.now plan_record_of) in
    let here = record_there c.args.list.now n (record_lent c.record.result) c.record.ensures in
    let kind_is = sym (ap (λ (r : PlanRecord). r.kind) here) in
    let ks = c.loop-place.places.kinds.items in (
      ap (λ xs. xs ++ map (λ (r : PlanRecord). r.kind) (drop (n + 1) rs)) (c.in_ok-add.ensures.kinds ∙ ap (λ (k : Kind). ks ++ k ∷ []) kind_is)
          ∙ (kinds_more ks rs n there ∙ c.loop-place.invariant.0),
      λ kind.
          let ps = places_listed c.loop-place.places kind in
          ap (λ xs. xs ++ places_from kind (n + 1) (drop (n + 1) rs)) (c.in_ok-add.ensures.places kind ∙ ap (λ (k : Kind). cond (same_kind kind k) (ps ++ n ∷ []) ps) kind_is)
          ∙ (places_more kind ps rs n there ∙ c.loop-place.invariant.1 kind),
    )

pub returns : goal.returns
returns c =
    let rs = plan_records_of c.args.list.now in
    let n = c.loop-place.place in
    let past : length rs ≤ n = omega (arith, length-map c.args.list.now plan_record_of) in (
      sym (all_added (λ xs. map (λ (r : PlanRecord). r.kind) xs) c.loop-place.places.kinds.items rs n refl past) ∙ c.loop-place.invariant.0,
      λ kind. sym (all_added (places_from kind n) (places_listed c.loop-place.places kind) rs n refl past) ∙ c.loop-place.invariant.1 kind,
    )
