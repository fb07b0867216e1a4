-- The ends of links, as they are found one by one.
use Rattle.std.proofs.Common.{◌≡◌, ℕ, ◌+◌, ◌<◌, ◌≤◌, true, false, cond, ltb, List, [], ◌∷◌, ◌++◌, Option, None, Some, option_map, length, drop, get_or, refl, sym, ap, ◌∙◌, arith}
use Rattle.std.specs.List.{find}
use Rattle.std.specs.Option.{option_and_then}
use Rattle.std.proofs.lemmas.Bool.{le-ltb, lt-ltb}
use Rattle.std.proofs.lemmas.List.{append_assoc, at_drop_all, at_drop_more, get_or_past}
use Rattle.edi_schema.specs.Sorted.{sort_by}
use Rattle.edi_plan.specs.Plans.{PlanData, IsPlace, blank, is_object, record_at}
use Rattle.edi_plan.specs.declared.record.PlanEnd.{PlanEnd}
use Rattle.edi_plan.specs.declared.record.PlanRecord.{PlanRecord}
use Rattle.edi_rank.specs.Keys.{end_cmp, numbered}
use Rattle.edi_rank.specs.declared.keys.NumberedEnd.{NumberedEnd}
use Rattle.edi_matching.specs.inner.Entries.{all_there, end_there, ends_there, object_among}

module _ (p : PlanData) (to : List (Option ℕ)) where
  -- one end

  pub nowhere : (e : PlanEnd) → get_or to e.target None ≡ None → end_there p to e ≡ None
  nowhere e none = ap (option_and_then (λ (j : ℕ). cond (ltb e.target (length p.list)) (Some (numbered p (λ k. j) e)) None)) none

  pub outside : (e : PlanEnd) → length p.list ≤ e.target → end_there p to e ≡ None
  outside e past = go (get_or to e.target None)
    where
      go : (o : Option ℕ) → option_and_then (λ (j : ℕ). cond (ltb e.target (length p.list)) (Some (numbered p (λ k. j) e)) None) o ≡ None
      go None = refl
      go (Some j) = ap (λ b. cond b (Some (numbered p (λ k. j) e)) None) (le-ltb e.target (length p.list) past)

  pub somewhere : (e : PlanEnd) (j : ℕ) → IsPlace p e.target → get_or to e.target None ≡ Some j → end_there p to e ≡ Some (numbered p (λ k. j) e)
  somewhere e j there goes =
      ap (option_and_then (λ (j : ℕ). cond (ltb e.target (length p.list)) (Some (numbered p (λ k. j) e)) None)) goes
      ∙ ap (λ b. cond b (Some (numbered p (λ k. j) e)) None) (lt-ltb e.target (length p.list) there)

  -- all ends

  joined : (before : List NumberedEnd) (x : NumberedEnd) (o : Option (List NumberedEnd)) → option_map (λ ys. before ++ ys) (option_map (λ ys. x ∷ ys) o) ≡ option_map (λ ys. (before ++ x ∷ []) ++ ys) o
  joined before x None = refl
  joined before x (Some ys) = ap Some (sym (append_assoc before (x ∷ []) ys))

  pub all_more : (before : List NumberedEnd) (ends : List PlanEnd) (i : ℕ) (d : PlanEnd) (x : NumberedEnd) → i < length ends → end_there p to (get_or ends i d) ≡ Some x
      → option_map (λ ys. before ++ ys) (all_there p to (drop i ends)) ≡ option_map (λ ys. (before ++ x ∷ []) ++ ys) (all_there p to (drop (i + 1) ends))
  all_more before ends i d x within goes =
      ap (option_map (λ ys. before ++ ys)) (at_drop_more (all_there p to) ends i d within ∙ ap (option_and_then (λ (y : NumberedEnd). option_map (λ ys. y ∷ ys) (all_there p to (drop (i + 1) ends)))) goes)
      ∙ joined before x (all_there p to (drop (i + 1) ends))

  pub all_stopped : (ends : List PlanEnd) (i : ℕ) (d : PlanEnd) → i < length ends → end_there p to (get_or ends i d) ≡ None → all_there p to (drop i ends) ≡ None
  all_stopped ends i d within none =
      at_drop_more (all_there p to) ends i d within ∙ ap (option_and_then (λ (y : NumberedEnd). option_map (λ ys. y ∷ ys) (all_there p to (drop (i + 1) ends)))) none

  pub all_done : (ends : List PlanEnd) (i : ℕ) → length ends ≤ i → all_there p to (drop i ends) ≡ Some []
  all_done ends i past = at_drop_all (all_there p to) ends i past

  -- the ends of a link

  pub no_ends : (ends : List PlanEnd) → length ends ≡ 0 → ends_there p to ends ≡ None
  no_ends [] e = refl
  no_ends (x ∷ xs) e = absurd (omega (arith, e))

  pub origin_nowhere : (ends : List PlanEnd) (first : PlanEnd) (others : List PlanEnd) → ends ≡ first ∷ others → end_there p to first ≡ None → ends_there p to ends ≡ None
  origin_nowhere ends first others is none =
      ap (ends_there p to) is ∙ ap (option_and_then (λ (x : NumberedEnd). option_map (λ xs. sort_by end_cmp xs ++ x ∷ []) (all_there p to others))) none

  pub ends_moved : (ends : List PlanEnd) (first : PlanEnd) (others : List PlanEnd) (x : NumberedEnd) (found : Option (List NumberedEnd)) → ends ≡ first ∷ others → end_there p to first ≡ Some x
      → all_there p to others ≡ found → ends_there p to ends ≡ option_map (λ xs. sort_by end_cmp xs ++ x ∷ []) found
  ends_moved ends first others x found is goes all =
      ap (ends_there p to) is
      ∙ (ap (option_and_then (λ (x : NumberedEnd). option_map (λ xs. sort_by end_cmp xs ++ x ∷ []) (all_there p to others))) goes ∙ ap (option_map (λ xs. sort_by end_cmp xs ++ x ∷ [])) all)

-- an object among ends

module _ (p : PlanData) where
  pub among_here : (ends : List PlanEnd) (i : ℕ) (e : PlanEnd) → i < length ends → e ≡ get_or ends i e → is_object (record_at p e.target).kind ≡ true → object_among p (drop i ends) ≡ Some e.target
  among_here ends i e within is object =
      at_drop_more (object_among p) ends i e within
      ∙ (ap (λ (x : PlanEnd). object_among p (x ∷ drop (i + 1) ends)) (sym is)
      ∙ ap (λ b. option_map (λ (x : PlanEnd). x.target) (cond b (Some e) (find (λ (x : PlanEnd). is_object (record_at p x.target).kind) (drop (i + 1) ends)))) object)

  pub among_later : (ends : List PlanEnd) (i : ℕ) (e : PlanEnd) → i < length ends → e ≡ get_or ends i e → is_object (record_at p e.target).kind ≡ false
      → object_among p (drop i ends) ≡ object_among p (drop (i + 1) ends)
  among_later ends i e within is other =
      at_drop_more (object_among p) ends i e within
      ∙ (ap (λ (x : PlanEnd). object_among p (x ∷ drop (i + 1) ends)) (sym is)
      ∙ ap (λ b. option_map (λ (x : PlanEnd). x.target) (cond b (Some e) (find (λ (x : PlanEnd). is_object (record_at p x.target).kind) (drop (i + 1) ends)))) other)

  pub nothing_outside : (k : ℕ) → length p.list ≤ k → is_object (record_at p k).kind ≡ false
  nothing_outside k past = ap (λ (r : PlanRecord). is_object r.kind) (get_or_past p.list k blank past)
