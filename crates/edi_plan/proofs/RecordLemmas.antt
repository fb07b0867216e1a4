-- The records of a sheet, read in their order.
use Rattle.std.proofs.Common.{◌≡◌, ℕ, ◌+◌, ◌<◌, ◌≤◌, ◌⊎◌, inl, inr, List, [], ◌∷◌, ◌++◌, zero, suc, add-one, get_or, length, take, drop, flat_map, Option, Some, None, slice_get, refl, sym, ap, ◌∙◌, subst, arith}
use Rattle.std.specs.List.{AllZip}
use Rattle.std.proofs.lemmas.Bool.{cases_order}
use Rattle.std.proofs.lemmas.List.{length-drop, drop-drop}
use Rattle.std.proofs.lemmas.Option.{slice_get_within, same_Some}
use Rattle.std.proofs.Math.Seq.{drop-cons}
use Rattle.edi_record.specs.LinkEnds.{EndData}
use Rattle.edi_record.specs.declared.record.Record.{Record}
use Rattle.edi_schema.specs.Classes.{Classes}
use Rattle.edi_plan.specs.inner.Names.{RepeatsNameAt, IsFirstRepeatedNameIfAny}
use Rattle.edi_plan.specs.PlanOf.{StatesPlanEnd, StatesPlanRecord}
use Rattle.edi_plan.specs.inner.Resolving.{AreGiven, IsPlanned}
use Rattle.edi_plan.specs.inner.SideTable.{HaveEntries}
use Rattle.edi_plan.specs.inner.Targets.{IsTargetIfAny, AreTargets}
use Rattle.edi_plan.specs.declared.record.PlanEnd.{PlanEnd}
use Rattle.edi_plan.specs.declared.planned.PlannedRecord.{PlannedRecord}
use Rattle.edi_plan.specs.inner.Planned.{planned_with}
use Rattle.edi_schema.specs.declared.by_role.ByRole.{ByRole}
use Rattle.edi_plan.specs.declared.targets.Target.{Target}

-- lists side by side, in two parts

pub zip_front : {A B : Type 0} (R : A → B → Type 0) (xs ws : List A) (ys : List B) → AllZip R (xs ++ ws) ys → AllZip R xs (take (length xs) ys)
zip_front R [] ws ys all = tt
zip_front R (x ∷ xs) ws [] all = absurd all
zip_front R (x ∷ xs) ws (y ∷ ys) all = (all.0, zip_front R xs ws ys all.1)

pub zip_back_of : {A B : Type 0} (R : A → B → Type 0) (xs ws : List A) (ys : List B) → AllZip R (xs ++ ws) ys → AllZip R ws (drop (length xs) ys)
zip_back_of R [] ws ys all = all
zip_back_of R (x ∷ xs) ws [] all = absurd all
zip_back_of R (x ∷ xs) ws (y ∷ ys) all = zip_back_of R xs ws ys all.1

pub zip_long : {A B : Type 0} (R : A → B → Type 0) (xs ws : List A) (ys : List B) → AllZip R (xs ++ ws) ys → length xs ≤ length ys
zip_long R [] ws ys all = omega arith
zip_long R (x ∷ xs) ws [] all = absurd all
zip_long R (x ∷ xs) ws (y ∷ ys) all = let more = zip_long R xs ws ys all.1 in omega (arith, more)

-- the targets of the next record, and of those behind it

module _ (list : List Record) (items rest : List Record) (r : Record) (next : items ≡ r ∷ rest) (targets : List (Option Target)) (left : AreTargets list items targets) where
  ends_left : AllZip (IsTargetIfAny list) (r.ends ++ flat_map (λ q. q.ends) rest) targets
  ends_left = subst (λ (rs : List Record). AllZip (IsTargetIfAny list) (flat_map (λ q. q.ends) rs) targets) next left

  pub own_targets : AllZip (IsTargetIfAny list) r.ends (take (length r.ends) targets)
  own_targets = zip_front (IsTargetIfAny list) r.ends (flat_map (λ q. q.ends) rest) targets ends_left

  pub later_targets : AreTargets list rest (drop (length r.ends) targets)
  later_targets = zip_back_of (IsTargetIfAny list) r.ends (flat_map (λ q. q.ends) rest) targets ends_left

  pub enough_targets : length r.ends ≤ length targets
  enough_targets = zip_long (IsTargetIfAny list) r.ends (flat_map (λ q. q.ends) rest) targets ends_left

pub entries_there : (list : List Record) (table : List (ByRole (Option ℕ))) (es : List EndData) (ts : List (Option Target)) → length table ≡ length list → AllZip (IsTargetIfAny list) es ts → HaveEntries table ts
entries_there list table [] [] long all = tt
entries_there list table [] (t ∷ ts) long all = absurd all
entries_there list table (e ∷ es) [] long all = absurd all
entries_there list table (e ∷ es) (None ∷ ts) long all = entries_there list table es ts long all.1
entries_there list table (e ∷ es) (Some t ∷ ts) long all =
    let within = slice_get_within list t.place all.0.there all.0.here in
    (omega (arith, within, long), entries_there list table es ts long all.1)

-- the record in the plan

ends_stated : (list : List Record) (es : List EndData) (ts : List (Option Target)) (ps : List PlanEnd) → AllZip (IsTargetIfAny list) es ts → AreGiven ts es ps → AllZip (StatesPlanEnd list) es ps
ends_stated list [] [] [] all given = tt
ends_stated list [] [] (p ∷ ps) all given = absurd given
ends_stated list [] (t ∷ ts) ps all given = absurd all
ends_stated list (e ∷ es) [] ps all given = absurd all
ends_stated list (e ∷ es) (t ∷ ts) [] all given = absurd given
ends_stated list (e ∷ es) (None ∷ ts) (p ∷ ps) all given = absurd given.0
ends_stated list (e ∷ es) (Some t ∷ ts) (p ∷ ps) all given =
    (record { target = all.0.named ∙ ap Some (sym given.0.0); sns = given.0.1 }, ends_stated list es ts ps all.1 given.1)

pub record_stated : (s : Classes) (list : List Record) (r : Record) (ts : List (Option Target)) (p : PlannedRecord) → AllZip (IsTargetIfAny list) r.ends ts → IsPlanned s ts r p
    → StatesPlanRecord s list r (planned_with p r)
record_stated s list r ts p all d = record { kind = d.kind; class = d.class; role = d.role; points = refl; attributes = d.attributes; extras = refl; ends = ends_stated list r.ends ts p.ends.items all d.ends }

-- where the next record stands

pub got_there : (list : List Record) (place : ℕ) (r : Record) → slice_get list place ≡ Some r → r ≡ get_or list place r
got_there [] place r here = refl
got_there (q ∷ qs) zero r here = sym (same_Some _ _ here)
got_there (q ∷ qs) (suc place) r here = got_there qs place r here

pub cut_at : (list : List Record) (place : ℕ) (r : Record) → slice_get list place ≡ Some r → drop place list ≡ r ∷ drop (place + 1) list
cut_at list place r here = drop-cons list place r (slice_get_within list place r here) ∙ (λ i. sym (got_there list place r here) i ∷ drop (sym (add-one place) i) list)

-- the records that are left

pub left_there : (list rest : List Record) (place : ℕ) (r : Record) → rest ≡ drop place list → slice_get rest 0 ≡ Some r → slice_get list place ≡ Some r
left_there list rest place r is first = go list place (ap (λ rs. slice_get rs 0) (sym is) ∙ first)
  where
    go : (list : List Record) (place : ℕ) → slice_get (drop place list) 0 ≡ Some r → slice_get list place ≡ Some r
    go list zero first = first
    go [] (suc place) first = first
    go (q ∷ qs) (suc place) first = go qs place first

pub none_left : (list rest : List Record) (place : ℕ) → rest ≡ drop place list → place ≤ length list → rest ≡ [] → place ≡ length list
none_left list rest place is within none = let long = sym (length-drop place list) ∙ ap length (sym is ∙ none) in omega (arith, within, long)

pub one_left_less : (list rest new : List Record) (q : Record) (place : ℕ) → rest ≡ drop place list → rest ≡ q ∷ new → new ≡ drop (place + 1) list
one_left_less list rest new q place is next = ap (drop 1) (sym next ∙ is) ∙ drop-drop 1 place list

-- the first that is left
pub first_is : (rest new : List Record) (q r : Record) → rest ≡ q ∷ new → slice_get rest 0 ≡ Some r → q ≡ r
first_is rest new q r next first = same_Some _ _ (ap (λ rs. slice_get rs 0) (sym next) ∙ first)

-- whether the next record repeats a name

pub fresh_at : (list : List Record) (place : ℕ) (repeat : Option ℕ) → IsFirstRepeatedNameIfAny list repeat → ((k : ℕ) → repeat ≡ Some k → place ≤ k) → (repeat ≡ Some place → ⊥) → ¬ (RepeatsNameAt list place)
fresh_at list place None none ahead other = none place
fresh_at list place (Some k) first ahead other = go (cases_order place k)
  where
    go : (place ≡ k) ⊎ ((place < k) ⊎ (k < place)) → ¬ (RepeatsNameAt list place)
    go (inl same) d = other (ap Some (sym same))
    go (inr (inl less)) d = first.none_before place less d
    go (inr (inr more)) d = let le = ahead k refl in absurd (omega (arith, le, more))

pub repeats_here : (list : List Record) (place : ℕ) (repeat : Option ℕ) → IsFirstRepeatedNameIfAny list repeat → repeat ≡ Some place → RepeatsNameAt list place
repeats_here list place repeat first e = (subst (IsFirstRepeatedNameIfAny list) e first).repeats

pub ahead_more : (place : ℕ) (repeat : Option ℕ) → ((k : ℕ) → repeat ≡ Some k → place ≤ k) → (repeat ≡ Some place → ⊥) → (k : ℕ) → repeat ≡ Some k → place + 1 ≤ k
ahead_more place repeat ahead other k e = go (cases_order place k)
  where
    go : (place ≡ k) ⊎ ((place < k) ⊎ (k < place)) → place + 1 ≤ k
    go (inl same) = absurd (other (e ∙ ap Some (sym same)))
    go (inr (inl less)) = omega arith
    go (inr (inr more)) = let le = ahead k e in absurd (omega (arith, le, more))

-- what a call wrote through a slice is all that there is
pub written : {X : Type 0} (new old : List X) (n : ℕ) → n ≡ length old → length new ≡ length old → take n (new ++ drop (length new) old) ≡ new
written new old n whole long =
    (λ i. take ((whole ∙ sym long) i) (new ++ drop (length new) old)) ∙ Rattle.std.proofs.Math.Seq.take-append_seam new (drop (length new) old)
