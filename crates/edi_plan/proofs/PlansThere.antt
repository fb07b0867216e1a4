-- Records that break no rule of references state a plan.
use Rattle.std.proofs.Common.{◌≡◌, ℕ, suc, ◌-◌, ◌⊎◌, inl, inr, Bool, true, false, List, [], ◌∷◌, Option, Some, None, slice_get, refl, sym, ◌∙◌, subst, arith, Any, codes, ◌≢◌}
use Rattle.std.specs.List.{AllZip}
use Rattle.edi_line.specs.Refusal.{IsUnbroken}
use Rattle.edi_line.proofs.EachElement.{any_here, any_later}
use Rattle.edi_record.specs.LinkEnds.{EndData}
use Rattle.edi_record.specs.Records.{IsValueOf}
use Rattle.edi_record.specs.declared.record.Attribute.{Attribute}
use Rattle.edi_record.specs.declared.record.Kind.{Kind}
use Rattle.edi_record.specs.declared.record.Kind.TheVariants.{Lnk}
use Rattle.edi_record.specs.declared.record.Record.{Record}
use Rattle.edi_record.specs.declared.record.Value.{Value}
use Rattle.edi_record.specs.declared.record.Value.TheVariants.{Number, Bytes}
use Rattle.edi_record.specs.Records.{SheetData}
use Rattle.edi_record.specs.inner.Records.{value_of}
use Rattle.edi_record.proofs.Passes.{value_said}
use Rattle.edi_schema.specs.Classes.{Classes, place_of, role_of, is_number_named}
use Rattle.edi_plan.specs.PlanOf.{place_named, StatesPlanAttribute, StatesPlanEnd, StatesPlanRecord, IsPlanOf}
use Rattle.edi_plan.specs.Plans.{PlanData}
use Rattle.edi_plan.specs.ReferenceRules.{IsRecordAt, BreaksReferenceRule, Names}
use Rattle.edi_plan.specs.ReferenceRules.BreaksReferenceRule.{lacks_class, lacks_attribute_class, names_nothing}
use Rattle.edi_plan.specs.declared.record.PlanAttribute.{PlanAttribute}
use Rattle.edi_plan.specs.declared.record.PlanEnd.{PlanEnd}
use Rattle.edi_plan.specs.declared.record.PlanRecord.{PlanRecord}
use Rattle.edi_plan.proofs.Resolved.{role_there}

-- ---- lists of what is found

-- where each element has one or is bad, and none is bad
each_found : {X Y : Type 0} (P : X → Y → Type 0) (IsBad : X → Type 0) → ((x : X) → ((y : Y) × P x y) ⊎ IsBad x) → (xs : List X) → ¬ (Any IsBad xs) → (ys : List Y) × AllZip P xs ys
each_found P IsBad find [] none = ([], tt)
each_found {X = X} {Y = Y} P IsBad find (x ∷ xs) none = go (find x) (each_found P IsBad find xs (λ bad. none (any_later IsBad x xs bad)))
  where
    go : ((y : Y) × P x y) ⊎ IsBad x → ((ys : List Y) × AllZip P xs ys) → (ys : List Y) × AllZip P (x ∷ xs) ys
    go (inl y) more = (y.0 ∷ more.0, (y.1, more.1))
    go (inr bad) more = absurd (none (any_here IsBad x xs bad))

each_placed : {X Y : Type 0} (P : X → Y → Type 0) (xs : List X) → ((k : ℕ) (x : X) → slice_get xs k ≡ Some x → (y : Y) × P x y) → (ys : List Y) × AllZip P xs ys
each_placed P [] find = ([], tt)
each_placed P (x ∷ xs) find =
    let y = find 0 x refl in
    let more = each_placed P xs (λ k z e. find (suc k) z e) in
    (y.0 ∷ more.0, (y.1, more.1))

-- ---- values

value_under : (P Q : Type 0) → (P → Q) → (Q → P) → (text : List ℕ) (v : Value) → IsValueOf P text v → IsValueOf Q text v
value_under P Q to from text (Number m) h = (to h.0, h.1)
value_under P Q to from text (Bytes b) h = (h.0, λ q. h.1 (from q))

value_there : (o : Option Bool) (text : List ℕ) → (v : Value) × IsValueOf (o ≡ Some true) text v
value_there (Some true) text = (value_of true text, value_under (true ≡ true) (Some true ≡ Some true) (λ _. refl) (λ _. refl) text (value_of true text) (value_said true text))
value_there (Some false) text = (Bytes text, (refl, λ e. let f : Some false ≡ Some true = e in absurd cc))
value_there None text = (Bytes text, (refl, λ e. let f : ◌≡◌ {A = Option Bool} None (Some true) = e in absurd cc))

-- ---- a record

module _ (s : Classes) (list : List Record) where
  abbrev LacksClass : Attribute → Type 0
  LacksClass a = (a.atp.rty ≢ codes "ATT") ⊎ (place_of s a.atp ≡ None)

  abbrev LeadsNowhere : EndData → Type 0
  LeadsNowhere e = (place : ℕ) (kind : Kind) → Names s list e place kind → kind ≡ Lnk

  find_attribute : (a : Attribute) → ((p : PlanAttribute) × StatesPlanAttribute s a p) ⊎ LacksClass a
  find_attribute a = go (place_of s a.atp) refl
    where
      go : (o : Option ℕ) → place_of s a.atp ≡ o → ((p : PlanAttribute) × StatesPlanAttribute s a p) ⊎ LacksClass a
      go (Some class) e = let v = value_there (is_number_named s a.atp) a.atv in inl (record { atp = class; tex = a.tex; value = v.0 }, record { class = e; set = refl; value = v.1 })
      go None e = inr (inr e)

  find_end : (e : EndData) → ((p : PlanEnd) × StatesPlanEnd list e p) ⊎ LeadsNowhere e
  find_end e = go (place_named list e.target) refl
    where
      go : (o : Option ℕ) → place_named list e.target ≡ o → ((p : PlanEnd) × StatesPlanEnd list e p) ⊎ LeadsNowhere e
      go (Some place) f = inl (record { target = place; sns = e.sns }, record { target = f; sns = refl })
      go None f = inr (λ place kind names. let g : ◌≡◌ {A = Option ℕ} None (Some place) = sym f ∙ names.1 in absurd cc)

  module _ (hold : IsUnbroken (BreaksReferenceRule s list)) where
    record_there : (k : ℕ) (r : Record) → slice_get list k ≡ Some r → (p : PlanRecord) × StatesPlanRecord s list r p
    record_there k r here = go (place_of s r.scp) refl
      where
        at : IsRecordAt s list (suc k) r
        at = (omega arith, (let e : suc k - 1 ≡ k = omega arith in subst (λ j. slice_get list j ≡ Some r) (sym e) here))

        attributes : (ps : List PlanAttribute) × AllZip (StatesPlanAttribute s) r.attributes ps
        attributes = each_found (StatesPlanAttribute s) LacksClass find_attribute r.attributes (λ bad. hold 303 (suc k) (lacks_attribute_class refl (r, at, bad)))

        ends : (ps : List PlanEnd) × AllZip (StatesPlanEnd list) r.ends ps
        ends = each_found (StatesPlanEnd list) LeadsNowhere find_end r.ends (λ bad. hold 305 (suc k) (names_nothing refl (r, at, bad)))

        go : (o : Option ℕ) → place_of s r.scp ≡ o → (p : PlanRecord) × StatesPlanRecord s list r p
        go (Some class) e = (
          record { kind = r.kind; class = class; role = role_of s class; points = r.points; attributes = attributes.0; extras = r.extras; ends = ends.0 },
          record { kind = refl; class = e; role = role_there s r.scp class e; points = refl; attributes = attributes.1; extras = refl; ends = ends.1 },
        )
        go None e = absurd (hold 302 (suc k) (lacks_class refl (r, at, e)))

-- ---- a sheet

pub plan_there : (s : Classes) (sheet : SheetData) → IsUnbroken (BreaksReferenceRule s sheet.list) → (p : PlanData) × IsPlanOf s sheet p
plan_there s sheet hold =
    let found = each_placed (StatesPlanRecord s sheet.list) sheet.list (record_there s sheet.list hold) in
    (record { cse = sheet.cse; list = found.0 }, record { set = refl; each = found.1 })
