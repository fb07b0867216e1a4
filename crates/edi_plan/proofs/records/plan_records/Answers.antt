use Rattle.std.proofs.Common.{rules, ◌≡◌, ◌≢◌, ◌∙◌, ◌++◌, ◌∷◌, refl, ◌+◌, ◌≤◌, ℕ, [], None, Some, true≢false, List, Option, sym, ap, subst, arith, length, take, drop}
use Rattle.std.proofs.lemmas.List.{length-replicate, take_all}
use Rattle.std.specs.List.{AllZip}
use Rattle.std.proofs.lemmas.Option.{slice_get_within}
use Rattle.edi_record.specs.LinkEnds.{EndData}
use Rattle.edi_plan.proofs.TargetLemmas.{zip_taken}
use Rattle.edi_line.specs.inner.Refusal.{first_broken}
use Rattle.edi_plan.specs.inner.Done.{IsDone, IsJoinIfAny}
use Rattle.edi_plan.specs.inner.SideTable.{side_at}
use Rattle.edi_schema.specs.ByRole.{of_role}
use Rattle.edi_schema.specs.declared.by_role.ByRole.{ByRole}
use Rattle.edi_plan.specs.PlanOf.{StatesPlanRecord}
use Rattle.edi_record.specs.RecordRefusal.{IsRecordRefusal}
use Rattle.edi_record.specs.declared.fault.RecordFault.{RecordFault}
use Rattle.edi_record.specs.declared.fault.RecordFault.TheVariants.{Broken}
use Rattle.edi_schema.specs.declared.role.Role.{Role}
use Rattle.edi_plan.specs.EarlierLinks.{IsEarlierLinkIfAny, IsLeastIfAny}
use Rattle.edi_plan.specs.ReferenceRules.{BreaksReferenceRule}
use Rattle.edi_plan.specs.inner.EarlierLinks.{IsOfSideAt}
use Rattle.edi_plan.proofs.EarlierLinks.{link_found}
use Rattle.edi_plan.specs.inner.Resolving.{reference_tests, IsUnresolved}
use Rattle.edi_plan.specs.inner.Targets.{IsTargetIfAny, AreTargets}
use Rattle.edi_plan.specs.inner.Planned.{planned_with}
use Rattle.edi_plan.specs.inner.RecordLists.{plan_records_of}
use Rattle.edi_plan.specs.declared.references.Subset.{Subset}
use Rattle.edi_plan.proofs.DoneLemmas.{least_here, refused_at, repeats_301, step_done}
use Rattle.edi_plan.proofs.RecordLemmas.{own_targets, later_targets, enough_targets, entries_there, record_stated, cut_at, first_is, got_there, left_there, none_left, one_left_less, fresh_at, repeats_here, ahead_more, written}
use Rattle.edi_plan.proofs.NewTable.{new_entries, nothing_of}
use Rattle.edi_plan.proofs.records.plan_records.Goals as goal

pub returns-then-is_place-clause-least : goal.returns-then-is_place-clause-least
returns-then-is_place-clause-least c =
    let s = c.args.schema.now in
    let list = c.args.records in
    let i = c.loop-record.invariant in
    subst (IsRecordRefusal (BreaksReferenceRule s list)) (sym c.broken_rule.ensures.fault)
    (refused_at s list c.loop-record.place c.loop-record.sides.items i.done 301
    (repeats_301 s list c.loop-record.place (repeats_here list c.loop-record.place c.args.references.now.repeat c.requires.references.repeat (c.is_place.ensures.0 c.if-is_place.true))))

pub split_at-requires : goal.split_at-requires
split_at-requires c =
    let here = left_there c.args.records c.loop-record.remaking.left c.loop-record.place c.in-Some.record c.loop-record.invariant.rest c.in-Some.ensures in
    let next = cut_at c.args.records c.loop-record.place c.in-Some.record here in
    let enough = enough_targets c.args.records (drop c.loop-record.place c.args.records) (drop (c.loop-record.place + 1) c.args.records) c.in-Some.record next c.loop-record.targets.now c.loop-record.invariant.left in
    subst (λ (es : List EndData). length es ≤ length c.loop-record.targets.now) (sym c.ends.ensures) enough

pub plan_record-requires-clause-entries : goal.plan_record-requires-clause-entries
plan_record-requires-clause-entries c =
    let i = c.loop-record.invariant in
    let here = left_there c.args.records c.loop-record.remaking.left c.loop-record.place c.in-Some.record i.rest c.in-Some.ensures in
    let next = cut_at c.args.records c.loop-record.place c.in-Some.record here in
    let own = own_targets c.args.records (drop c.loop-record.place c.args.records) (drop (c.loop-record.place + 1) c.args.records) c.in-Some.record next c.loop-record.targets.now i.left in
    let is : c.split_at.result.0.now ≡ take (length c.in-Some.record.ends) c.loop-record.targets.now = c.split_at.ensures.front ∙ ap (λ (es : List EndData). take (length es) c.loop-record.targets.now) c.ends.ensures in
    entries_there c.args.records c.deref_mut.result.now c.in-Some.record.ends c.split_at.result.0.now (ap length c.deref_mut.ensures.value ∙ i.done.long) (subst (AllZip (IsTargetIfAny c.args.records) c.in-Some.record.ends) (sym is) own)

pub returns-in-Err-Broken-clause-least : goal.returns-in-Err-Broken-clause-least
returns-in-Err-Broken-clause-least c =
    let s = c.args.schema.now in
    let list = c.args.records in
    let r = c.in-Some.record in
    let place = c.loop-record.place in
    let i = c.loop-record.invariant in
    let here = left_there list c.loop-record.remaking.left place r i.rest c.in-Some.ensures in
    let next = cut_at list place r here in
    let is : c.split_at.result.0.now ≡ take (length r.ends) c.loop-record.targets.now = c.split_at.ensures.front ∙ ap (λ (es : List EndData). take (length es) c.loop-record.targets.now) c.ends.ensures in
    let own = subst (AllZip (IsTargetIfAny list) r.ends) (sym is) (own_targets list (drop c.loop-record.place c.args.records) (drop (c.loop-record.place + 1) c.args.records) r next c.loop-record.targets.now i.left) in
    let before = subst (IsDone s list place) (sym c.deref_mut.ensures.value) i.done in
    let elsewhere = λ (e : c.args.references.now.repeat ≡ Some place). true≢false (sym (c.is_place.ensures.1 e) ∙ c.if-is_place.false) in
    let fresh = fresh_at list place c.args.references.now.repeat c.requires.references.repeat i.ahead elsewhere in
    let breaks = subst (IsUnresolved (λ rule. first_broken (reference_tests s c.args.references.now.subset c.split_at.result.0.now c.deref_mut.result.now r) ≡ Some rule)) c.in-Err-Broken.field-0-is c.in-Err-Broken.ensures.least in
    let named = subst (λ (x : Option Subset). first_broken (reference_tests s x c.split_at.result.0.now c.deref_mut.result.now r) ≡ Some c.in-Err-Broken.rule) c.requires.references.subset breaks in
    let refused = refused_at s list place c.deref_mut.result.now before c.in-Err-Broken.rule (least_here s list place r here c.split_at.result.0.now own c.deref_mut.result.now before c.in-Err-Broken.rule named fresh) in
    subst (IsRecordRefusal (BreaksReferenceRule s list)) (sym c.broken_rule-in-Err-Broken.ensures.fault) (rw c.in-Err-Broken.field-0-is refused)

pub returns-in-Err-Broken-clause-earlier : goal.returns-in-Err-Broken-clause-earlier
returns-in-Err-Broken-clause-earlier c =
    let s = c.args.schema.now in
    let list = c.args.records in
    let r = c.in-Some.record in
    let place = c.loop-record.place in
    let rule = c.in-Err-Broken.rule in
    let i = c.loop-record.invariant in
    let here = left_there list c.loop-record.remaking.left place r i.rest c.in-Some.ensures in
    let is : c.split_at.result.0.now ≡ take (length r.ends) c.loop-record.targets.now = c.split_at.ensures.front ∙ ap (λ (es : List EndData). take (length es) c.loop-record.targets.now) c.ends.ensures in
    let own = subst (AllZip (IsTargetIfAny list) r.ends) (sym is) (own_targets list (drop place list) (drop (place + 1) list) r (cut_at list place r here) c.loop-record.targets.now i.left) in
    let planned = plan_records_of c.into_made.result in
    let zipped = subst (λ es. AllZip (StatesPlanRecord s list) (take place list) (plan_records_of es)) (sym c.into_made.ensures) i.zipped in
    let told = c.broken_rule-in-Err-Broken.ensures in
    let fault : c.broken_rule-in-Err-Broken.result.fault ≡ Broken rule (place + 1) = told.fault ∙ rw c.in-Err-Broken.field-0-is refl in
    let least = subst (IsRecordRefusal (BreaksReferenceRule s list)) fault (returns-in-Err-Broken-clause-least c) in
    let found = λ (e : rule ≡ 307).
    link_found s list place r here c.split_at.result.0.now own planned zipped rule e least.is c.earlier_link-earlier.result
    (subst (λ (role : Role). IsLeastIfAny (IsOfSideAt planned role c.split_at.result.0.now) c.earlier_link-earlier.result) c.link_role-role.ensures
    (c.earlier_link-earlier.ensures.link (rw c.in-Err-Broken.field-0-is e))) in
    let others = λ (other : rule ≢ 307). c.earlier_link-earlier.ensures.others (rw c.in-Err-Broken.field-0-is other) in
    subst (λ (f : RecordFault). IsEarlierLinkIfAny s list f c.broken_rule-in-Err-Broken.result.earlier) (sym fault)
    (subst (IsEarlierLinkIfAny s list (Broken rule (place + 1))) (sym told.earlier) (found, others))

pub loop-record-preserved : goal.loop-record-preserved
loop-record-preserved c =
    let s = c.args.schema.now in
    let list = c.args.records in
    let r = c.in-Some.record in
    let place = c.loop-record.place in
    let i = c.loop-record.invariant in
    let here = left_there list c.loop-record.remaking.left place r i.rest c.in-Some.ensures in
    let next = cut_at list place r here in
    let is : c.split_at.result.0.now ≡ take (length r.ends) c.loop-record.targets.now = c.split_at.ensures.front ∙ ap (λ (es : List EndData). take (length es) c.loop-record.targets.now) c.ends.ensures in
    let own = subst (AllZip (IsTargetIfAny list) r.ends) (sym is) (own_targets list (drop c.loop-record.place c.args.records) (drop (c.loop-record.place + 1) c.args.records) r next c.loop-record.targets.now i.left) in
    let before = subst (IsDone s list place) (sym c.deref_mut.ensures.value) i.done in
    let elsewhere = λ (e : c.args.references.now.repeat ≡ Some place). true≢false (sym (c.is_place.ensures.1 e) ∙ c.if-is_place.false) in
    let fresh = fresh_at list place c.args.references.now.repeat c.requires.references.repeat i.ahead elsewhere in
    let sound = subst (λ (x : Option Subset). first_broken (reference_tests s x c.split_at.result.0.now c.deref_mut.result.now r) ≡ None) c.requires.references.subset c.in-Ok.ensures.sound in
    let done = step_done s list place r here c.split_at.result.0.now own c.deref_mut.result.now before c.plan_record.new.sides sound fresh c.in-Ok.ensures.noted in
    let states = record_stated s list r c.split_at.result.0.now c.in-Ok.planned own c.in-Ok.ensures.planned in
    let put = c.in_ok-spare-in-Ok.ensures in
    let made = plan_records_of c.loop-record.remaking.made in
    let same = first_is c.loop-record.remaking.left c.put.new.remaking.left put.0 r put.1 c.in-Some.ensures in
    record {
      same = c.class-class.ensures.same ∙ i.same;
      finders = c.in-Ok.ensures.same;
      there = let there = slice_get_within list place r here in omega (arith, there);
      rest = one_left_less list c.loop-record.remaking.left c.put.new.remaking.left put.0 place i.rest put.1;
      zipped =
          zip_taken (StatesPlanRecord s list) [] list place r made (planned_with c.in-Ok.planned r) (plan_records_of c.put.new.remaking.made) (slice_get_within list place r here) (got_there list place r here)
          (put.2 ∙ ap (λ q. made ++ planned_with c.in-Ok.planned q ∷ []) same) i.zipped states;
      ahead = ahead_more place c.args.references.now.repeat i.ahead elsewhere;
      left = subst (AreTargets list (drop (c.loop-record.place + 1) c.args.records)) (sym (c.split_at.ensures.back ∙ ap (λ (es : List EndData). drop (length es) c.loop-record.targets.now) c.ends.ensures))
          (later_targets list (drop c.loop-record.place c.args.records) (drop (c.loop-record.place + 1) c.args.records) r next c.loop-record.targets.now i.left);
      done = subst (IsDone s list (place + 1)) (sym (written c.plan_record.new.sides c.loop-record.sides.items c.loop-record.sides.len c.loop-record.sides.ok.0 (c.in-Ok.ensures.noted.long ∙ ap length c.deref_mut.ensures.value))) done;
    }

pub loop-record-init : goal.loop-record-init
loop-record-init c = record {
  same = c.new-classes.ensures;
  finders = c.new-attribute_classes.ensures;
  there = omega arith;
  rest = ap (λ v. v.left) c.into_remaking-remaking.ensures;
  zipped = subst (AllZip (StatesPlanRecord c.args.schema.now c.args.records) []) (sym (ap (λ v. plan_records_of v.made) c.into_remaking-remaking.ensures)) tt;
  ahead = search rules;
  left = search rules;
  done = record {
    long = ap length c.in_ok-sides.ensures ∙ (length-replicate _ _ ∙ c.len.ensures.len);
    unbroken = λ k rule less. absurd (omega (arith, less));
    joined = λ k r role less. absurd (omega (arith, less));
    noted = λ a role plain.
        subst (λ (table : List (ByRole (Option ℕ))). IsJoinIfAny c.args.schema.now c.args.records 0 a role (side_at table a role)) (sym c.in_ok-sides.ensures)
        (subst (IsJoinIfAny c.args.schema.now c.args.records 0 a role)
        (sym (ap (λ (v : ByRole (Option ℕ)). of_role v role) (new_entries _ a) ∙ nothing_of role))
        (λ x before. absurd (omega (arith, before.before))));
  };
}

pub returns-clause-sides : goal.returns-clause-sides
returns-clause-sides c =
    let all = none_left c.args.records c.loop-record.remaking.left c.loop-record.place c.loop-record.invariant.rest c.loop-record.invariant.there c.in_default.ensures in
    subst (λ n. IsDone c.args.schema.now c.args.records n c.loop-record.sides.items) all c.loop-record.invariant.done

pub returns-clause-each : goal.returns-clause-each
returns-clause-each c =
    let list = c.args.records in
    let all = none_left list c.loop-record.remaking.left c.loop-record.place c.loop-record.invariant.rest c.loop-record.invariant.there c.in_default.ensures in
    subst (λ es. AllZip (StatesPlanRecord c.args.schema.now list) list (plan_records_of es)) (sym c.into_made-2.ensures)
    (subst (λ rs. AllZip (StatesPlanRecord c.args.schema.now list) rs (plan_records_of c.loop-record.remaking.made)) (take_all c.loop-record.place list (omega (arith, all))) c.loop-record.invariant.zipped)
