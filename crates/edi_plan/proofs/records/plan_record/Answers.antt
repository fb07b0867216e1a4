use Rattle.std.proofs.Common.{◌≡◌, ◌∙◌, List, true, Some, is_none, refl, sym, ap, subst, Any}
use Rattle.std.specs.List.{AllZip, list_any}
use Rattle.edi_line.specs.inner.Refusal.{first_broken}
use Rattle.edi_record.specs.Records.{is_link}
use Rattle.edi_record.specs.declared.record.Attribute.{Attribute}
use Rattle.edi_record.specs.LinkEnds.{EndData}
use Rattle.edi_schema.specs.declared.role.Role.{Role}
use Rattle.edi_plan.specs.inner.Resolving.{AreGiven, IsUnresolved, HasNoAttributeClass, Resolves, lacks_class, leaves, reference_tests, role_of_link}
use Rattle.edi_plan.specs.inner.SideTable.{IsNoted, link_join, link_tests}
use Rattle.edi_plan.proofs.Resolved.{role_there, zip_states}
use Rattle.edi_plan.proofs.RuleLemmas.{any_true, lacks_true}
use Rattle.edi_plan.proofs.StepLemmas.{err_kept, unresolved_map, stop_303, stop_304, stop_305, pass, none_lacks, none_missing, link_same, role_of_true, role_of_false}
use Rattle.edi_plan.proofs.records.plan_record.Goals as goal
use Rattle.edi_plan.proofs.records.plan_record.Goals.{then-is_link+in_ok-note_link, else-is_link}

pub returns-in_err-attributes-clause-least : goal.returns-in_err-attributes-clause-least
returns-in_err-attributes-clause-least c =
    let class = sym c.requires.class ∙ c.in-Some.is in
    let tests = reference_tests c.args.schema.now c.args.subset.now c.args.targets.now c.args.sides.now c.args.record.now in
    err_kept _ c.in_err-attributes.field-0.0 (IsUnresolved (λ rule. first_broken tests ≡ Some rule)) c.from_residual.ensures.1
    (unresolved_map (λ rule. (rule ≡ 303) × Any (HasNoAttributeClass c.args.schema.now) c.args.record.now.attributes) (λ rule. first_broken tests ≡ Some rule)
    (λ rule h. stop_303 c.args.schema.now c.args.subset.now c.args.targets.now c.args.sides.now c.args.record.now (ap is_none class) (any_true (HasNoAttributeClass c.args.schema.now) (lacks_class c.args.schema.now) (lacks_true c.args.schema.now) c.args.record.now.attributes h.1) ∙ ap Some (sym h.0))
    c.in_err-attributes.field-0.0
    (subst (λ (xs : List Attribute). IsUnresolved (λ rule. (rule ≡ 303) × Any (HasNoAttributeClass c.args.schema.now) xs) c.in_err-attributes.field-0.0) c.attributes.ensures c.in_err-attributes.ensures.err))

pub returns-then-leaves_subset-clause-least : goal.returns-then-leaves_subset-clause-least
returns-then-leaves_subset-clause-least c =
    let class = sym c.requires.class ∙ c.in-Some.is in
    let found = none_lacks c.args.schema.now c.args.record.now.attributes c.in_ok-attributes.attributes.items (subst (λ (xs : List Attribute). AllZip (Resolves c.args.schema.now) xs c.in_ok-attributes.attributes.items) c.attributes.ensures c.in_ok-attributes.ensures.ok) in
    stop_304 c.args.schema.now c.args.subset.now c.args.targets.now c.args.sides.now c.args.record.now (ap is_none class) found (ap (leaves c.args.subset.now) (sym c.ends.ensures) ∙ (sym c.leaves_subset.ensures ∙ c.if-leaves_subset.true))

pub returns-in_err-ends-clause-least : goal.returns-in_err-ends-clause-least
returns-in_err-ends-clause-least c =
    let class = sym c.requires.class ∙ c.in-Some.is in
    let found = none_lacks c.args.schema.now c.args.record.now.attributes c.in_ok-attributes.attributes.items (subst (λ (xs : List Attribute). AllZip (Resolves c.args.schema.now) xs c.in_ok-attributes.attributes.items) c.attributes.ensures c.in_ok-attributes.ensures.ok) in
    let stays = ap (leaves c.args.subset.now) (sym c.ends.ensures) ∙ (sym c.leaves_subset.ensures ∙ c.if-leaves_subset.false) in
    let tests = reference_tests c.args.schema.now c.args.subset.now c.args.targets.now c.args.sides.now c.args.record.now in
    err_kept _ c.in_err-ends.field-0.0 (IsUnresolved (λ rule. first_broken tests ≡ Some rule)) c.from_residual-in_err-ends.ensures.1
    (unresolved_map (λ rule. (rule ≡ 305) × (list_any is_none c.args.targets.now ≡ true)) (λ rule. first_broken tests ≡ Some rule)
    (λ rule h. stop_305 c.args.schema.now c.args.subset.now c.args.targets.now c.args.sides.now c.args.record.now (ap is_none class) found stays h.1 ∙ ap Some (sym h.0))
    c.in_err-ends.field-0.0 c.in_err-ends.ensures.err)

pub returns-in_err-note_link-clause-least : goal.returns-in_err-note_link-clause-least
returns-in_err-note_link-clause-least c =
    let s = c.args.schema.now in
    let r = c.args.record.now in
    let class = sym c.requires.class ∙ c.in-Some.is in
    let found = none_lacks s r.attributes c.in_ok-attributes.attributes.items (subst (λ (xs : List Attribute). AllZip (Resolves c.args.schema.now) xs c.in_ok-attributes.attributes.items) c.attributes.ensures c.in_ok-attributes.ensures.ok) in
    let stays = ap (leaves c.args.subset.now) (sym c.ends.ensures) ∙ (sym c.leaves_subset.ensures ∙ c.if-leaves_subset.false) in
    let there = none_missing c.args.targets.now r.ends c.in_ok-ends.ends.items (subst (λ (xs : List EndData). AreGiven c.args.targets.now xs c.in_ok-ends.ends.items) c.ends-2.ensures c.in_ok-ends.ensures.ok) in
    let role = role_of_true s r c.role-role.result (sym (link_same r.kind) ∙ (ap is_link (sym c.kind.ensures) ∙ (sym c.is_link.ensures ∙ c.if-is_link.true))) (role_there s r.scp c.in-Some.class class ∙ ap Some (sym c.role-role.ensures)) in
    let tests = reference_tests s c.args.subset.now c.args.targets.now c.args.sides.now r in
    err_kept _ c.in_err-note_link.field-0.0 (IsUnresolved (λ rule. first_broken tests ≡ Some rule)) c.from_residual-in_err-note_link.ensures.1
    (unresolved_map (λ rule. first_broken (link_tests c.args.sides.now c.role-role.result c.args.targets.now) ≡ Some rule) (λ rule. first_broken tests ≡ Some rule)
    (λ rule h. pass c.args.schema.now c.args.subset.now c.args.targets.now c.args.sides.now c.args.record.now (ap is_none class) found stays there ∙ (ap (λ (o : Role). first_broken (link_tests c.args.sides.now o c.args.targets.now)) role ∙ h))
    c.in_err-note_link.field-0.0 c.in_err-note_link.ensures.least)

pub returns-clause-planned : goal.returns-clause-planned
returns-clause-planned c =
    let s = c.args.schema.now in
    let r = c.args.record.now in
    let class = sym c.requires.class ∙ c.in-Some.is in
    record {
      kind = c.kind-kind.ensures;
      class = class;
      role = role_there s r.scp c.in-Some.class class ∙ ap Some (sym c.role-role.ensures);
      attributes = zip_states s r.attributes c.in_ok-attributes.attributes.items (subst (λ (xs : List Attribute). AllZip (Resolves s) xs c.in_ok-attributes.attributes.items) c.attributes.ensures c.in_ok-attributes.ensures.ok);
      ends = subst (λ (xs : List EndData). AreGiven c.args.targets.now xs c.in_ok-ends.ends.items) c.ends-2.ensures c.in_ok-ends.ensures.ok;
    }

pub returns-clause-noted : goal.returns-clause-noted
returns-clause-noted c =
    let s = c.args.schema.now in
    let r = c.args.record.now in
    let class = sym c.requires.class ∙ c.in-Some.is in
    let named = role_there s r.scp c.in-Some.class class ∙ ap Some (sym c.role-role.ensures) in
    elim c.if-is_link.branch [
      | then-is_link+in_ok-note_link w ↦
          let role = role_of_true s r c.role-role.result (sym (link_same r.kind) ∙ (ap is_link (sym c.kind.ensures) ∙ (sym c.is_link.ensures ∙ w.if-is_link.true))) named in
          subst (IsNoted c.args.sides.now (role_of_link s r) (link_join (role_of_link s r) c.args.targets.now)) (sym w.sides-is)
          (subst (λ (o : Role). IsNoted c.args.sides.now o (link_join o c.args.targets.now) w.note_link.new.sides) (sym role) w.in_ok-note_link.ensures.noted)
      | else-is_link w ↦
          let role = role_of_false s r (sym (link_same r.kind) ∙ (ap is_link (sym c.kind.ensures) ∙ (sym c.is_link.ensures ∙ w.if-is_link.false))) in
          subst (IsNoted c.args.sides.now (role_of_link s r) (link_join (role_of_link s r) c.args.targets.now)) (sym w.sides-is)
          (subst (λ (o : Role). IsNoted c.args.sides.now o (link_join o c.args.targets.now) c.args.sides.now) (sym role) (record { long = refl; each = λ a o h. refl }))
    ]

pub returns-clause-sound : goal.returns-clause-sound
returns-clause-sound c =
    let s = c.args.schema.now in
    let r = c.args.record.now in
    let class = sym c.requires.class ∙ c.in-Some.is in
    let found = none_lacks s r.attributes c.in_ok-attributes.attributes.items (subst (λ (xs : List Attribute). AllZip (Resolves c.args.schema.now) xs c.in_ok-attributes.attributes.items) c.attributes.ensures c.in_ok-attributes.ensures.ok) in
    let stays = ap (leaves c.args.subset.now) (sym c.ends.ensures) ∙ (sym c.leaves_subset.ensures ∙ c.if-leaves_subset.false) in
    let there = none_missing c.args.targets.now r.ends c.in_ok-ends.ends.items (subst (λ (xs : List EndData). AreGiven c.args.targets.now xs c.in_ok-ends.ends.items) c.ends-2.ensures c.in_ok-ends.ensures.ok) in
    let named = role_there s r.scp c.in-Some.class class ∙ ap Some (sym c.role-role.ensures) in
    let past = pass c.args.schema.now c.args.subset.now c.args.targets.now c.args.sides.now c.args.record.now (ap is_none class) found stays there in
    elim c.if-is_link.branch [
      | then-is_link+in_ok-note_link w ↦
          past ∙ (ap (λ (o : Role). first_broken (link_tests c.args.sides.now o c.args.targets.now)) (role_of_true s r c.role-role.result (sym (link_same r.kind) ∙ (ap is_link (sym c.kind.ensures) ∙ (sym c.is_link.ensures ∙ w.if-is_link.true))) named) ∙ w.in_ok-note_link.ensures.sound)
      | else-is_link w ↦
          past ∙ ap (λ (o : Role). first_broken (link_tests c.args.sides.now o c.args.targets.now)) (role_of_false s r (sym (link_same r.kind) ∙ (ap is_link (sym c.kind.ensures) ∙ (sym c.is_link.ensures ∙ w.if-is_link.false))))
    ]
