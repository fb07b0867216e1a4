use Rattle.std.proofs.Common.{◌≡◌, ◌∙◌, ◌≤◌, ◌+◌, ◌&&◌, ◌||◌, ◌∷◌, [], List, add-one, not, is_none, is_some, length, length-append, take, drop, sym, ap, subst, arith}
use Rattle.std.specs.List.{AllZip, list_any}
use Rattle.edi_record.specs.LinkEnds.{EndData}
use Rattle.edi_schema.specs.Roles.{is_plain, same_role}
use Rattle.edi_schema.specs.declared.role.Role.{Role}
use Rattle.edi_plan.specs.inner.Findings.{AreSided, EachAt, IsLinkFinding, is_arc_at, is_sided}
use Rattle.edi_plan.specs.inner.SideTable.{link_join, side_at}
use Rattle.edi_plan.specs.inner.Targets.{AreTargets, IsTargetIfAny}
use Rattle.edi_plan.specs.declared.link_findings.LinkFindings.{LinkFindings}
use Rattle.edi_plan.proofs.FindingLemmas.{each_of_none, each_pushed, found_here, next_sided, none_sided_yet}
use Rattle.edi_plan.proofs.RecordLemmas.{cut_at, enough_targets, entries_there, later_targets, own_targets, written}
use Rattle.edi_plan.proofs.link_findings.link_findings.Goals as goal

pub split_at-requires : goal.split_at-requires
split_at-requires c =
    let records = c.args.records.now in
    let n = c.loop-place.place in
    let r = c.record-record.result in
    let next = cut_at records n r c.record-record.ensures in
    let enough = enough_targets records (drop n records) (drop (n + 1) records) r next c.loop-place.left.now c.loop-place.invariant.left in
    subst (λ (es : List EndData). length es ≤ length c.loop-place.left.now) (sym c.ends.ensures) enough

pub repeats_side-requires : goal.repeats_side-requires
repeats_side-requires c =
    let records = c.args.records.now in
    let n = c.loop-place.place in
    let r = c.record-record.result in
    let next = cut_at records n r c.record-record.ensures in
    let is : c.split_at.result.0.now ≡ take (length r.ends) c.loop-place.left.now = c.split_at.ensures.front ∙ ap (λ (es : List EndData). take (length es) c.loop-place.left.now) c.ends.ensures in
    let own = subst (AllZip (IsTargetIfAny records) r.ends) (sym is) (own_targets records (drop n records) (drop (n + 1) records) r next c.loop-place.left.now c.loop-place.invariant.left) in
    entries_there records c.deref.result.now r.ends c.split_at.result.0.now (ap length c.deref.ensures.value ∙ c.loop-place.invariant.sided.long) own

pub note_arcs-requires : goal.note_arcs-requires
note_arcs-requires c =
    let records = c.args.records.now in
    let n = c.loop-place.place in
    let r = c.record-record.result in
    let next = cut_at records n r c.record-record.ensures in
    let is : c.split_at.result.0.now ≡ take (length r.ends) c.loop-place.left.now = c.split_at.ensures.front ∙ ap (λ (es : List EndData). take (length es) c.loop-place.left.now) c.ends.ensures in
    let own = subst (AllZip (IsTargetIfAny records) r.ends) (sym is) (own_targets records (drop n records) (drop (n + 1) records) r next c.loop-place.left.now c.loop-place.invariant.left) in
    entries_there records c.deref_mut.result.now r.ends c.split_at.result.0.now (ap length c.deref_mut.ensures.value ∙ c.loop-place.invariant.sided.long) own

pub loop-place-preserved : goal.loop-place-preserved
loop-place-preserved c =
    let s = c.args.schema.now in
    let records = c.args.records.now in
    let n = c.loop-place.place in
    let r = c.record-record.result in
    let here = c.record-record.ensures in
    let i = c.loop-place.invariant in
    let table = c.loop-place.sides.items in
    let new = c.note_arcs.new.sides in
    let ts = c.split_at.result.0.now in
    let next = cut_at records n r here in
    let is : ts ≡ take (length r.ends) c.loop-place.left.now = c.split_at.ensures.front ∙ ap (λ (es : List EndData). take (length es) c.loop-place.left.now) c.ends.ensures in
    let own = subst (AllZip (IsTargetIfAny records) r.ends) (sym is) (own_targets records (drop n records) (drop (n + 1) records) r next c.loop-place.left.now i.left) in
    let role = c.link_role-role.ensures in
    let f : LinkFindings = record { names_nothing = c.names_nothing.result; joins_wrong = c.joins_wrong.result; repeats_side = c.repeats_side.result } in
    let finding = found_here s records n r here ts own table i.sided f c.names_nothing.ensures
    (c.joins_wrong.ensures ∙ ap (λ (o : Role). not (is_plain o) && is_none (link_join o ts)) role)
    (c.repeats_side.ensures ∙ (λ j. list_any (is_sided (c.deref.ensures.value j) (role j)) ts)) in
    let long = c.note_arcs.ensures.long ∙ ap length c.deref_mut.ensures.value in
    let sided = next_sided s records n r here ts own table i.sided new long
    (λ a o plain. c.note_arcs.ensures.each a o plain ∙ (λ j. is_some (side_at (c.deref_mut.ensures.value j) a o) || (same_role o (role j) && list_any (is_arc_at a) ts))) in
    record {
      left = subst (AreTargets records (drop (n + 1) records)) (sym (c.split_at.ensures.back ∙ ap (λ (es : List EndData). drop (length es) c.loop-place.left.now) c.ends.ensures))
          (later_targets records (drop n records) (drop (n + 1) records) r next c.loop-place.left.now i.left);
      sided = subst (AreSided s records (n + 1)) (sym (written new table c.loop-place.sides.len c.loop-place.sides.ok.0 long)) (subst (λ k. AreSided s records k new) (sym (add-one n)) sided);
      long = ap length c.in_ok-push.ensures.items ∙ (length-append c.loop-place.found.items (f ∷ []) ∙ ap (λ k. k + 1) i.long);
      each =
          subst (EachAt (IsLinkFinding s records)) (sym c.in_ok-push.ensures.items)
          (each_pushed (IsLinkFinding s records) c.loop-place.found.items f i.each (subst (λ k. IsLinkFinding s records k f) (sym i.long) finding));
    }

pub loop-place-init : goal.loop-place-init
loop-place-init c = record {
  left = c.requires.targets;
  sided = none_sided_yet c.args.schema.now c.args.records.now c.in_ok-sides.sides.items _ c.len.ensures.len c.in_ok-sides.ensures;
  long = ap length c.in_ok-found.ensures.items;
  each = each_of_none (IsLinkFinding c.args.schema.now c.args.records.now) c.in_ok-found.found.items c.in_ok-found.ensures.items;
}

pub returns : goal.returns
returns c = record {
  long = omega (arith, c.loop-place.invariant.long, c.len-place-end.ensures.len, c.loop-place-test.false, c.loop-place.auto.place-end);
  each = c.loop-place.invariant.each;
}
