use Rattle.std.proofs.Common.{◌≡◌, ◌∙◌, ◌∷◌, [], ◌+◌, drop, inl, refl, sym, ap, subst, codes, Some}
use Rattle.std.proofs.lemmas.Slice.Eq.{bytes_eq-Decides}
use Rattle.edi_line.specs.ZoneData.{entry, entries}
use Rattle.edi_line.specs.Zones.{before_end, groups_of}
use Rattle.edi_record.specs.inner.RecordRules.{kind_in}
use Rattle.edi_record.specs.inner.RecordRefusal.{IsGroupRefusal}
use Rattle.edi_record.specs.inner.Stored.{StoresRecord, kept}
use Rattle.edi_record.proofs.GroupCuts.{head_kind, one_type, goes_on, stops, no_group}
use Rattle.edi_record.proofs.Loops.{next_zone, no_zone}
use Rattle.edi_record.proofs.RecordStored.{skipped}
use Rattle.edi_record.proofs.RecordMade.{err_kept}
use Rattle.edi_record.proofs.stating.record_of.Goals as goal
use Rattle.edi_record.proofs.stating.record_of.Goals.{else-loop-zone-test, then-loop-zone-test+then-ends_record}

pub loop-zone-init : goal.loop-zone-init
loop-zone-init c =
    let head = entry c.args.head.now in
    let left = before_end (entries c.args.behind.now) in
    record {
      own = refl;
      kind = refl;
      keeps = skipped (kept c.new-draft.result c.args.parts.now) head left (head ∷ left) (inl ((bytes_eq-Decides head.code (codes "RTY")).0 c.requires.begins)) (c.new-draft.ensures.keeps c.args.parts.now (head ∷ left) c.requires.empty);
      left = refl;
    }

pub loop-zone-preserved : goal.loop-zone-preserved
loop-zone-preserved c =
    let so_far = c.loop-zone.invariant in
    let zone = entry c.zone-item.result in
    let group = entry c.args.head.now ∷ before_end (entries c.args.behind.now) in
    let after = entries (drop (c.loop-zone.zone-index + 1) c.args.behind.now) in
    let next = next_zone c.args.behind.now c.loop-zone.zone-index c.zone-item.result c.loop-zone-test.true c.zone-item.is in
    let inner = sym c.ends_record.ensures ∙ c.if-ends_record.false in
    record {
      own = ap (λ n. n + 1) so_far.own;
      kind = c.in_ok-take.ensures.kind ∙ so_far.kind;
      keeps = c.in_ok-take.ensures.keeps (before_end after) group (subst (λ zs. StoresRecord (kept c.loop-zone.draft c.loop-zone.parts) zs group) (ap before_end next ∙ goes_on zone after inner) so_far.keeps);
      left = sym (ap groups_of next ∙ no_group zone after inner) ∙ so_far.left;
    }

pub returns-in_err-finish-clause-least : goal.returns-in_err-finish-clause-least
returns-in_err-finish-clause-least c =
    let head = entry c.args.head.now in
    let group = head ∷ before_end (entries c.args.behind.now) in
    let over : before_end (entries (drop c.loop-zone.zone-index c.args.behind.now)) ≡ [] = elim c.loop-zone-test.branch [
      | else-loop-zone-test w ↦ ap before_end (no_zone c.args.behind.now c.loop-zone.zone-index w.loop-zone-test.false)
      | then-loop-zone-test+then-ends_record w ↦ ap before_end (next_zone c.args.behind.now c.loop-zone.zone-index w.zone-item.result w.loop-zone-test.true w.zone-item.is) ∙ stops (entry w.zone-item.result) (entries (drop (c.loop-zone.zone-index + 1) c.args.behind.now)) (sym w.ends_record.ensures ∙ w.if-ends_record.true)
    ] in
    let kind : kind_in group ≡ Some c.loop-zone.draft.kind = head_kind head (before_end (entries c.args.behind.now)) c.as_slice.result.now c.in-Some.kind c.requires.begins c.as_slice.ensures.value c.in-Some.ensures ∙ ap (λ k. Some k) (sym c.new-draft.ensures.kind ∙ sym c.loop-zone.invariant.kind) in
    err_kept _ c.in_err-finish.field-0.0 (IsGroupRefusal group) c.from_residual-in_err-finish.ensures.1
    (c.in_err-finish.ensures.least group kind (subst (λ zs. StoresRecord (kept c.loop-zone.draft c.loop-zone.parts) zs group) over c.loop-zone.invariant.keeps))

pub returns-clause-states : goal.returns-clause-states
returns-clause-states c =
    let head = entry c.args.head.now in
    let group = head ∷ before_end (entries c.args.behind.now) in
    let over : before_end (entries (drop c.loop-zone.zone-index c.args.behind.now)) ≡ [] = elim c.loop-zone-test.branch [
      | else-loop-zone-test w ↦ ap before_end (no_zone c.args.behind.now c.loop-zone.zone-index w.loop-zone-test.false)
      | then-loop-zone-test+then-ends_record w ↦ ap before_end (next_zone c.args.behind.now c.loop-zone.zone-index w.zone-item.result w.loop-zone-test.true w.zone-item.is) ∙ stops (entry w.zone-item.result) (entries (drop (c.loop-zone.zone-index + 1) c.args.behind.now)) (sym w.ends_record.ensures ∙ w.if-ends_record.true)
    ] in
    let kind : kind_in group ≡ Some c.loop-zone.draft.kind = head_kind head (before_end (entries c.args.behind.now)) c.as_slice.result.now c.in-Some.kind c.requires.begins c.as_slice.ensures.value c.in-Some.ensures ∙ ap (λ k. Some k) (sym c.new-draft.ensures.kind ∙ sym c.loop-zone.invariant.kind) in
    c.in_ok-finish.ensures.states group (one_type head (entries c.args.behind.now) c.requires.begins) kind (subst (λ zs. StoresRecord (kept c.loop-zone.draft c.loop-zone.parts) zs group) over c.loop-zone.invariant.keeps)

pub returns-clause-sound : goal.returns-clause-sound
returns-clause-sound c =
    let head = entry c.args.head.now in
    let group = head ∷ before_end (entries c.args.behind.now) in
    let over : before_end (entries (drop c.loop-zone.zone-index c.args.behind.now)) ≡ [] = elim c.loop-zone-test.branch [
      | else-loop-zone-test w ↦ ap before_end (no_zone c.args.behind.now c.loop-zone.zone-index w.loop-zone-test.false)
      | then-loop-zone-test+then-ends_record w ↦ ap before_end (next_zone c.args.behind.now c.loop-zone.zone-index w.zone-item.result w.loop-zone-test.true w.zone-item.is) ∙ stops (entry w.zone-item.result) (entries (drop (c.loop-zone.zone-index + 1) c.args.behind.now)) (sym w.ends_record.ensures ∙ w.if-ends_record.true)
    ] in
    let kind : kind_in group ≡ Some c.loop-zone.draft.kind = head_kind head (before_end (entries c.args.behind.now)) c.as_slice.result.now c.in-Some.kind c.requires.begins c.as_slice.ensures.value c.in-Some.ensures ∙ ap (λ k. Some k) (sym c.new-draft.ensures.kind ∙ sym c.loop-zone.invariant.kind) in
    c.in_ok-finish.ensures.sound group kind (subst (λ zs. StoresRecord (kept c.loop-zone.draft c.loop-zone.parts) zs group) over c.loop-zone.invariant.keeps)
