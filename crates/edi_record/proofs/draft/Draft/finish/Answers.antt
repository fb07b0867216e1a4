use Rattle.std.proofs.Common.{◌≡◌, ◌∙◌, [], List, false, not, is_some, refl, ap, codes, Some, arith}
use Rattle.std.proofs.lemmas.Bool.{or_from, or_left, or_right}
use Rattle.edi_line.specs.ZoneData.{ZoneData}
use Rattle.edi_record.specs.Records.{values}
use Rattle.edi_record.specs.RecordRules.{has_no_identifier}
use Rattle.edi_record.specs.inner.RecordRules.{kind_in, has_no_class, has_bad_point, has_bad_end, has_unknown_pointer}
use Rattle.edi_record.specs.inner.RecordRefusal.{IsGroupRefusal}
use Rattle.edi_record.specs.inner.Stored.{StoresRecord, kept}
use Rattle.edi_record.proofs.Parts.{type_is}
use Rattle.edi_record.proofs.RecordMade.{wrong_counts, no_201, least_205, least_206, least_207, least_208, none_broken_in, breach_least, err_kept}
use Rattle.edi_record.proofs.draft.Draft.finish.Goals as goal
use Rattle.edi_record.proofs.draft.Draft.finish.Goals.{then-is_wrong-via-then-is_wrong, then-is_wrong-via-else-is_wrong+then-is_body_wrong}

pub returns-then-is_wrong-clause-least : goal.returns-then-is_wrong-clause-least
returns-then-is_wrong-clause-least c = λ group k h.
    let d = kept c.args.self.now c.args.parts.now in
    let n1 = no_201 d.kind group k in
    let n2 : has_no_identifier group ≡ false = ap not (c.in-Some.ensures (values (codes "RID") group) h.identifier).0 in
    let n3 : has_no_class group ≡ false = ap not (c.in-Some-class_of.ensures (values (codes "SCP") group) h.class).0 in
    let n4 = c.in_ok-finish.ensures.sound c.args.parts.now.attributes.items group h.attributes in
    least_205 group n1 n2 n3 n4 (elim c.then-is_wrong.branch [
      | then-is_wrong-via-then-is_wrong w ↦
          wrong_counts d.kind group c.args.parts.now.attributes.items c.len.result d.counted c.is_wrong.result _ k (c.in_ok-finish.ensures.states c.args.parts.now.attributes.items group h.attributes)
          (omega (arith, c.len.ensures, c.args.parts.now.attributes.ok.0)) h.counted_points h.counted_ends (c.is_wrong.ensures (values (codes "ATC") group) h.attribute_count) refl
          ∙ or_left _ _ w.if-is_wrong.true
      | then-is_wrong-via-else-is_wrong+then-is_body_wrong w ↦
          wrong_counts d.kind group c.args.parts.now.attributes.items c.len.result d.counted c.is_wrong.result w.is_body_wrong.result k (c.in_ok-finish.ensures.states c.args.parts.now.attributes.items group h.attributes)
          (omega (arith, c.len.ensures, c.args.parts.now.attributes.ok.0)) h.counted_points h.counted_ends (c.is_wrong.ensures (values (codes "ATC") group) h.attribute_count) (w.is_body_wrong.ensures (values (codes "PTC") group) (values (codes "FTC") group) h.point_count h.end_count)
          ∙ or_right _ _ w.if-is_body_wrong.true
    ])

pub returns-in_err-finish-2-clause-least : goal.returns-in_err-finish-2-clause-least
returns-in_err-finish-2-clause-least c =
    let d = kept c.args.self.now c.args.parts.now in
    err_kept _ c.in_err-finish-2.field-0.0 (λ fault. (group : List ZoneData) → kind_in group ≡ Some d.kind → StoresRecord d [] group → IsGroupRefusal group fault) c.from_residual-in_err-finish-2.ensures.1 (λ group k h.
    let n1 = no_201 d.kind group k in
    let n2 : has_no_identifier group ≡ false = ap not (c.in-Some.ensures (values (codes "RID") group) h.identifier).0 in
    let n3 : has_no_class group ≡ false = ap not (c.in-Some-class_of.ensures (values (codes "SCP") group) h.class).0 in
    let n4 = c.in_ok-finish.ensures.sound c.args.parts.now.attributes.items group h.attributes in
    let n5 =
    wrong_counts d.kind group c.args.parts.now.attributes.items c.len.result d.counted c.is_wrong.result c.is_body_wrong.result k (c.in_ok-finish.ensures.states c.args.parts.now.attributes.items group h.attributes)
    (omega (arith, c.len.ensures, c.args.parts.now.attributes.ok.0)) h.counted_points h.counted_ends (c.is_wrong.ensures (values (codes "ATC") group) h.attribute_count)
    (c.is_body_wrong.ensures (values (codes "PTC") group) (values (codes "FTC") group) h.point_count h.end_count)
    ∙ or_from c.is_wrong.result c.is_body_wrong.result c.if-is_wrong.false c.if-is_body_wrong.false in
    breach_least 206 (has_bad_point group) group c.in_err-finish-2.field-0.0 (least_206 group n1 n2 n3 n4 n5) (c.in_err-finish-2.ensures.breach group k h.points))

pub returns-in_err-finish-3-clause-least : goal.returns-in_err-finish-3-clause-least
returns-in_err-finish-3-clause-least c =
    let d = kept c.args.self.now c.args.parts.now in
    err_kept _ c.in_err-finish-3.field-0.0 (λ fault. (group : List ZoneData) → kind_in group ≡ Some d.kind → StoresRecord d [] group → IsGroupRefusal group fault) c.from_residual-in_err-finish-3.ensures.1 (λ group k h.
    let n1 = no_201 d.kind group k in
    let n2 : has_no_identifier group ≡ false = ap not (c.in-Some.ensures (values (codes "RID") group) h.identifier).0 in
    let n3 : has_no_class group ≡ false = ap not (c.in-Some-class_of.ensures (values (codes "SCP") group) h.class).0 in
    let n4 = c.in_ok-finish.ensures.sound c.args.parts.now.attributes.items group h.attributes in
    let n5 =
    wrong_counts d.kind group c.args.parts.now.attributes.items c.len.result d.counted c.is_wrong.result c.is_body_wrong.result k (c.in_ok-finish.ensures.states c.args.parts.now.attributes.items group h.attributes)
    (omega (arith, c.len.ensures, c.args.parts.now.attributes.ok.0)) h.counted_points h.counted_ends (c.is_wrong.ensures (values (codes "ATC") group) h.attribute_count)
    (c.is_body_wrong.ensures (values (codes "PTC") group) (values (codes "FTC") group) h.point_count h.end_count)
    ∙ or_from c.is_wrong.result c.is_body_wrong.result c.if-is_wrong.false c.if-is_body_wrong.false in
    let n6 = c.in_ok-finish-2.ensures.sound group k h.points in
    breach_least 207 (has_bad_end group) group c.in_err-finish-3.field-0.0 (least_207 group n1 n2 n3 n4 n5 n6) (c.in_err-finish-3.ensures.breach group k h.ends))

pub returns-in_err-finish-4-clause-least : goal.returns-in_err-finish-4-clause-least
returns-in_err-finish-4-clause-least c =
    let d = kept c.args.self.now c.args.parts.now in
    err_kept _ c.in_err-finish-4.field-0.0 (λ fault. (group : List ZoneData) → kind_in group ≡ Some d.kind → StoresRecord d [] group → IsGroupRefusal group fault) c.from_residual-in_err-finish-4.ensures.1 (λ group k h.
    let n1 = no_201 d.kind group k in
    let n2 : has_no_identifier group ≡ false = ap not (c.in-Some.ensures (values (codes "RID") group) h.identifier).0 in
    let n3 : has_no_class group ≡ false = ap not (c.in-Some-class_of.ensures (values (codes "SCP") group) h.class).0 in
    let n4 = c.in_ok-finish.ensures.sound c.args.parts.now.attributes.items group h.attributes in
    let n5 =
    wrong_counts d.kind group c.args.parts.now.attributes.items c.len.result d.counted c.is_wrong.result c.is_body_wrong.result k (c.in_ok-finish.ensures.states c.args.parts.now.attributes.items group h.attributes)
    (omega (arith, c.len.ensures, c.args.parts.now.attributes.ok.0)) h.counted_points h.counted_ends (c.is_wrong.ensures (values (codes "ATC") group) h.attribute_count)
    (c.is_body_wrong.ensures (values (codes "PTC") group) (values (codes "FTC") group) h.point_count h.end_count)
    ∙ or_from c.is_wrong.result c.is_body_wrong.result c.if-is_wrong.false c.if-is_body_wrong.false in
    let n6 = c.in_ok-finish-2.ensures.sound group k h.points in
    let n7 = c.in_ok-finish-3.ensures.sound group k h.ends in
    breach_least 208 (has_unknown_pointer group) group c.in_err-finish-4.field-0.0 (least_208 group n1 n2 n3 n4 n5 n6 n7) (c.in_err-finish-4.ensures.breach d.kind (is_some d.attributes.opened) c.args.parts.now.extras.items group k (h.extras c.in_ok-finish.ensures.unbroken)))

pub returns-clause-sound : goal.returns-clause-sound
returns-clause-sound c = λ group k h.
    let d = kept c.args.self.now c.args.parts.now in
    let n1 = no_201 d.kind group k in
    let n2 : has_no_identifier group ≡ false = ap not (c.in-Some.ensures (values (codes "RID") group) h.identifier).0 in
    let n3 : has_no_class group ≡ false = ap not (c.in-Some-class_of.ensures (values (codes "SCP") group) h.class).0 in
    let n4 = c.in_ok-finish.ensures.sound c.args.parts.now.attributes.items group h.attributes in
    let n5 =
    wrong_counts d.kind group c.args.parts.now.attributes.items c.len.result d.counted c.is_wrong.result c.is_body_wrong.result k (c.in_ok-finish.ensures.states c.args.parts.now.attributes.items group h.attributes)
    (omega (arith, c.len.ensures, c.args.parts.now.attributes.ok.0)) h.counted_points h.counted_ends (c.is_wrong.ensures (values (codes "ATC") group) h.attribute_count)
    (c.is_body_wrong.ensures (values (codes "PTC") group) (values (codes "FTC") group) h.point_count h.end_count)
    ∙ or_from c.is_wrong.result c.is_body_wrong.result c.if-is_wrong.false c.if-is_body_wrong.false in
    let n6 = c.in_ok-finish-2.ensures.sound group k h.points in
    let n7 = c.in_ok-finish-3.ensures.sound group k h.ends in
    none_broken_in group n1 n2 n3 n4 n5 n6 n7 (c.in_ok-finish-4.ensures.sound d.kind (is_some d.attributes.opened) c.args.parts.now.extras.items group k (h.extras c.in_ok-finish.ensures.unbroken))

pub returns-clause-states : goal.returns-clause-states
returns-clause-states c = λ group one k h.
    let d = kept c.args.self.now c.args.parts.now in
    record {
      type = type_is (values (codes "RTY") group) d.kind one k;
      rid = (c.in-Some.ensures (values (codes "RID") group) h.identifier).1;
      scp = (c.in-Some-class_of.ensures (values (codes "SCP") group) h.class).1;
      points = c.in_ok-finish-2.ensures.states group h.points;
      ends = c.in_ok-finish-3.ensures.states group h.ends;
      attributes = c.in_ok-finish.ensures.states c.args.parts.now.attributes.items group h.attributes;
      extras = c.in_ok-finish-4.ensures.states d.kind (is_some d.attributes.opened) c.args.parts.now.extras.items group (h.extras c.in_ok-finish.ensures.unbroken);
    }
