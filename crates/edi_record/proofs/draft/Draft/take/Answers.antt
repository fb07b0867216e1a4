use Rattle.std.proofs.Common.{◌≡◌, ◌∙◌, ◌&&◌, true, false, refl, sym, ap, length, is_some, codes, bytes_eq, ◌+◌}
use Rattle.edi_line.specs.ZoneData.{entry}
use Rattle.edi_record.specs.Records.{values}
use Rattle.edi_record.specs.declared.role.ZoneRole.TheVariants.{Identifier, Class, AttributeCount, AttributeClass, AttributeSet, AttributeValue, BodyCount, Position, EndPointer, EndSense, Skipped, Unknown}
use Rattle.edi_record.specs.inner.Stored.{AreTexts, AreCounts, AreClassTexts, kept, kept_attributes, kept_extras}
use Rattle.edi_record.proofs.RecordStored.{text_taken, count_taken, others, has, no_set, extras_stay, extras_move, extras_beside_set, set_is_extra, extra_kept, body_count_taken, skipped, unknown_taken}
use Rattle.edi_record.proofs.Roles.{code_of, place_known, link_known, no_link}
use Rattle.edi_record.proofs.draft.Draft.take.Goals as goal

pub returns-in_ok-take_identifier-in-Identifier-clause-keeps : goal.returns-in_ok-take_identifier-in-Identifier-clause-keeps
returns-in_ok-take_identifier-in-Identifier-clause-keeps c = λ left group h.
    let d = kept c.args.self.now c.args.parts.now in
    let z = entry c.args.zone.now in
    let is : z.code ≡ codes "RID" = code_of d.kind z.code Identifier c.in-Identifier.ensures in
    let o = others (codes "RID") d z left group is h in
    record {
      identifier = text_taken AreTexts d.identifier c.take_identifier.new.stored (codes "RID") c.as_slice-text.result.now z left (values (codes "RID") group) (has (codes "RID") z is) c.as_slice-text.ensures.value c.in_ok-take_identifier-in-Identifier.ensures h.identifier;
      class = o.class refl;
      attribute_count = o.attribute_count refl;
      point_count = o.point_count refl;
      end_count = o.end_count refl;
      counted_points = o.counted_points refl;
      counted_ends = o.counted_ends refl;
      attributes = o.attributes refl refl (no_set d);
      points = o.points refl;
      ends = o.ends refl refl;
      extras = extras_stay (codes "RID") d z left group is refl refl (o.extras refl);
    }

pub returns-in_ok-take_class-in-Class-clause-keeps : goal.returns-in_ok-take_class-in-Class-clause-keeps
returns-in_ok-take_class-in-Class-clause-keeps c = λ left group h.
    let d = kept c.args.self.now c.args.parts.now in
    let z = entry c.args.zone.now in
    let is : z.code ≡ codes "SCP" = code_of d.kind z.code Class c.in-Class.ensures in
    let o = others (codes "SCP") d z left group is h in
    record {
      identifier = o.identifier refl;
      class = text_taken AreClassTexts d.class c.take_class.new.stored (codes "SCP") c.as_slice-text.result.now z left (values (codes "SCP") group) (has (codes "SCP") z is) c.as_slice-text.ensures.value c.in_ok-take_class-in-Class.ensures h.class;
      attribute_count = o.attribute_count refl;
      point_count = o.point_count refl;
      end_count = o.end_count refl;
      counted_points = o.counted_points refl;
      counted_ends = o.counted_ends refl;
      attributes = o.attributes refl refl (no_set d);
      points = o.points refl;
      ends = o.ends refl refl;
      extras = extras_stay (codes "SCP") d z left group is refl refl (o.extras refl);
    }

pub returns-in-AttributeCount-clause-keeps : goal.returns-in-AttributeCount-clause-keeps
returns-in-AttributeCount-clause-keeps c = λ left group h.
    let d = kept c.args.self.now c.args.parts.now in
    let z = entry c.args.zone.now in
    let is : z.code ≡ codes "ATC" = code_of d.kind z.code AttributeCount c.in-AttributeCount.ensures in
    let o = others (codes "ATC") d z left group is h in
    record {
      identifier = o.identifier refl;
      class = o.class refl;
      attribute_count = text_taken AreCounts d.attribute_count c.take_count.new.stored (codes "ATC") c.as_slice-text.result.now z left (values (codes "ATC") group) (has (codes "ATC") z is) c.as_slice-text.ensures.value c.take_count.ensures h.attribute_count;
      point_count = o.point_count refl;
      end_count = o.end_count refl;
      counted_points = o.counted_points refl;
      counted_ends = o.counted_ends refl;
      attributes = o.attributes refl refl (no_set d);
      points = o.points refl;
      ends = o.ends refl refl;
      extras = extras_stay (codes "ATC") d z left group is refl refl (o.extras refl);
    }

pub returns-in_ok-take_class-in-AttributeClass-clause-keeps : goal.returns-in_ok-take_class-in-AttributeClass-clause-keeps
returns-in_ok-take_class-in-AttributeClass-clause-keeps c = λ left group h.
    let d = kept c.args.self.now c.args.parts.now in
    let z = entry c.args.zone.now in
    let is : z.code ≡ codes "ATP" = code_of d.kind z.code AttributeClass c.in-AttributeClass.ensures in
    let o = others (codes "ATP") d z left group is h in
    record {
      identifier = o.identifier refl;
      class = o.class refl;
      attribute_count = o.attribute_count refl;
      point_count = o.point_count refl;
      end_count = o.end_count refl;
      counted_points = o.counted_points refl;
      counted_ends = o.counted_ends refl;
      attributes = c.in_ok-take_class-in-AttributeClass.ensures.keeps z left group (has (codes "ATP") z is) (sym c.as_slice-text.ensures.value) h.attributes;
      points = o.points refl;
      ends = o.ends refl refl;
      extras = extras_move true (codes "ATP") d (kept_attributes c.take_class-in-AttributeClass.new.self c.take_class-in-AttributeClass.new.list.items) z left group is refl c.in_ok-take_class-in-AttributeClass.ensures.opens (o.extras refl);
    }

pub returns-in_ok-take_value-in-AttributeValue-clause-keeps : goal.returns-in_ok-take_value-in-AttributeValue-clause-keeps
returns-in_ok-take_value-in-AttributeValue-clause-keeps c = λ left group h.
    let d = kept c.args.self.now c.args.parts.now in
    let z = entry c.args.zone.now in
    let is : z.code ≡ codes "ATV" = code_of d.kind z.code AttributeValue c.in-AttributeValue.ensures in
    let o = others (codes "ATV") d z left group is h in
    record {
      identifier = o.identifier refl;
      class = o.class refl;
      attribute_count = o.attribute_count refl;
      point_count = o.point_count refl;
      end_count = o.end_count refl;
      counted_points = o.counted_points refl;
      counted_ends = o.counted_ends refl;
      attributes = c.in_ok-take_value-in-AttributeValue.ensures.keeps z left group (has (codes "ATV") z is) (sym c.as_slice-text.ensures.value) h.attributes;
      points = o.points refl;
      ends = o.ends refl refl;
      extras = extras_move false (codes "ATV") d (kept_attributes c.take_value.new.self c.take_value.new.list.items) z left group is refl c.in_ok-take_value-in-AttributeValue.ensures.closes (o.extras refl);
    }

pub returns-in_ok-take_set-in-AttributeSet-clause-keeps : goal.returns-in_ok-take_set-in-AttributeSet-clause-keeps
returns-in_ok-take_set-in-AttributeSet-clause-keeps c = λ left group h.
    let d = kept c.args.self.now c.args.parts.now in
    let z = entry c.args.zone.now in
    let is : z.code ≡ codes "TEX" = code_of d.kind z.code AttributeSet c.in-AttributeSet.ensures in
    let o = others (codes "TEX") d z left group is h in
    record {
      identifier = o.identifier refl;
      class = o.class refl;
      attribute_count = o.attribute_count refl;
      point_count = o.point_count refl;
      end_count = o.end_count refl;
      counted_points = o.counted_points refl;
      counted_ends = o.counted_ends refl;
      attributes = c.in_ok-take_set-in-AttributeSet.ensures.keeps z left group (has (codes "TEX") z is) (sym c.as_slice-text.ensures.value) h.attributes;
      points = o.points refl;
      ends = o.ends refl refl;
      extras = extras_beside_set d (kept_attributes c.take_set.new.self c.take_set.new.list.items) z left group is (sym c.is_open.ensures ∙ c.if-is_open.true) c.in_ok-take_set-in-AttributeSet.ensures.opens h.extras;
    }

pub returns-in_ok-take-in-AttributeSet-2-clause-keeps : goal.returns-in_ok-take-in-AttributeSet-2-clause-keeps
returns-in_ok-take-in-AttributeSet-2-clause-keeps c = λ left group h.
    let d = kept c.args.self.now c.args.parts.now in
    let z = entry c.args.zone.now in
    let is : z.code ≡ codes "TEX" = code_of d.kind z.code AttributeSet c.in-AttributeSet.ensures in
    let o = others (codes "TEX") d z left group is h in
    let none : is_some d.attributes.opened ≡ false = sym c.is_open.ensures ∙ c.if-is_open.false in
    record {
      identifier = o.identifier refl;
      class = o.class refl;
      attribute_count = o.attribute_count refl;
      point_count = o.point_count refl;
      end_count = o.end_count refl;
      counted_points = o.counted_points refl;
      counted_ends = o.counted_ends refl;
      attributes = o.attributes refl refl (ap (λ b. b && bytes_eq (codes "TEX") (codes "TEX")) none);
      points = o.points refl;
      ends = o.ends refl refl;
      extras = extra_kept (codes "TEX") d (kept_extras c.take.new.self c.take.new.list.items) z left group is refl refl (set_is_extra d.kind (is_some d.attributes.opened) z is none) c.in_ok-take-in-AttributeSet-2.ensures h.extras;
    }

pub returns-in_ok-take-in-Position-clause-keeps : goal.returns-in_ok-take-in-Position-clause-keeps
returns-in_ok-take-in-Position-clause-keeps c = λ left group h.
    let d = kept c.args.self.now c.args.parts.now in
    let z = entry c.args.zone.now in
    let place = code_of d.kind z.code Position c.in-Position.ensures in
    let is : z.code ≡ codes "COR" = place.1 in
    let o = others (codes "COR") d z left group is h in
    record {
      identifier = o.identifier refl;
      class = o.class refl;
      attribute_count = o.attribute_count refl;
      point_count = o.point_count refl;
      end_count = o.end_count refl;
      counted_points = λ k. count_taken (codes "COR") d.counted (length (values (codes "COR") group)) z left (has (codes "COR") z is) (h.counted_points k) ∙ ap (λ n. n + length (values (codes "COR") left)) (sym c.in_ok-self-in-Position.ensures);
      counted_ends = λ k. absurd (no_link d.kind place.0 k);
      attributes = o.attributes refl refl (no_set d);
      points = λ k. c.in_ok-take-in-Position.ensures z left group (has (codes "COR") z is) (sym c.as_slice-text.ensures.value) (h.points k);
      ends = o.ends refl refl;
      extras = extras_stay (codes "COR") d z left group is refl refl (o.extras (place_known d.kind place.0));
    }

pub returns-in_ok-take_pointer-in-EndPointer-clause-keeps : goal.returns-in_ok-take_pointer-in-EndPointer-clause-keeps
returns-in_ok-take_pointer-in-EndPointer-clause-keeps c = λ left group h.
    let d = kept c.args.self.now c.args.parts.now in
    let z = entry c.args.zone.now in
    let link = code_of d.kind z.code EndPointer c.in-EndPointer.ensures in
    let is : z.code ≡ codes "FTP" = link.1 in
    let o = others (codes "FTP") d z left group is h in
    record {
      identifier = o.identifier refl;
      class = o.class refl;
      attribute_count = o.attribute_count refl;
      point_count = o.point_count refl;
      end_count = o.end_count refl;
      counted_points = λ k. absurd (no_link d.kind k link.0);
      counted_ends = λ k. count_taken (codes "FTP") d.counted (length (values (codes "FTP") group)) z left (has (codes "FTP") z is) (h.counted_ends k) ∙ ap (λ n. n + length (values (codes "FTP") left)) (sym c.in_ok-self-in-EndPointer.ensures);
      attributes = o.attributes refl refl (no_set d);
      points = o.points refl;
      ends = λ k. c.in_ok-take_pointer-in-EndPointer.ensures z left group (has (codes "FTP") z is) (sym c.as_slice-text.ensures.value) (h.ends k);
      extras = extras_stay (codes "FTP") d z left group is refl refl (o.extras (link_known d.kind (codes "FTP") link.0 refl));
    }

pub returns-in_ok-take_sense-in-EndSense-clause-keeps : goal.returns-in_ok-take_sense-in-EndSense-clause-keeps
returns-in_ok-take_sense-in-EndSense-clause-keeps c = λ left group h.
    let d = kept c.args.self.now c.args.parts.now in
    let z = entry c.args.zone.now in
    let link = code_of d.kind z.code EndSense c.in-EndSense.ensures in
    let is : z.code ≡ codes "SNS" = link.1 in
    let o = others (codes "SNS") d z left group is h in
    record {
      identifier = o.identifier refl;
      class = o.class refl;
      attribute_count = o.attribute_count refl;
      point_count = o.point_count refl;
      end_count = o.end_count refl;
      counted_points = o.counted_points refl;
      counted_ends = o.counted_ends refl;
      attributes = o.attributes refl refl (no_set d);
      points = o.points refl;
      ends = λ k. c.in_ok-take_sense-in-EndSense.ensures z left group (has (codes "SNS") z is) (sym c.as_slice-text.ensures.value) (h.ends k);
      extras = extras_stay (codes "SNS") d z left group is refl refl (o.extras (link_known d.kind (codes "SNS") link.0 refl));
    }

pub returns-in-BodyCount-clause-keeps : goal.returns-in-BodyCount-clause-keeps
returns-in-BodyCount-clause-keeps c = λ left group h.
    let d = kept c.args.self.now c.args.parts.now in
    let z = entry c.args.zone.now in
    body_count_taken d c.take_count-in-BodyCount.new.stored z left group c.as_slice-text.result.now (code_of d.kind z.code BodyCount c.in-BodyCount.ensures) c.as_slice-text.ensures.value c.take_count-in-BodyCount.ensures h

pub returns-in-Skipped-clause-keeps : goal.returns-in-Skipped-clause-keeps
returns-in-Skipped-clause-keeps c = λ left group h.
    let d = kept c.args.self.now c.args.parts.now in
    let z = entry c.args.zone.now in
    skipped d z left group (code_of d.kind z.code Skipped c.in-Skipped.ensures) h

pub returns-in_ok-take-in-Unknown-clause-keeps : goal.returns-in_ok-take-in-Unknown-clause-keeps
returns-in_ok-take-in-Unknown-clause-keeps c = λ left group h.
    let d = kept c.args.self.now c.args.parts.now in
    let z = entry c.args.zone.now in
    unknown_taken d (kept_extras c.take-in-Unknown.new.self c.take-in-Unknown.new.list.items) z left group (code_of d.kind z.code Unknown c.in-Unknown.ensures) c.in_ok-take-in-Unknown.ensures h
