use Rattle.std.proofs.Common.{map}
use Rattle.std.proofs.lemmas.Result.{err_from_is_err_and}
use Rattle.edi_line.specs.ZoneData.{entries}
use Rattle.edi_schema.specs.inner.Drafts.{definition_said, drafted}
use Rattle.edi_schema.specs.inner.Steps.{AreMatched}
use Rattle.edi_schema.specs.SchemaRefusal.{IsGoodSchema, IsSchemaRefusal}
use Rattle.edi_schema.proofs.Loaded.{is_read, all_said, few_drafts, stated_borrowed, ok_good, err_refused, few_loaded, letters_loaded, readable_loaded, stop_refused, kinds_refused, good_loaded}
use Rattle.edi_schema.proofs.schema.Schema.load.Goals as goal

pub of_classes-requires-clause-few : goal.of_classes-requires-clause-few
of_classes-requires-clause-few c =
    few_drafts c.deref-5.result.now c.in_ok-drafts.drafts.items 9999999 c.deref-5.ensures.value
    (few_loaded c.args.scd.now c.args.dic.now c.args.kinds.now (entries c.deref.result.now) (entries c.deref-2.result.now)
    (is_read c.args.scd.now c.deref.result.now _ c.deref.ensures.value c.in_ok-class_zones.ensures.zones c.in_ok-class_zones.ensures.shape c.in_ok-class_zones.ensures.sound)
    (is_read c.args.dic.now c.deref-2.result.now _ c.deref-2.ensures.value c.in_ok-word_zones.ensures.zones c.in_ok-word_zones.ensures.shape c.in_ok-word_zones.ensures.sound)
    (map definition_said c.deref-3.result.now) (map definition_said c.deref-4.result.now)
    (all_said c.deref-3.result.now c.in_ok-classes.classes.items _ c.deref-3.ensures.value c.in_ok-classes.ensures)
    (all_said c.deref-4.result.now c.in_ok-words.words.items _ c.deref-4.ensures.value c.in_ok-words.ensures)
    (map drafted c.in_ok-drafts.drafts.items) c.in_ok-drafts.ensures.stated)

pub of_classes-requires-clause-letters : goal.of_classes-requires-clause-letters
of_classes-requires-clause-letters c =
    letters_loaded c.args.scd.now c.args.dic.now c.args.kinds.now (entries c.deref.result.now) (entries c.deref-2.result.now)
    (is_read c.args.scd.now c.deref.result.now _ c.deref.ensures.value c.in_ok-class_zones.ensures.zones c.in_ok-class_zones.ensures.shape c.in_ok-class_zones.ensures.sound)
    (is_read c.args.dic.now c.deref-2.result.now _ c.deref-2.ensures.value c.in_ok-word_zones.ensures.zones c.in_ok-word_zones.ensures.shape c.in_ok-word_zones.ensures.sound)
    (map definition_said c.deref-3.result.now) (map definition_said c.deref-4.result.now)
    (all_said c.deref-3.result.now c.in_ok-classes.classes.items _ c.deref-3.ensures.value c.in_ok-classes.ensures)
    (all_said c.deref-4.result.now c.in_ok-words.words.items _ c.deref-4.ensures.value c.in_ok-words.ensures)
    (map drafted c.deref-5.result.now) (stated_borrowed _ _ _ c.deref-5.result.now c.in_ok-drafts.drafts.items c.deref-5.ensures.value c.in_ok-drafts.ensures.stated)

pub of_classes-requires-clause-readable : goal.of_classes-requires-clause-readable
of_classes-requires-clause-readable c =
    readable_loaded c.args.scd.now c.args.dic.now c.args.kinds.now (entries c.deref.result.now) (entries c.deref-2.result.now)
    (is_read c.args.scd.now c.deref.result.now _ c.deref.ensures.value c.in_ok-class_zones.ensures.zones c.in_ok-class_zones.ensures.shape c.in_ok-class_zones.ensures.sound)
    (is_read c.args.dic.now c.deref-2.result.now _ c.deref-2.ensures.value c.in_ok-word_zones.ensures.zones c.in_ok-word_zones.ensures.shape c.in_ok-word_zones.ensures.sound)
    (map definition_said c.deref-3.result.now) (map definition_said c.deref-4.result.now)
    (all_said c.deref-3.result.now c.in_ok-classes.classes.items _ c.deref-3.ensures.value c.in_ok-classes.ensures)
    (all_said c.deref-4.result.now c.in_ok-words.words.items _ c.deref-4.ensures.value c.in_ok-words.ensures)
    (map drafted c.deref-5.result.now) (stated_borrowed _ _ _ c.deref-5.result.now c.in_ok-drafts.drafts.items c.deref-5.ensures.value c.in_ok-drafts.ensures.stated)

pub returns-in_err-drafts-clause-refusal : goal.returns-in_err-drafts-clause-refusal
returns-in_err-drafts-clause-refusal c =
    let p = err_from_is_err_and c.from_residual-in_err-drafts.result c.from_residual-in_err-drafts.ensures.1 in
    rw (p.1, p.2) (stop_refused c.args.scd.now c.args.dic.now c.args.kinds.now (entries c.deref.result.now) (entries c.deref-2.result.now)
    (is_read c.args.scd.now c.deref.result.now _ c.deref.ensures.value c.in_ok-class_zones.ensures.zones c.in_ok-class_zones.ensures.shape c.in_ok-class_zones.ensures.sound)
    (is_read c.args.dic.now c.deref-2.result.now _ c.deref-2.ensures.value c.in_ok-word_zones.ensures.zones c.in_ok-word_zones.ensures.shape c.in_ok-word_zones.ensures.sound)
    (map definition_said c.deref-3.result.now) (map definition_said c.deref-4.result.now)
    (all_said c.deref-3.result.now c.in_ok-classes.classes.items _ c.deref-3.ensures.value c.in_ok-classes.ensures)
    (all_said c.deref-4.result.now c.in_ok-words.words.items _ c.deref-4.ensures.value c.in_ok-words.ensures)
    c.in_err-drafts.field-0.0 c.in_err-drafts.ensures.stopped)

pub returns-clause-schema : goal.returns-clause-schema
returns-clause-schema c =
    ok_good c.of_classes.result (map drafted c.deref-5.result.now) (AreMatched (map drafted c.deref-5.result.now)) (IsGoodSchema c.args.scd.now c.args.dic.now c.args.kinds.now) c.of_classes.ensures.classes c.of_classes.ensures.paired
    (good_loaded c.args.scd.now c.args.dic.now c.args.kinds.now (entries c.deref.result.now) (entries c.deref-2.result.now)
    (is_read c.args.scd.now c.deref.result.now _ c.deref.ensures.value c.in_ok-class_zones.ensures.zones c.in_ok-class_zones.ensures.shape c.in_ok-class_zones.ensures.sound)
    (is_read c.args.dic.now c.deref-2.result.now _ c.deref-2.ensures.value c.in_ok-word_zones.ensures.zones c.in_ok-word_zones.ensures.shape c.in_ok-word_zones.ensures.sound)
    (map definition_said c.deref-3.result.now) (map definition_said c.deref-4.result.now)
    (all_said c.deref-3.result.now c.in_ok-classes.classes.items _ c.deref-3.ensures.value c.in_ok-classes.ensures)
    (all_said c.deref-4.result.now c.in_ok-words.words.items _ c.deref-4.ensures.value c.in_ok-words.ensures)
    (map drafted c.deref-5.result.now) (stated_borrowed _ _ _ c.deref-5.result.now c.in_ok-drafts.drafts.items c.deref-5.ensures.value c.in_ok-drafts.ensures.stated))

pub returns-clause-refusal : goal.returns-clause-refusal
returns-clause-refusal c =
    err_refused c.of_classes.result _ (IsSchemaRefusal c.args.scd.now c.args.dic.now c.args.kinds.now) c.of_classes.ensures.unpaired
    (λ e h. kinds_refused c.args.scd.now c.args.dic.now c.args.kinds.now (entries c.deref.result.now) (entries c.deref-2.result.now)
    (is_read c.args.scd.now c.deref.result.now _ c.deref.ensures.value c.in_ok-class_zones.ensures.zones c.in_ok-class_zones.ensures.shape c.in_ok-class_zones.ensures.sound)
    (is_read c.args.dic.now c.deref-2.result.now _ c.deref-2.ensures.value c.in_ok-word_zones.ensures.zones c.in_ok-word_zones.ensures.shape c.in_ok-word_zones.ensures.sound)
    (map definition_said c.deref-3.result.now) (map definition_said c.deref-4.result.now)
    (all_said c.deref-3.result.now c.in_ok-classes.classes.items _ c.deref-3.ensures.value c.in_ok-classes.ensures)
    (all_said c.deref-4.result.now c.in_ok-words.words.items _ c.deref-4.ensures.value c.in_ok-words.ensures)
    (map drafted c.deref-5.result.now) e (stated_borrowed _ _ _ c.deref-5.result.now c.in_ok-drafts.drafts.items c.deref-5.ensures.value c.in_ok-drafts.ensures.stated) h)
