use Rattle.std.proofs.Common.{sym, ◌∙◌, subst, map}
use Rattle.std.specs.List.{IsDistinct}
use Rattle.std.proofs.lemmas.Result.{err_from_is_err_and}
use Rattle.edi_schema.specs.Classes.{is_name}
use Rattle.edi_schema.specs.inner.Drafts.{definition_said}
use Rattle.edi_schema.specs.inner.Steps.{IsFirstRepeat}
use Rattle.edi_schema.specs.inner.Steps.StopsAt.{class_unidentified, word_unidentified, class_repeats, word_repeats, lacks_word}
use Rattle.edi_schema.proofs.Stopping.{if_stops, all_identified, one_unidentified, names_again, same_keys}
use Rattle.edi_schema.proofs.schema.stated_classes.Goals as goal

pub returns-in_err-check_identifiers-clause-stopped : goal.returns-in_err-check_identifiers-clause-stopped
returns-in_err-check_identifiers-clause-stopped c =
    let p = err_from_is_err_and c.from_residual.result c.from_residual.ensures.1 in
    rw (p.1, p.2) (if_stops _ _ c.in_err-check_identifiers.field-0.0 c.in_err-check_identifiers.ensures.lacks
    (λ file rule at h. class_unidentified h.0 h.1 (one_unidentified c.args.classes.now at h.2)))

pub returns-in_err-check_identifiers-2-clause-stopped : goal.returns-in_err-check_identifiers-2-clause-stopped
returns-in_err-check_identifiers-2-clause-stopped c =
    let p = err_from_is_err_and c.from_residual-in_err-check_identifiers-2.result c.from_residual-in_err-check_identifiers-2.ensures.1 in
    rw (p.1, p.2) (if_stops _ _ c.in_err-check_identifiers-2.field-0.0 c.in_err-check_identifiers-2.ensures.lacks
    (λ file rule at h. word_unidentified h.0 h.1 (all_identified c.args.classes.now c.in_ok-check_identifiers.ensures.ok) (one_unidentified c.args.words.now at h.2)))

pub returns-in_err-titles-clause-stopped : goal.returns-in_err-titles-clause-stopped
returns-in_err-titles-clause-stopped c =
    let p = err_from_is_err_and c.from_residual-in_err-titles.result c.from_residual-in_err-titles.ensures.1 in
    rw (p.1, p.2) (if_stops _ _ c.in_err-titles.field-0.0 c.in_err-titles.ensures.repeat
    (λ file rule at h. class_repeats h.0 h.1 (all_identified c.args.classes.now c.in_ok-check_identifiers.ensures.ok) (all_identified c.args.words.now c.in_ok-check_identifiers-2.ensures.ok)
    (subst (λ ns. IsFirstRepeat ns at) (names_again c.args.classes.now) h.2)))

pub returns-in_err-names-clause-stopped : goal.returns-in_err-names-clause-stopped
returns-in_err-names-clause-stopped c =
    let p = err_from_is_err_and c.from_residual-in_err-names.result c.from_residual-in_err-names.ensures.1 in
    rw (p.1, p.2) (if_stops _ _ c.in_err-names.field-0.0 c.in_err-names.ensures.repeat
    (λ file rule at h. word_repeats h.0 h.1 (all_identified c.args.classes.now c.in_ok-check_identifiers.ensures.ok) (all_identified c.args.words.now c.in_ok-check_identifiers-2.ensures.ok)
    (subst (IsDistinct is_name) (names_again c.args.classes.now) c.in_ok-titles.ensures.distinct) (subst (λ ns. IsFirstRepeat ns at) (names_again c.args.words.now) h.2)))

pub returns-in_err-drafts-clause-stopped : goal.returns-in_err-drafts-clause-stopped
returns-in_err-drafts-clause-stopped c =
    let p = err_from_is_err_and c.from_residual-in_err-drafts.result c.from_residual-in_err-drafts.ensures.1 in
    rw (p.1, p.2) (if_stops _ _ c.in_err-drafts.field-0.0 c.in_err-drafts.ensures.lacking
    (λ file rule at h. lacks_word h.0 h.1 (record {
      classes_identified = all_identified c.args.classes.now c.in_ok-check_identifiers.ensures.ok;
      words_identified = all_identified c.args.words.now c.in_ok-check_identifiers-2.ensures.ok;
      classes_distinct = subst (IsDistinct is_name) (names_again c.args.classes.now) c.in_ok-titles.ensures.distinct;
      words_distinct = subst (IsDistinct is_name) (names_again c.args.words.now) c.in_ok-names.ensures.distinct;
    }) h.2))

pub sorted_by_name-requires : goal.sorted_by_name-requires
sorted_by_name-requires c =
    subst (IsDistinct is_name) (names_again c.args.classes.now ∙ sym (same_keys c.args.kinds.now (map definition_said c.args.words.now) (map definition_said c.args.classes.now) _ c.in_ok-drafts.ensures.drafts)) c.in_ok-titles.ensures.distinct

pub returns-clause-stated : goal.returns-clause-stated
returns-clause-stated c = record {
  named = record {
    classes_identified = all_identified c.args.classes.now c.in_ok-check_identifiers.ensures.ok;
    words_identified = all_identified c.args.words.now c.in_ok-check_identifiers-2.ensures.ok;
    classes_distinct = subst (IsDistinct is_name) (names_again c.args.classes.now) c.in_ok-titles.ensures.distinct;
    words_distinct = subst (IsDistinct is_name) (names_again c.args.words.now) c.in_ok-names.ensures.distinct;
  };
  stated = _;
  each = c.in_ok-drafts.ensures.drafts;
  same = c.sorted_by_name.ensures.permutation;
  in_order = c.sorted_by_name.ensures.rises;
}
