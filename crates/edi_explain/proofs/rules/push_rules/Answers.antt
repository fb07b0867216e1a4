use Rattle.std.proofs.Common.{◌≡◌, ◌∙◌, ◌++◌, ◌+◌, ◌<◌, [], ◌∷◌, ℕ, List, ap, flat_map, get_or, length, map, sym, take}
use Rattle.std.proofs.lemmas.List.{flat_map_more, map-append, take_more}
use Rattle.edi_explain.specs.Explained.{rule_line}
use Rattle.edi_explain.specs.Texts.{words_of_text}
use Rattle.edi_explain.specs.declared.text.RuleText.{RuleText}
use Rattle.edi_explain.proofs.rules.push_rules.Goals as goal

words_more : (texts : List RuleText) (i : ℕ) (t : RuleText) → i < length texts → map words_of_text (take (i + 1) texts) ≡ map words_of_text (take i texts) ++ words_of_text (get_or texts i t) ∷ []
words_more texts i t less = ap (map words_of_text) (take_more texts i t less) ∙ map-append words_of_text (take i texts) (get_or texts i t ∷ [])

one_more : (old so_far new : List ℕ) (texts : List RuleText) (i : ℕ) (t : RuleText) → so_far ≡ old ++ flat_map rule_line (map words_of_text (take i texts)) → i < length texts
    → new ≡ so_far ++ rule_line (words_of_text (get_or texts i t)) → new ≡ old ++ flat_map rule_line (map words_of_text (take (i + 1) texts))
one_more old so_far new texts i t h less e =
    e
    ∙ (ap (λ l. l ++ rule_line (words_of_text (get_or texts i t))) h
    ∙ (flat_map_more rule_line old (map words_of_text (take i texts)) (words_of_text (get_or texts i t)) ∙ ap (λ l. old ++ flat_map rule_line l) (sym (words_more texts i t less))))

pub loop-text-preserved : goal.loop-text-preserved
loop-text-preserved c = one_more _ _ _ c.args.texts.now c.loop-text.text-index _ c.loop-text.invariant c.loop-text-test.true c.in_ok-push_rule.ensures
