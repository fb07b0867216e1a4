-- The words of a rule are those of one list or of the next; and they say which number it has.
use Rattle.std.specs.Prelude.{MatchOption, cond, option_map}
use Rattle.std.proofs.Common.{◌≡◌, ◌<◌, ◌+◌, ℕ, Bool, true, false, ◌||◌, List, [], ◌∷◌, ◌++◌, Option, Some, None, is_some, drop, flat_map, get_or, length, map, nat_eq, refl, sym, ap, ◌∙◌, subst}
use Rattle.std.proofs.lemmas.List.{drop_more}
use Rattle.std.proofs.lemmas.Bool.{eq-eqb, eqb-true, false≢true}
use Rattle.std.specs.Option.{option_or}
use Rattle.edi_explain.specs.Rules.{is_among, IsTextIfAny}
use Rattle.edi_explain.specs.Texts.{IsRuleText, RuleWords, rule_texts, words_among, words_of_text}
use Rattle.edi_explain.specs.declared.text.RuleText.{RuleText}

cond_or : (t : Bool) (w : RuleWords) (m n : Option RuleWords) → cond t (Some w) (option_or m n) ≡ option_or (cond t (Some w) m) n
cond_or true w m n = refl
cond_or false w m n = refl

find_either : (a b : List RuleWords) (rule : ℕ) → words_among (a ++ b) rule ≡ option_or (words_among a rule) (words_among b rule)
find_either [] b rule = refl
find_either (w ∷ ws) b rule =
    ap (cond (nat_eq w.rule rule) (Some w)) (find_either ws b rule) ∙ cond_or (nat_eq w.rule rule) w (words_among ws rule) (words_among b rule)

-- a text whose words are those of a rule among these has its number
at_head : (w : RuleWords) (ws : List RuleWords) (rule : ℕ) (found : Option RuleText) → w.rule ≡ rule → option_map words_of_text found ≡ Some w
    → IsTextIfAny (map (λ (x : RuleWords). x.rule) (w ∷ ws)) rule found
at_head w ws rule None same is = absurd (false≢true (ap is_some is))
at_head w ws rule (Some text) same is =
    (ap (λ b. b || is_among (map (λ (x : RuleWords). x.rule) ws) rule) (eq-eqb rule w.rule (sym same)), number is)
  where
    number : Some (words_of_text text) ≡ Some w → text.rule ≡ rule
    number e = ap (λ (o : Option RuleWords). rule_or o) e ∙ same
      where
        rule_or : Option RuleWords → ℕ
        rule_or (Some x) = x.rule
        rule_or None = 0

numbered : (ws : List RuleWords) (rule : ℕ) (found : Option RuleText) → option_map words_of_text found ≡ words_among ws rule
    → IsTextIfAny (map (λ (w : RuleWords). w.rule) ws) rule found
numbered [] rule None is = refl
numbered [] rule (Some text) is = absurd (false≢true (sym (ap is_some is)))
numbered (w ∷ ws) rule found is = go (nat_eq w.rule rule) refl (numbered ws rule found)
  where
    other : (t : Bool) → nat_eq w.rule rule ≡ false → nat_eq rule w.rule ≡ t → nat_eq rule w.rule ≡ false
    other false e k = k
    other true e k = absurd (false≢true (sym e ∙ eq-eqb w.rule rule (sym (eqb-true rule w.rule k))))

    go : (t : Bool) → nat_eq w.rule rule ≡ t → (option_map words_of_text found ≡ words_among ws rule → IsTextIfAny (map (λ (x : RuleWords). x.rule) ws) rule found)
        → IsTextIfAny (map (λ (x : RuleWords). x.rule) (w ∷ ws)) rule found
    go true e more = at_head w ws rule found (eqb-true w.rule rule e) (is ∙ ap (λ b. cond b (Some w) (words_among ws rule)) e)
    go false e more =
        subst (λ (b : Bool). MatchOption found (b ≡ false) (λ text. (b ≡ true) × (text.rule ≡ rule)))
        (sym (ap (λ b. b || is_among (map (λ (x : RuleWords). x.rule) ws) rule) (other (nat_eq rule w.rule) e refl)))
        (more (is ∙ ap (λ b. cond b (Some w) (words_among ws rule)) e))

-- the words of a rule among all are its text
pub text_said : (rule : ℕ) (found : Option RuleText) → option_map words_of_text found ≡ words_among rule_texts rule → IsRuleText rule found
text_said rule found is = (numbered rule_texts rule found is, is)

-- over the lists of words that are left, of which the first was looked through
module _ {X : Type 0} (words : X → List RuleWords) (lists : List X) (i : ℕ) (d : X) (rule : ℕ) (less : i < length lists) (found : Option RuleText)
    (here : option_map words_of_text found ≡ words_among (words (get_or lists i d)) rule) where
  first_or_others : words_among (flat_map words (drop i lists)) rule ≡ option_or (option_map words_of_text found) (words_among (flat_map words (drop (i + 1) lists)) rule)
  first_or_others =
      ap (λ l. words_among (flat_map words l) rule) (drop_more lists i d less)
      ∙ (find_either (words (get_or lists i d)) (flat_map words (drop (i + 1) lists)) rule
      ∙ ap (λ o. option_or o (words_among (flat_map words (drop (i + 1) lists)) rule)) (sym here))

  pub in_first : (text : RuleText) → found ≡ Some text → words_among (flat_map words (drop i lists)) rule ≡ Some (words_of_text text)
  in_first text is =
      first_or_others ∙ ap (λ (o : Option RuleText). option_or (option_map words_of_text o) (words_among (flat_map words (drop (i + 1) lists)) rule)) is

  pub in_others : found ≡ None → words_among (flat_map words (drop i lists)) rule ≡ words_among (flat_map words (drop (i + 1) lists)) rule
  in_others is =
      first_or_others ∙ ap (λ (o : Option RuleText). option_or (option_map words_of_text o) (words_among (flat_map words (drop (i + 1) lists)) rule)) is
