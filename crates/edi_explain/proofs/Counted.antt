-- The line of a refusal by 103, and whether its length counts characters.
use Rattle.std.proofs.Common.{◌≡◌, ◌∙◌, ◌-◌, ◌≤◌, ◌++◌, ◌∷◌, inl, inr, ℕ, suc, List, [], Some, None, Err, Option, option_map, length, slice_get, refl, sym, ap, subst, arith}
use Rattle.std.proofs.lemmas.Option.{slice_get-map, same_Some}
use Rattle.edi_line.proofs.Cut.{lines_exist, lines_unique}
use Rattle.edi_line.proofs.Heads.{read_103}
use Rattle.edi_line.proofs.Readings.{rule_read}
use Rattle.edi_line.specs.LineRules.{BreaksHere, BreaksIn, BreaksLineRule}
use Rattle.edi_line.specs.Lines.{content_of}
use Rattle.edi_line.specs.Refusal.{IsLeastBroken}
use Rattle.edi_line.specs.Spelling.{HasMore, Reading}
use Rattle.edi_line.specs.inner.Lines.{line_contents, lines_in}
use Rattle.edi_line.specs.inner.Spelling.{reading_of}
use Rattle.edi_line.specs.inner.Zones.{readings_of}
use Rattle.edi_explain.specs.Lengths.{CountsCharacters, IsMiscounted}

-- a line breaks 103 by itself alone
own_rule : (before : List Reading) (line : Reading) → BreaksHere before line 103 → line ≡ Err 103
own_rule before line (inl e) = e
own_rule before line (inr (inl h)) = absurd (omega (arith, h.0))
own_rule before line (inr (inr (inl h))) = absurd (omega (arith, h.0))
own_rule before line (inr (inr (inr (inl h)))) = absurd (omega (arith, h.0))
own_rule before line (inr (inr (inr (inr (inl h))))) = absurd (omega (arith, h.0))
own_rule before line (inr (inr (inr (inr (inr (inl h)))))) = absurd (omega (arith, h.0))
own_rule before line (inr (inr (inr (inr (inr (inr h)))))) = absurd (omega (arith, h.0))

at_cut : {X : Type 0} (xs front after : List X) (x : X) (n : ℕ) → xs ≡ front ++ x ∷ after → n ≡ length front → slice_get xs n ≡ Some x
at_cut xs [] after x n e f = ap (slice_get xs) f ∙ ap (λ l. slice_get l 0) e
at_cut xs (y ∷ front) after x n e f = ap (slice_get xs) f ∙ (ap (λ l. slice_get l (suc (length front))) e ∙ at_cut (front ++ x ∷ after) front after x (length front) refl refl)

module _ (bytes : List ℕ) (rule at : ℕ) (least : IsLeastBroken (BreaksLineRule bytes) rule at) (is : rule ≡ 103) where
  -- the refused line has a number, and more behind its value
  refused_line : (1 ≤ at) × (slice_get (readings_of bytes) (at - 1) ≡ Some (Err 103))
  refused_line = go (rule_read bytes rule at least.is)
    where
      go : BreaksIn (readings_of bytes) rule at → (1 ≤ at) × (slice_get (readings_of bytes) (at - 1) ≡ Some (Err 103))
      go (inl h) = (omega (arith, h.place_is), at_cut (readings_of bytes) h.before h.after h.line (at - 1) h.cut (omega (arith, h.place_is)) ∙ ap Some (own_rule h.before h.line (subst (BreaksHere h.before h.line) is h.breaks)))
      go (inr h) = absurd (omega (arith, h.0, is))

  pub refused_more : (content : List ℕ) → slice_get (line_contents bytes) (at - 1) ≡ Some content → HasMore content
  refused_more content there =
      (read_103 content).0 (same_Some _ _ (sym (slice_get-map reading_of (line_contents bytes) (at - 1) ∙ ap (option_map reading_of) there) ∙ refused_line.1))

  pub counts_here : (content : List ℕ) → slice_get (line_contents bytes) (at - 1) ≡ Some content → IsMiscounted content → CountsCharacters bytes at
  counts_here content there h = go (slice_get (lines_in bytes) (at - 1)) refl
    where
      go : (o : Option (List ℕ)) → slice_get (lines_in bytes) (at - 1) ≡ o → CountsCharacters bytes at
      go (Some line) e = record {
        lines = lines_in bytes;
        are_lines = lines_exist bytes;
        line = line;
        from_one = refused_line.0;
        there = e;
        miscounted = subst IsMiscounted (same_Some _ _ (sym there ∙ (slice_get-map content_of (lines_in bytes) (at - 1) ∙ ap (option_map content_of) e))) h;
      }
      go None e = let none : None ≡ Some content = sym (slice_get-map content_of (lines_in bytes) (at - 1) ∙ ap (option_map content_of) e) ∙ there in absurd cc

module _ (bytes : List ℕ) (at : ℕ) where
  content_there : (h : CountsCharacters bytes at) → slice_get (line_contents bytes) (at - 1) ≡ Some (content_of h.line)
  content_there h = slice_get-map content_of (lines_in bytes) (at - 1) ∙ ap (option_map content_of) (ap (λ ls. slice_get ls (at - 1)) (sym (lines_unique bytes h.lines h.are_lines)) ∙ h.there)

  pub counted_here : (content : List ℕ) → slice_get (line_contents bytes) (at - 1) ≡ Some content → CountsCharacters bytes at → IsMiscounted content
  counted_here content there h = subst IsMiscounted (same_Some _ _ (sym (content_there h) ∙ there)) h.miscounted

  pub no_line : slice_get (line_contents bytes) (at - 1) ≡ None → ¬ (CountsCharacters bytes at)
  no_line none h = let some : None ≡ Some (content_of h.line) = sym none ∙ content_there h in cc
