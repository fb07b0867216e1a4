-- Files whose last line no line feed ends.
use Rattle.std.proofs.Common.{◌≡◌, ◌∙◌, ◌↔◌, ℕ, Bool, true, false, not, eqb, List, length, IsTrue, refl, sym, ap}
use Rattle.std.proofs.lemmas.Bool.{eqb-true, eq-eqb}
use Rattle.edi_line.proofs.Cut.{lines_exist, lines_unique}
use Rattle.edi_line.specs.inner.Lines.{lines_in}
use Rattle.edi_explain.specs.Cuts.{IsCutAt, is_ended}

module _ (bytes : List ℕ) (at : ℕ) where
  pub cut_here : eqb at (length (lines_in bytes)) ≡ true → is_ended bytes ≡ false → IsCutAt bytes at
  cut_here e f = record { lines = lines_in bytes; are_lines = lines_exist bytes; last = eqb-true _ _ e; unended = f }

  pub counted_cut : IsCutAt bytes at → eqb at (length (lines_in bytes)) ≡ true
  counted_cut h = eq-eqb at (length (lines_in bytes)) (h.last ∙ ap length (lines_unique bytes h.lines h.are_lines))

  pub cut_told : (r : Bool) → r ≡ is_ended bytes → eqb at (length (lines_in bytes)) ≡ true → IsTrue (not r) ↔ IsCutAt bytes at
  cut_told true v e = (λ t. absurd cc, λ h. let f : true ≡ false = v ∙ h.unended in cc)
  cut_told false v e = (λ t. cut_here e (sym v), λ h. refl)
