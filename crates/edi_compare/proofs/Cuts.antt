-- The first file of a bundle, by what was cut from its front.
use Rattle.std.proofs.Common.{◌≡◌, ℕ, ◌+◌, true, false, List, ◌∷◌, ◌++◌, take, drop, refl, sym, ap, ◌∙◌, append_assoc}
use Rattle.std.specs.List.{concat}
use Rattle.std.proofs.lemmas.List.{drop-drop, append-nil}
use Rattle.std.proofs.Math.Seq.{take-add}
use Rattle.edi_line.specs.inner.Lines.{lines_in}
use Rattle.edi_compare.specs.Bundle.{is_last_line, first_file, later_files}

-- where the next line ends it
pub first_file_ends : (bytes : List ℕ) (at n : ℕ)
    → lines_in (drop at bytes) ≡ take n (drop at bytes) ∷ lines_in (drop n (drop at bytes))
    → is_last_line (take n (drop at bytes)) ≡ true
    → concat (first_file (lines_in bytes)) ≡ take at bytes ++ concat (first_file (lines_in (drop at bytes)))
    → later_files (lines_in bytes) ≡ later_files (lines_in (drop at bytes))
    → (take (at + n) bytes ≡ concat (first_file (lines_in bytes))) × (lines_in (drop (at + n) bytes) ≡ later_files (lines_in bytes))
first_file_ends bytes at n lines last file later = (
  rw (file, lines, last, append-nil (take n (drop at bytes))) (take-add at n bytes),
  rw (later, lines, last, ← drop-drop n at bytes) refl,
)

-- where it goes on
pub first_file_goes : (bytes : List ℕ) (at n : ℕ)
    → lines_in (drop at bytes) ≡ take n (drop at bytes) ∷ lines_in (drop n (drop at bytes))
    → is_last_line (take n (drop at bytes)) ≡ false
    → concat (first_file (lines_in bytes)) ≡ take at bytes ++ concat (first_file (lines_in (drop at bytes)))
    → later_files (lines_in bytes) ≡ later_files (lines_in (drop at bytes))
    → (concat (first_file (lines_in bytes)) ≡ take (at + n) bytes ++ concat (first_file (lines_in (drop (at + n) bytes))))
    × (later_files (lines_in bytes) ≡ later_files (lines_in (drop (at + n) bytes)))
first_file_goes bytes at n lines last file later =
    let step : lines_in (drop at bytes) ≡ take n (drop at bytes) ∷ lines_in (drop (at + n) bytes) = lines ∙ ap (λ w. take n (drop at bytes) ∷ lines_in w) (drop-drop n at bytes) in
    let parts = take-add at n bytes in
    let tail : take at bytes ++ concat (first_file (lines_in (drop at bytes))) ≡ take (at + n) bytes ++ concat (first_file (lines_in (drop (at + n) bytes))) =
    rw (step, last, parts) (sym (append_assoc (take at bytes) (take n (drop at bytes)) (concat (first_file (lines_in (drop (at + n) bytes)))))) in
    (file ∙ tail, later ∙ ap later_files step ∙ rw last refl)
