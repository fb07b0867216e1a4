-- Reading a text line by line.
use Rattle.std.proofs.Common.{◌≡◌, ◌∙◌, ℕ, List, [], ◌∷◌, ◌++◌, append_assoc, append-nil, refl, sym, subst, Option, Some, None, IfSome, option_map}
use Rattle.std.specs.List.{AllByRecursion}
use Rattle.edi_manifest.specs.LineReading.{ReadsLines, ReadsUpTo}
use Rattle.edi_manifest.specs.inner.Reading.{HasNoByte}

module _ {L : Type 0} (Reads : List ℕ → Option L → Type 0) where
  -- one line more
  pub read_on : (text : List ℕ) (lines : List L) (rest : List ℕ) → ReadsUpTo Reads text lines rest → (content behind : List ℕ) (line : L)
      → rest ≡ content ++ 10 ∷ behind → HasNoByte 10 content → Reads content (Some line) → ReadsUpTo Reads text (lines ++ line ∷ []) behind
  read_on text [] rest same content behind line cut lacks reads = (content, behind, sym same ∙ cut, lacks, reads, refl)
  read_on text (l ∷ lines) rest h content behind line cut lacks reads = (h.0, h.1, h.2, h.3, h.4, read_on h.1 lines rest h.5 content behind line cut lacks reads)

  -- what each line keeps is kept by all of them
  pub kept_up_to : (Keeps : List L → List ℕ → Type 0)
      → ((xs : List L) (content behind : List ℕ) (line : L) → HasNoByte 10 content → Reads content (Some line) → Keeps xs (content ++ 10 ∷ behind) → Keeps (xs ++ line ∷ []) behind)
      → (xs : List L) (text : List ℕ) (lines : List L) (rest : List ℕ) → Keeps xs text → ReadsUpTo Reads text lines rest → Keeps (xs ++ lines) rest
  kept_up_to Keeps step xs text [] rest keeps same = subst (λ (ys : List L). Keeps ys rest) (sym (append-nil xs)) (subst (Keeps xs) (sym same) keeps)
  kept_up_to Keeps step xs text (l ∷ lines) rest keeps h =
      let next = step xs h.0 h.1 l h.3 h.4 (subst (Keeps xs) h.2 keeps) in
      subst (λ (ys : List L). Keeps ys rest) (append_assoc xs (l ∷ []) lines) (kept_up_to Keeps step (xs ++ l ∷ []) h.1 lines rest next h.5)

  -- what holds of a line that is read holds of all
  all_up_to : (P : L → Type 0) → ((content : List ℕ) (line : L) → Reads content (Some line) → P line) → (text : List ℕ) (lines : List L) (rest : List ℕ)
      → ReadsUpTo Reads text lines rest → AllByRecursion P lines
  all_up_to P is text [] rest h = tt
  all_up_to P is text (l ∷ lines) rest h = (is h.0 l h.4, all_up_to P is h.1 lines rest h.5)

  pub all_lines : {X : Type 0} (items : X → List L) (P : L → Type 0) (text : List ℕ) (found : Option X) → ReadsLines Reads text (option_map items found)
      → ((content : List ℕ) (line : L) → Reads content (Some line) → P line) → IfSome found (λ lines. AllByRecursion P (items lines))
  all_lines items P text (Some lines) h is = all_up_to P is text (items lines) h.read.0 h.read.1
  all_lines items P text None h is = tt
