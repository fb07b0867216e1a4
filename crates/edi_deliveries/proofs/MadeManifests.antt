-- What becomes of the lines of a delivery.
use Rattle.std.proofs.Common.{◌≡◌, ◌≢◌, ◌∙◌, ℕ, Bool, List, [], ◌++◌, Option, IsTrue, ap, inl, inr, refl, subst, sym, ⊎_elim}
use Rattle.edi_schema.specs.Roles.{KindCodes}
use Rattle.edi_manifest.specs.ManifestText.{manifest_text}
use Rattle.edi_manifest.specs.declared.line.ManifestLine.{ManifestLine}
use Rattle.edi_files.specs.Outputs.{IsWholeOrNew}
use Rattle.edi_files.specs.Reasons.{Why}
use Rattle.edi_answers.specs.Effects.{Effects, Inputs, Stream}
use Rattle.edi_answers.proofs.Answering.{over}
use Rattle.edi_deliveries.specs.Deliveries.{Listings, Opened, Opens}
use Rattle.edi_deliveries.specs.Found.{AreLotsFound}
use Rattle.edi_deliveries.specs.Manifests.{IfAllFound, IsManifestOf}
use Rattle.edi_deliveries.specs.inner.Finding.{AddsLines}
use Rattle.edi_deliveries.proofs.Well.{lots_as}

-- what is added to no lines is all
all_added : (a b : List ManifestLine) (P : List ManifestLine → Type 0) → a ≡ [] → (h : AddsLines a b P) → b ≡ h.0
all_added a b P none h = h.1 ∙ ap (λ l. l ++ h.0) none

module _ (inputs : Inputs) (why : Why) (kinds : KindCodes) (d : Opened) (a b : List ManifestLine) (none : a ≡ []) (e f : Option (List ℕ)) (ff : Bool) (found : ℕ)
    (lines : AddsLines a b (λ l. AreLotsFound inputs why kinds d l (over e f ff) found)) where
  -- they are the lines of the delivery
  pub lines_of_it : AreLotsFound inputs why kinds d b (over e f ff) found
  lines_of_it = subst (λ l. AreLotsFound inputs why kinds d l (over e f ff) found) (sym (all_added a b _ none lines)) lines.2

  -- they are the lines of the delivery, if each part was found
  pub lines_of_all : (other : Why) → found ≡ 0 → AreLotsFound inputs other kinds d b (over e f ff) 0
  lines_of_all other zero =
      let well = lots_as inputs why other kinds d lines.0 (over e f ff) (subst (λ s. AreLotsFound inputs why kinds d lines.0 (over e f ff) s) zero lines.2) in
      subst (λ l. AreLotsFound inputs other kinds d l (over e f ff) 0) (sym (all_added a b _ none lines)) well

  -- something became of them
  pub all_found : (other : Why) (Then : List ManifestLine → Stream → ℕ → Type 0) (Else : Type 0) (r : Option (List ℕ)) (rf : Bool) (s : ℕ) → found ≡ 0
      → (IsTrue ff → IsTrue rf) → Then b (over f r rf) s → IfAllFound inputs other kinds d Then Else (over e r rf) s
  all_found other Then Else r rf s zero stays then = (b, 0, (f, ff, stays, lines_of_all other zero, inl (refl, then)))

  -- or not
  pub not_all_found : (Then : List ManifestLine → Stream → ℕ → Type 0) (Else : Type 0) → found ≢ 0 → Else
      → IfAllFound inputs why kinds d Then Else (over e f ff) found
  not_all_found Then Else some else = (lines.0, found, (f, ff, λ t. t, lines.2, inr (some, else, refl, refl)))

-- whole bytes are the manifest of the delivery
pub whole_manifest : (run : Effects) (listings : Listings) (kinds : KindCodes) (path : List ℕ) (d : Opened) (lines : List ManifestLine) (err : Stream)
    → Opens run.inputs listings path d → AreLotsFound run.inputs run.why kinds d lines err 0
    → (out : List ℕ) (Spare : List ℕ → Type 0) (at : List ℕ) (c : Option (List ℕ)) → IsWholeOrNew out Spare (λ b. b ≡ manifest_text lines) at c
    → IsWholeOrNew out Spare (IsManifestOf run listings kinds path) at c
whole_manifest run listings kinds path d lines err opens found out Spare at c h =
    ⊎_elim
    (λ w. inl (w.0, (w.1.0, (d, opens, (lines, err, found, w.1.1)), w.1.2)))
    (λ new. inr new) h
