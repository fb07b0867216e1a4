-- The parts of lots that are found.
use Rattle.std.proofs.Common.{◌≡◌, ℕ, Bool, List, [], Option, None, IsTrue, Result, inl, inr, refl, sym, subst, string_bytes}
use Rattle.std.specs.Prelude.{IfOk, MatchOption, MatchResult, Ok, Err}
use Rattle.edi_schema.specs.Classes.{Classes}
use Rattle.edi_schema.specs.Roles.{KindCodes}
use Rattle.edi_manifest.specs.declared.line.Digested.{Digested}
use Rattle.edi_manifest.specs.declared.line.ManifestLine.{ManifestLine}
use Rattle.edi_compare.specs.declared.fault.RunFault.{RunFault}
use Rattle.edi_files.specs.Reasons.{Why}
use Rattle.edi_words.specs.declared.words.ManyFiles.{ManyFiles}
use Rattle.edi_answers.specs.Effects.{Inputs, Stream}
use Rattle.edi_answers.specs.Hashes.{GivesSchema}
use Rattle.edi_answers.specs.Notes.{WritesNoteIfAny}
use Rattle.edi_answers.specs.Statuses.{LacksMemory}
use Rattle.edi_answers.proofs.Answering.{over}
use Rattle.edi_deliveries.specs.Deliveries.{ErrorsSay, found_path}
use Rattle.edi_deliveries.specs.Found.{AreSheetsFound, Finds, IsFileFound, IsPartFound, IsSchemaFound, PlacedLot}
use Rattle.edi_deliveries.specs.declared.parts.LotFile.{LotFile}
use Rattle.edi_deliveries.specs.inner.Finding.{AddsLines, IsPartAt}
use Rattle.edi_deliveries.proofs.FoundSteps.{adds_map, none_added}

module _ (inputs : Inputs) (why : Why) (at : PlacedLot) (name : List ℕ) (digested : Digested)
    (CameOf : List ℕ → Result (List ℕ) RunFault → Type 0) (err : Stream) (s : ℕ) where
  -- a file that is there
  pub file_there : (a b : List ManifestLine) (part : LotFile) (answer : Result (List ℕ) RunFault) → IsPartAt at name part → CameOf (string_bytes part.path) answer
      → AddsLines a b (λ l. IsPartFound why part.name digested (string_bytes part.path) answer l err s)
      → AddsLines a b (λ l. IsFileFound inputs why at name digested CameOf l err s)
  file_there a b part answer are came found =
      adds_map a b _ _
      (λ l h. inl (subst (λ (o : Option (List ℕ)). MatchOption o (Finds [] l err s)
      (λ path. (r : Result (List ℕ) RunFault) × CameOf path r × IsPartFound why name digested path r l err s)) (sym are.path)
      (answer, came, subst (λ (n : List ℕ). IsPartFound why n digested (string_bytes part.path) answer l err s) are.name_is h)))
      found

  -- a file that is missing
  pub file_missing : (a : List ManifestLine) → found_path at.before at.names name ≡ None → err.after ≡ err.before → s ≡ 0
      → AddsLines a a (λ l. IsFileFound inputs why at name digested CameOf l err s)
  file_missing a none same zero =
      none_added a _
      (inl (subst (λ (o : Option (List ℕ)). MatchOption o (Finds [] [] err s)
      (λ path. (r : Result (List ℕ) RunFault) × CameOf path r × IsPartFound why name digested path r [] err s)) (sym none) (refl, same, zero)))

-- a schema that was loaded, with the note on its kinds
pub schema_found : (inputs : Inputs) (why : Why) (kinds : KindCodes) (files : ManyFiles) (at : PlacedLot) (a b : List ManifestLine)
    (c : Classes) (note : List ℕ) (e f r : Option (List ℕ)) (ff rf : Bool) (s : ℕ) → GivesSchema inputs kinds files c note → WritesNoteIfAny (over e f ff) note
    → AddsLines a b (λ l. AreSheetsFound inputs why c at l (over f r rf) s) → (IsTrue ff → IsTrue rf)
    → AddsLines a b (λ l. IsSchemaFound inputs why kinds files at l (over e r rf) s)
schema_found inputs why kinds files at a b c note e f r ff rf s gives noted found stays =
    adds_map a b _ _ (λ l h. inl (c, note, gives, (f, ff, stays, noted, h))) found

-- what the errors were told, where there was memory for it
pub said_of : {V E : Type 0} (items : V → List ℕ) (r : Result V E) (text : List ℕ) (status : ℕ) (err : Stream) (s : ℕ)
    → MatchResult r (λ v. (s ≡ status) × WritesNoteIfAny err (items v)) (λ _. (s ≡ 5) × LacksMemory err) → IfOk r (λ v. items v ≡ text) → ErrorsSay text status err s
said_of items (Ok v) text status err s h is = inl (h.0, subst (WritesNoteIfAny err) is h.1)
said_of items (Err e) text status err s h is = inr h
