-- The exit statuses.
use Rattle.std.specs.Prelude.{◌≡◌, ◌⊎◌, ◌<◌, ◌≤◌, ℕ, Bool, List, [], ◌∷◌, Option, IfSome, IsTrue, codes, length, take}
use Rattle.std.specs.Io.KnownBytes.{Appends}
use Rattle.edi_schema.specs.Roles.{KindCodes}
use Rattle.edi_schema.specs.declared.fault.SchemaFault.{SchemaFault}
use Rattle.edi_compare.specs.declared.fault.Fault.{Fault}
use Rattle.edi_compare.specs.declared.fault.RunFault.{RunFault}
use Rattle.edi_compare.specs.declared.fault.RunFault.TheVariants.{Schema, First, Second}
use Rattle.edi_compare.specs.declared.pairing.Pairing.{Pairing}
use Rattle.edi_compare.specs.declared.pairing.Verdict.TheVariants.{Same, Different}
use Rattle.edi_compare.specs.Bundle.{OfParts}
use Rattle.edi_compare.specs.Runs.{BeforeWriting, IsSheetUnder, IsVerdictOf, RefusesSchema, RefusesSecond, RefusesSheet, WritesAll, WritesFirst}
use Rattle.edi_files.specs.Reasons.{Why, ended}
use Rattle.edi_files.specs.declared.reason.Reason.{Reason}
use Rattle.edi_outcome.specs.Status.{status_for, status_of_fault}
use Rattle.edi_outcome.specs.Words.{schema_text, sheet_text}
use Rattle.edi_answers.specs.AnswerForms.{IsReadIn, text_in_form}
use Rattle.edi_answers.specs.Paths.{names_of_paths}
use Rattle.edi_answers.specs.Reasons.{IsReason, lines_for}
use Rattle.edi_outcome.specs.declared.outcome.Outcome.{Outcome}
use Rattle.edi_outcome.specs.declared.outcome.Outcome.TheVariants as outcome
use Rattle.edi_words.specs.Requests.{usual_kinds}
use Rattle.edi_pairing.specs.UnderFiles.{IsPairingFileOf, IsVerifiedUnder, RefusesFile}
use Rattle.edi_pairing.specs.declared.fault.WrongLine.{WrongLine}
use Rattle.edi_pairing.specs.declared.verified.Unpaired.{Unpaired}
use Rattle.edi_pairing.specs.declared.verified.Verified.TheVariants.{Carries, Fails}
use Rattle.edi_answers.specs.declared.form.AnswerForm.{AnswerForm}
use Rattle.edi_answers.specs.Effects.{Effects, Inputs, Stream}
use Rattle.edi_answers.specs.SheetRuns.{AreFiveThere, AreFourThere, AreThere, FileFault, FirstMissing, FirstOfFiveMissing, FirstOfFourMissing, IsPairInput, IsPairPut, IsPairReplaced, OfFiles, OfFive, OfPair, PairFileFault, PutPairFault, StandardFault, VerifyFileFault}
use Rattle.edi_words.specs.declared.words.PairFiles.{PairFiles}
use Rattle.edi_words.specs.declared.words.SheetFiles.{SheetFiles}

-- of a run over sheets, each for itself: accepted, refused, not read or not written, out of memory
abbrev pub IsSheetStatus : ℕ → Type 0
IsSheetStatus s = (s ≡ 0) ⊎ ((s ≡ 2) ⊎ ((s ≡ 4) ⊎ (s ≡ 5)))

-- of a run over two sheets: those, or 1 where the plans differ or the pairing doesn't carry
abbrev pub IsPairStatus : ℕ → Type 0
IsPairStatus s = (s ≡ 1) ⊎ IsSheetStatus s

-- of a rule: its page, no such rule, not written, out of memory
abbrev pub IsPageStatus : ℕ → Type 0
IsPageStatus s = (s ≡ 0) ⊎ ((s ≡ 3) ⊎ ((s ≡ 4) ⊎ (s ≡ 5)))

-- of the list of rules: written, not written, out of memory
abbrev pub IsListStatus : ℕ → Type 0
IsListStatus s = (s ≡ 0) ⊎ ((s ≡ 4) ⊎ (s ≡ 5))

-- a stream over a run got this text and nothing else
abbrev pub Prints : Stream → List ℕ → Type 0
Prints stream text = Appends stream.before stream.after text

-- a stream got the first bytes of the text and nothing else
abbrev pub PrintsFirst : Stream → ℕ → List ℕ → Type 0
PrintsFirst stream count text = (count ≤ length text) × Prints stream (take count text)

-- the text went out, or the writer has failed
abbrev pub GoesOut : Option (List ℕ) → Option (List ℕ) → Bool → List ℕ → Type 0
GoesOut old new failed text = Appends old new text ⊎ IsTrue failed

-- a stream got this text, or it has failed
abbrev pub Warns : Stream → List ℕ → Type 0
Warns stream text = GoesOut stream.before stream.after stream.failed text

-- a stream got the line of an outcome and then that of its reason, or it has failed
abbrev pub WarnsWhy : Why → Stream → Outcome → List (List ℕ) → Type 0
WarnsWhy why stream outcome paths =
    (reason : Option Reason) × IsReason why outcome paths reason × Warns stream (lines_for outcome paths reason)

-- standard output got the text, and standard error nothing
abbrev pub Answers : Stream → Stream → List ℕ → Type 0
Answers out err text = Prints out text × Prints err []

-- standard output got the text of an outcome in a form, by the names of these paths, and standard error nothing; and
-- as JSON a reader finds the value of the outcome in it
abbrev pub AnswersIn : Stream → Stream → AnswerForm → List (List ℕ) → Outcome → Type 0
AnswersIn out err form paths outcome =
    Answers out err (text_in_form form outcome (names_of_paths paths))
    × IsReadIn form outcome (names_of_paths paths) (text_in_form form outcome (names_of_paths paths))

-- standard output got nothing, and standard error the line, unless that has failed
abbrev pub Complains : Stream → Stream → List ℕ → Type 0
Complains out err line = Prints out [] × Warns err line

-- standard output has failed, which standard error says
abbrev pub IsUnsaid : Stream → Stream → Type 0
IsUnsaid out err = IsTrue out.failed × Warns err (ended (codes "cannot write standard output"))

-- there is no memory, which standard error says
abbrev pub LacksMemory : Stream → Type 0
LacksMemory err = Warns err (ended (codes "out of memory"))

-- and standard output got nothing
abbrev pub OnlyLacksMemory : Stream → Stream → Type 0
OnlyLacksMemory out err = Prints out [] × LacksMemory err

-- the paths that a line may name: of the inputs, and then of the output
abbrev pub paths_of : SheetFiles → List ℕ → List (List ℕ)
paths_of files out = files.scd.now ∷ files.dic.now ∷ files.vec.now ∷ out ∷ []

abbrev pub pair_paths_of : PairFiles → List ℕ → List (List ℕ)
pair_paths_of files out = files.scd.now ∷ files.dic.now ∷ files.first.now ∷ files.second.now ∷ out ∷ []

abbrev pub verify_paths_of : PairFiles → List ℕ → List (List ℕ)
verify_paths_of files pairing =
    files.scd.now ∷ files.dic.now ∷ files.first.now ∷ files.second.now ∷ pairing ∷ codes "-" ∷ []

-- What a status of a run says: 0 that it is done, 2 that something is refused, 4 that a file could not be read or
-- written, and why if that is known, or the output failed, 5 that memory ran out: then the output got nothing, or there
-- was no memory to say such a fault. The last two are said on the stream of errors.
pub record MeansStatus (Done Refused : Type 0) (IsFault : RunFault → Type 0) (why : Why) (paths : List (List ℕ))
    (out err : Stream) (s : ℕ) : Type 0 where
  pub done : s ≡ 0 → Done
  pub refused : s ≡ 2 → Refused
  pub failed : s ≡ 4 → IsUnsaid out err
      ⊎ ((e : RunFault) × IsFault e × (status_of_fault e ≡ 4) × WarnsWhy why err (outcome.Fault e) paths)
  pub memory : s ≡ 5 → LacksMemory err × (Prints out [] ⊎ ((e : RunFault) × IsFault e × (status_of_fault e ≡ 4)))

-- the schema or the sheet is refused, and this was said of it
abbrev pub SaysRefusal : (List ℕ → Type 0) → KindCodes → List ℕ → List ℕ → List ℕ → Type 0
SaysRefusal Says kinds scd dic b =
    ((f : SchemaFault) × RefusesSchema kinds scd dic f × Says (ended (schema_text f)))
    ⊎ ((f : Fault) × RefusesSheet kinds scd dic b f × Says (ended (sheet_text [] f)))

-- the schema or the sheet is refused, and this fault was said
abbrev pub SaysFault : (RunFault → Type 0) → KindCodes → List ℕ → List ℕ → List ℕ → Type 0
SaysFault Says kinds scd dic b =
    ((f : SchemaFault) × RefusesSchema kinds scd dic f × Says (Schema f))
    ⊎ ((f : Fault) × RefusesSheet kinds scd dic b f × Says (First f))

-- each file was opened, or one is missing
abbrev pub AreTried : Inputs → SheetFiles → Type 0
AreTried inputs files = AreThere inputs files ⊎ ((n : ℕ) × FirstMissing inputs files n)

-- The status of a run over files, with what the streams have before and after: 0 only of an accepted sheet, 2 only of a
-- refused one, and each is said in a form. No status comes before the files were opened.
pub record IsFileStatus (run : Effects) (out err : Stream) (kinds : KindCodes) (files : SheetFiles) (form : AnswerForm)
    (s : ℕ) : Type 0 where
  pub tried : AreTried run.inputs files
  pub means : MeansStatus (OfFiles run.inputs files (IsSheetUnder kinds)
      × AnswersIn out err form (paths_of files (codes "-")) outcome.Accepted)
      (OfFiles run.inputs files
      (SaysFault (λ e. AnswersIn out err form (paths_of files (codes "-")) (outcome.Fault e)) kinds))
      (λ e. FileFault run.inputs kinds files (λ _. ⊥) e × Prints out [])
      run.why (paths_of files (codes "-")) out err s

-- The status of a run over a bundle: 0 only where its canonical file went out, 2 only of a refused sheet.
abbrev pub IsBundleStatus : Effects → Stream → Stream → ℕ → Type 0
IsBundleStatus run out err s = (contents : Option (List ℕ)) × run.inputs.standard contents
    × MeansStatus (IfSome contents (λ b.
    OfParts b (λ scd dic vec. WritesAll usual_kinds scd dic vec out.before out.after)) × Prints err [])
    (IfSome contents (λ b. OfParts b (SaysRefusal (Answers out err) usual_kinds)))
    (λ e. StandardFault run.inputs contents (λ count. IsTrue out.failed
    × IfSome contents (λ b. OfParts b (λ scd dic vec.
    WritesFirst usual_kinds scd dic vec count out.before out.after))) e × BeforeWriting e (Prints out []))
    run.why (codes "-" ∷ codes "-" ∷ []) out err s

-- the schema, the first sheet, or the second where the first is accepted, is refused, and this was said of it
abbrev pub SaysPairRefusal : (List ℕ → Type 0) → KindCodes → List ℕ → List ℕ → List ℕ → List ℕ → Type 0
SaysPairRefusal Says kinds scd dic a b =
    ((f : SchemaFault) × RefusesSchema kinds scd dic f × Says (ended (schema_text f)))
    ⊎ (((f : Fault) × RefusesSheet kinds scd dic a f × Says (ended (sheet_text (codes "first ") f)))
    ⊎ ((f : Fault) × RefusesSecond kinds scd dic a b f × Says (ended (sheet_text (codes "second ") f))))

-- the schema, the first sheet, or the second where the first is accepted, is refused, and this fault was said
abbrev pub SaysPairFault : (RunFault → Type 0) → KindCodes → List ℕ → List ℕ → List ℕ → List ℕ → Type 0
SaysPairFault Says kinds scd dic a b =
    ((f : SchemaFault) × RefusesSchema kinds scd dic f × Says (Schema f))
    ⊎ (((f : Fault) × RefusesSheet kinds scd dic a f × Says (First f))
    ⊎ ((f : Fault) × RefusesSecond kinds scd dic a b f × Says (Second f)))

-- each of four files was opened, or one is missing
abbrev pub AreFourTried : Inputs → PairFiles → Type 0
AreFourTried inputs files = AreFourThere inputs files ⊎ ((n : ℕ) × FirstOfFourMissing inputs files n)

-- the plans are not the same, and the line at which the canonical files first differ was said
abbrev pub SaysDifferent : Inputs → (Outcome → Type 0) → KindCodes → PairFiles → Type 0
SaysDifferent inputs Says kinds files =
    (line : ℕ) × OfPair inputs files (λ scd dic a b. IsVerdictOf kinds scd dic a b (Different line))
    × Says (outcome.Different line)

-- The status of a run over two sheets: 0 only where a pairing carries the one plan onto the other, 1 only where the
-- plans are not the same, 2 only where a sheet is refused, and each is said in a form.
pub record IsCompareStatus (run : Effects) (out err : Stream) (kinds : KindCodes) (files : PairFiles)
    (form : AnswerForm) (s : ℕ) : Type 0 where
  pub tried : AreFourTried run.inputs files
  pub different : s ≡ 1
      → SaysDifferent run.inputs (AnswersIn out err form (pair_paths_of files (codes "-"))) kinds files
  pub means : MeansStatus
      (((pairing : Pairing) × OfPair run.inputs files (λ scd dic a b. IsVerdictOf kinds scd dic a b (Same pairing)))
      × AnswersIn out err form (pair_paths_of files (codes "-")) outcome.Same)
      (OfPair run.inputs files
      (SaysPairFault (λ e. AnswersIn out err form (pair_paths_of files (codes "-")) (outcome.Fault e)) kinds))
      (λ e. PairFileFault run.inputs kinds files (λ _. ⊥) e × Prints out [])
      run.why (pair_paths_of files (codes "-")) out err s

-- The same of a run that puts a pairing at a path where the plans are the same. Where they are not, nothing in the
-- folder has changed; and whatever the status is, this is so, or the pairing is there, or such a fault says what became
-- of the path.
pub record IsPairingStatus (run : Effects) (out err : Stream) (kinds : KindCodes) (files : PairFiles)
    (form : AnswerForm) (path : List ℕ) (s : ℕ) : Type 0 where
  pub tried : IsPairInput run.is_one files path ⊎ AreFourTried run.inputs files
  pub different : s ≡ 1
      → SaysDifferent run.inputs (AnswersIn out err form (pair_paths_of files path)) kinds files × run.untouched
  pub means : MeansStatus (IsPairPut run (IsPairingFileOf kinds) files path
      × AnswersIn out err form (pair_paths_of files path) outcome.Same)
      (OfPair run.inputs files
      (SaysPairFault (λ e. AnswersIn out err form (pair_paths_of files path) (outcome.Fault e)) kinds) × run.untouched)
      (λ e. PutPairFault run (IsPairingFileOf kinds) kinds files path e
      × Prints out []) run.why (pair_paths_of files path) out err s
  pub leaves : run.untouched ⊎ (IsPairPut run (IsPairingFileOf kinds) files path
      ⊎ ((e : RunFault) × PutPairFault run (IsPairingFileOf kinds) kinds files path e))
  pub replaced : IsPairReplaced run (IsPairingFileOf kinds) files path

-- the schema or a sheet is refused, or the pairing's file where both sheets are accepted, and the refusal was said
abbrev pub SaysVerifyRefusal : Inputs → (Outcome → Type 0) → KindCodes → PairFiles → List ℕ → Type 0
SaysVerifyRefusal inputs Says kinds files pairing =
    OfPair inputs files (SaysPairFault (λ e. Says (outcome.Fault e)) kinds)
    ⊎ ((at : ℕ) × (why : WrongLine)
    × OfFive inputs files pairing (λ scd dic a b f. RefusesFile kinds scd dic a b f at why)
    × Says (outcome.WrongPairing at why))

-- the file states a pairing that doesn't carry, and that was said, with the reason
abbrev pub SaysUnpaired : Inputs → (Outcome → Type 0) → KindCodes → PairFiles → List ℕ → Type 0
SaysUnpaired inputs Says kinds files pairing =
    (why : Unpaired) × OfFive inputs files pairing (λ scd dic a b f. IsVerifiedUnder kinds scd dic a b f (Fails why))
    × Says (outcome.Unpaired why)

-- The status of a run that checks a pairing's file: 0 only where it states a pairing that carries the one plan onto the
-- other, 1 only where it states one that doesn't, 2 only where a sheet or the file is refused, and each is said in a
-- form.
pub record IsVerifyStatus (run : Effects) (out err : Stream) (kinds : KindCodes) (files : PairFiles) (form : AnswerForm)
    (pairing : List ℕ) (s : ℕ) : Type 0 where
  pub tried : AreFiveThere run.inputs files pairing ⊎ ((n : ℕ) × FirstOfFiveMissing run.inputs files pairing n)
  pub unpaired : s ≡ 1
      → SaysUnpaired run.inputs (AnswersIn out err form (verify_paths_of files pairing)) kinds files pairing
  pub means : MeansStatus
      (OfFive run.inputs files pairing (λ scd dic a b f. IsVerifiedUnder kinds scd dic a b f Carries)
      × AnswersIn out err form (verify_paths_of files pairing) outcome.Pairs)
      (SaysVerifyRefusal run.inputs (AnswersIn out err form (verify_paths_of files pairing)) kinds files pairing)
      (λ e. VerifyFileFault run.inputs kinds files pairing e × Prints out [])
      run.why (verify_paths_of files pairing) out err s

-- the status once the line was printed: that of the outcome, 5 without memory for the line, 4 where it can't be printed
abbrev pub IsAnsweredAs : ℕ → ℕ → Type 0
IsAnsweredAs status s = (s ≡ status) ⊎ ((s ≡ 5) ⊎ ((status < 3) × (s ≡ 4)))

-- What was said of an outcome, and the status: an answer or a refusal went to standard output in a form, anything else
-- to standard error as words.
pub record IsSaid (why : Why) (out err : Stream) (form : AnswerForm) (outcome : Outcome) (paths : List (List ℕ))
    (s : ℕ) : Type 0 where
  pub status : IsAnsweredAs (status_for outcome) s
  pub answer : s < 3 → AnswersIn out err form paths outcome
  pub unsaid : status_for outcome < 3 → s ≡ 4 → IsUnsaid out err
  pub fault : 3 ≤ status_for outcome → s ≡ 4 → WarnsWhy why err outcome paths × Prints out []
  pub memory : s ≡ 5 → OnlyLacksMemory out err

-- What standard error was told of a fault, and the status.
abbrev pub IsWarned : Why → Stream → RunFault → List (List ℕ) → ℕ → Type 0
IsWarned why err e paths s =
    ((s ≡ status_of_fault e) × WarnsWhy why err (outcome.Fault e) paths) ⊎ ((s ≡ 5) × LacksMemory err)
