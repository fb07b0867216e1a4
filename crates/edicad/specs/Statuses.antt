-- The exit statuses of requests, and of what is made of sheets.
use Rattle.std.specs.Prelude.{◌≡◌, ◌⊎◌, ℕ, Bool, true, false, List, [], IsTrue, codes}
use Rattle.edi_schema.specs.Roles.{KindCodes}
use Rattle.edi_compare.specs.declared.fault.RunFault.{RunFault}
use Rattle.edi_compare.specs.Runs.{BeforeWriting}
use Rattle.edi_files.specs.Reasons.{ended}
use Rattle.edi_files.specs.declared.product.Product.{Product}
use Rattle.edi_diff.specs.UnderFiles.{IsDifferenceUnder}
use Rattle.edi_diff.specs.declared.differing.Difference.{Difference}
use Rattle.edi_words.specs.Requests.{IsAsked}
use Rattle.edi_answers.specs.Effects.{Effects, Inputs, Stream}
use Rattle.edi_answers.specs.Misuses.{shows_words}
use Rattle.edi_answers.specs.SheetRuns.{FileFault, IsPairInput, IsPairPut, IsPairReplaced, OfFiles, OfPair, PairFileFault, PutPairFault}
use Rattle.edicad.specs.Made.{IsInput, IsPictureOfPair, IsPut, IsReplaced, OfMade, PutFault, ShowsDifference, names_of_pair}
use Rattle.edi_words.specs.declared.words.ManyRequest.{ManyRequest}
use Rattle.edi_words.specs.declared.words.ManyRequest.TheVariants.{Hash, CheckList, ExplainAll}
use Rattle.edi_words.specs.declared.words.PairFiles.{PairFiles}
use Rattle.edi_words.specs.declared.words.SheetFiles.{SheetFiles}
use Rattle.edi_words.specs.declared.words.Request.{Request}
use Rattle.edi_words.specs.declared.words.Request.TheVariants.{Bundle, Sheet, Pair, Many, Delivery, Manifest, CheckManifest, Explain, Rule, Rules, Changed, Misused, Answered}
use Rattle.edi_answers.specs.Statuses.{Answers, AreFourTried, AreTried, Complains, IsListStatus, IsPageStatus, IsPairStatus, IsSheetStatus, MeansStatus, Prints, PrintsFirst, SaysPairRefusal, SaysRefusal, pair_paths_of, paths_of}
use Rattle.edi_diff.specs.declared.form.TextForm.{TextForm}

-- of what was asked of many sheets
abbrev pub IsManyStatus : ManyRequest → ℕ → Type 0
IsManyStatus (Hash with_schema json) s = IsSheetStatus s
IsManyStatus (CheckList list) s = IsPairStatus s
IsManyStatus (ExplainAll json) s = IsSheetStatus s

-- of what was asked for, whatever the files hold
abbrev pub IsStatusOf : Request → ℕ → Type 0
IsStatusOf Bundle s = IsSheetStatus s
IsStatusOf (Sheet kinds files what) s = IsSheetStatus s
IsStatusOf (Pair kinds files what) s = IsPairStatus s
IsStatusOf (Many kinds files what) s = IsManyStatus what s
IsStatusOf (Delivery kinds paths) s = IsSheetStatus s
IsStatusOf (Manifest kinds path file) s = IsSheetStatus s
IsStatusOf (CheckManifest kinds path manifest) s = IsPairStatus s
IsStatusOf (Explain kinds files json) s = IsSheetStatus s
IsStatusOf (Rule word json) s = IsPageStatus s
IsStatusOf (Rules json) s = IsListStatus s
IsStatusOf (Changed before after) s = IsPairStatus s
IsStatusOf (Misused misuse) s = (s ≡ 3) ⊎ (IsTrue (shows_words misuse) × (s ≡ 5))
IsStatusOf (Answered status) s = s ≡ status

-- the words ask for something, and the status is of that
abbrev pub HasStatus : List (List ℕ) → ℕ → Type 0
HasStatus words s = (request : Request) × IsAsked words request × IsStatusOf request s

-- of any run: that of words, that of words that are no text, or that of no memory for them
abbrev pub IsStatus : ℕ → Type 0
IsStatus s = ((words : List (List ℕ)) × HasStatus words s) ⊎ ((s ≡ 3) ⊎ (s ≡ 5))

-- The status of a run that puts what is made of a sheet at a path: 0 only where it is there, 2 only of a refused sheet.
-- On a refusal nothing in the folder has changed; and whatever the status is, what was made is there, or such a fault
-- says what became of the path.
pub record IsPutStatus (run : Effects) (out err : Stream) (product : Product) (kinds : KindCodes) (files : SheetFiles)
    (path : List ℕ) (s : ℕ) : Type 0 where
  pub tried : IsInput run.is_one files path ⊎ AreTried run.inputs files
  pub means : MeansStatus (IsPut run product kinds files path × Answers out err (ended (codes "accepted")))
      (OfFiles run.inputs files (SaysRefusal (Answers out err) kinds)
      × run.untouched) (λ e. PutFault run product kinds files path e × Prints out [])
      run.why (paths_of files path) out err s
  pub leaves : IsPut run product kinds files path ⊎ ((e : RunFault) × PutFault run product kinds files path e)
  pub replaced : IsReplaced run product kinds files path

-- The same of a run that sends what is made of the sheet to standard output, which gets nothing else: a refusal goes to
-- standard error.
pub record IsSendStatus (run : Effects) (out err : Stream) (product : Product) (kinds : KindCodes) (files : SheetFiles)
    (s : ℕ) : Type 0 where
  pub tried : AreTried run.inputs files
  pub means : MeansStatus (OfMade run.inputs product kinds files (Answers out err))
      (OfFiles run.inputs files (SaysRefusal (Complains out err) kinds))
      (λ e. FileFault run.inputs kinds files (λ count. IsTrue out.failed
      × OfMade run.inputs product kinds files (PrintsFirst out count)) e
      × BeforeWriting e (Prints out []))
      run.why (paths_of files (codes "-")) out err s

-- this differs between the two sheets, the plans are the same or not, and the text of the difference went out
abbrev pub TellsDifference : Inputs → Stream → Stream → KindCodes → PairFiles → TextForm → Bool → Type 0
TellsDifference inputs out err kinds files form same =
    (difference : Difference) × OfPair inputs files (λ scd dic a b. IsDifferenceUnder kinds scd dic a b form difference)
    × (difference.same ≡ same)
    × Answers out err difference.text.items

-- The status of a run that reports what differs between two sheets: 0 only where the plans are the same, 1 only where
-- they are not, and the output gets the text of the difference; 2 only where a sheet is refused, which is said.
pub record IsDiffStatus (run : Effects) (out err : Stream) (kinds : KindCodes) (files : PairFiles) (form : TextForm)
    (s : ℕ) : Type 0 where
  pub tried : AreFourTried run.inputs files
  pub different : s ≡ 1 → TellsDifference run.inputs out err kinds files form false
  pub means : MeansStatus (TellsDifference run.inputs out err kinds files form true)
      (OfPair run.inputs files (SaysPairRefusal (Answers out err) kinds))
      (λ e. PairFileFault run.inputs kinds files (λ _. ⊥) e
      × Prints out []) run.why (pair_paths_of files (codes "-")) out err s

-- this differs between the two sheets, the plans are the same or not, a picture that shows it was put, and the text of
-- the difference went out
abbrev pub TellsDrawnDifference : Effects → Stream → Stream → KindCodes → PairFiles → TextForm → List ℕ → Bool → Type 0
TellsDrawnDifference run out err kinds files form path same =
    (difference : Difference) × IsPairPut run (ShowsDifference kinds (names_of_pair files) form difference) files path
    × (difference.same ≡ same) × Answers out err difference.text.items

-- The same of a run that also puts a picture of what differs at a path. On a refusal nothing in the folder has changed;
-- and whatever the status is, the picture is there, or such a fault says what became of the path.
pub record IsPictureStatus (run : Effects) (out err : Stream) (kinds : KindCodes) (files : PairFiles) (form : TextForm)
    (path : List ℕ) (s : ℕ) : Type 0 where
  pub tried : IsPairInput run.is_one files path ⊎ AreFourTried run.inputs files
  pub different : s ≡ 1 → TellsDrawnDifference run out err kinds files form path false
  pub means : MeansStatus (TellsDrawnDifference run out err kinds files form path true)
      (OfPair run.inputs files (SaysPairRefusal (Answers out err) kinds) × run.untouched)
      (λ e. PutPairFault run (IsPictureOfPair kinds (names_of_pair files) form) kinds files path e
      × Prints out []) run.why (pair_paths_of files path) out err s
  pub leaves : IsPairPut run (IsPictureOfPair kinds (names_of_pair files) form) files path
      ⊎ ((e : RunFault) × PutPairFault run (IsPictureOfPair kinds (names_of_pair files) form) kinds files path e)
  pub replaced : IsPairReplaced run (IsPictureOfPair kinds (names_of_pair files) form) files path
