-- What `hash --check` answers: which digests of a list are those that are found now.
use Rattle.std.specs.Prelude.{◌≡◌, ◌⊎◌, ◌++◌, ℕ, Bool, true, false, List, [], codes}
use Rattle.std.proofs.Common.{Ok, Err}
use Rattle.std.specs.Bool.{MatchBool}
use Rattle.std.specs.List.{AllByRecursion}
use Rattle.std.specs.Str.{IsUtf8, bytes_eq}
use Rattle.sha2.specs.Sha256.{sha256}
use Rattle.edi_schema.specs.Classes.{Classes}
use Rattle.edi_schema.specs.Roles.{KindCodes}
use Rattle.edi_schema_text.specs.SchemaText.{text_of_schema}
use Rattle.edi_compare.specs.declared.fault.RunFault.{RunFault}
use Rattle.edi_files.specs.Reasons.{ended}
use Rattle.edi_words.specs.Requests.{is_standard_path}
use Rattle.edi_words.specs.declared.words.ManyFiles.{ManyFiles}
use Rattle.edi_answers.specs.Effects.{Effects, Stream}
use Rattle.edi_answers.specs.Hashes.{GivesSchema, IsAnswerOf, LoadFault, TellsFault, named_line, schema_fault_path}
use Rattle.edi_answers.specs.Replies.{EachUntil, OneThenOther, Reply, SaysLines}
use Rattle.edi_answers.specs.Statuses.{Answers, Complains, IsUnsaid, OnlyLacksMemory, Prints, PrintsFirst}
use Rattle.edi_answers.specs.WholeInputs.{OfWholeInput}
use Rattle.edi_changes.specs.Lacking.{Lacks}
use Rattle.edi_changes.specs.ListText.{IsListLine, IsNoList, list_text, schema_word}
use Rattle.edi_changes.specs.declared.list.ListLine.{ListLine}

-- ---- the line on a digest

abbrev pub verdict_word : Bool → List ℕ
verdict_word true = codes "OK"
verdict_word false = codes "FAILED"

abbrev pub status_of_verdict : Bool → ℕ
status_of_verdict true = 0
status_of_verdict false = 1

-- the line on a digest of a list: the word of a schema's, the name, and whether the digest is the one that was found
abbrev pub verdict_line : ListLine → Bool → List ℕ
verdict_line line is_same = schema_word line.is_schema ++ named_line line.name (verdict_word is_same)

-- what becomes of the line on a digest
abbrev pub VerdictReply : Type 1
VerdictReply = ListLine → Bool → Reply

-- it goes out, and the status is that of the verdict; or there is no memory for it
abbrev pub GivesVerdict : VerdictReply
GivesVerdict line is_same out err s =
    (Answers out err (verdict_line line is_same) × (s ≡ status_of_verdict is_same))
    ⊎ (OnlyLacksMemory out err × (s ≡ 5))

-- the output fails in it
abbrev pub FailsInVerdict : VerdictReply
FailsInVerdict line is_same out err s =
    ((count : ℕ) × PrintsFirst out count (verdict_line line is_same)) × IsUnsaid out err × (s ≡ 4)

-- ---- a line of a list

-- a name in a list is the path of a file: it is UTF-8, and doesn't stand for standard input
abbrev pub IsFilePath : List ℕ → Type 0
IsFilePath name = IsUtf8 name × (is_standard_path name ≡ false)

-- why it is none, as a line says
abbrev pub IsNoFilePath : List ℕ → List ℕ → Type 0
IsNoFilePath name line =
    ((is_standard_path name ≡ true)
    × (line ≡ ended (codes "edicad: the list names standard input, which is not read")))
    ⊎ (¬ (IsUtf8 name) × (line ≡ ended (codes "edicad: the list names a file by a path that is not UTF-8")))

module _ (run : Effects) (s : Classes) (Says : VerdictReply) (line : ListLine) where
  -- a sheet has no digest, which the errors say as `hash` does; or its name is the path of no file, which they say
  abbrev pub SaysNoDigest : Reply
  SaysNoDigest out err status =
      ((e : RunFault) × IsFilePath line.name × IsAnswerOf run.inputs s line.name (Err e)
      × TellsFault run.why err e line.name status × Prints out [])
      ⊎ ((said : List ℕ) × IsNoFilePath line.name said × Complains out err said × (status ≡ 4))

  -- a sheet: its digest is held against that of its canonical file; or it has none, and has failed
  abbrev pub IsSheetHeld : Reply
  IsSheetHeld out err status =
      ((digest : List ℕ) × IsFilePath line.name × IsAnswerOf run.inputs s line.name (Ok digest)
      × Says line (bytes_eq digest line.digest) out err status)
      ⊎ OneThenOther SaysNoDigest (Says line false) out err status

  -- a schema: its digest is held against that of the schema
  abbrev pub IsLineHeld : Reply
  IsLineHeld out err status =
      MatchBool line.is_schema (Says line (bytes_eq (sha256 (text_of_schema s)) line.digest) out err status)
      (IsSheetHeld out err status)

-- ---- a list

-- each line in its order; or up to one whose verdict the output failed in
abbrev pub AreLinesHeld : Effects → Classes → List ListLine → Reply
AreLinesHeld run s lines = EachUntil (IsLineHeld run s GivesVerdict) (IsLineHeld run s FailsInVerdict) lines

-- The schema of the two files was loaded, the errors got the note on its kinds, and each line was held against what is
-- found under it; or there is no schema, which is said as by `hash`.
abbrev pub AreHeldUnder : Effects → KindCodes → ManyFiles → List ListLine → Reply
AreHeldUnder run kinds files lines out err status =
    ((s : Classes) × (note : List ℕ) × GivesSchema run.inputs kinds files s note
    × OneThenOther (SaysLines note 0) (AreLinesHeld run s lines) out err status)
    ⊎ ((e : RunFault) × LoadFault run.inputs kinds files e
    × TellsFault run.why err e (schema_fault_path files e) status × Prints out [])

-- the text is that of a list with these lines
pub record IsListOf (text : List ℕ) (lines : List ListLine) : Type 0 where
  pub text_is : list_text lines ≡ text
  pub are : AllByRecursion IsListLine lines

-- why an input is no list
abbrev pub LacksList : Effects → Stream → List ℕ → ℕ → Type 0
LacksList = Lacks IsNoList (codes "no list of digests")

-- The status of a run that holds the digests of a list against those that are found; or why there is no list. The list
-- is read first.
abbrev pub IsHeldStatus : Effects → Stream → Stream → KindCodes → ManyFiles → List ℕ → ℕ → Type 0
IsHeldStatus run out err kinds files list status =
    ((lines : List ListLine) × OfWholeInput run.inputs list (λ b. IsListOf b lines)
    × AreHeldUnder run kinds files lines out err status)
    ⊎ (LacksList run err list status × Prints out [])
