-- The digests of sheets.
use Rattle.std.specs.Prelude.{◌≡◌, ◌≢◌, ◌⊎◌, ◌≤◌, ◌++◌, ◌==◌, ◌||◌, ℕ, Bool, max, List, [], ◌∷◌, Option, IfSome, IsTrue, codes, flat_map, map, take, if◌then◌else◌}
use Rattle.std.specs.Bool.{MatchBool}
use Rattle.std.specs.List.{AllZip, fold, list_any}
use Rattle.std.proofs.Common.{Result, Ok, Err}
use Rattle.hex.specs.Hex.{encode_lower}
use Rattle.sha2.specs.Sha256.{sha256}
use Rattle.json.specs.Json.{Json as JsonValue}
use Rattle.edi_line.specs.Bytes.{carriage_return, line_feed}
use Rattle.edi_schema.specs.Classes.{Classes, IsSchema}
use Rattle.edi_schema.specs.Roles.{KindCodes}
use Rattle.edi_schema.specs.SchemaRefusal.{IsGoodSchema}
use Rattle.edi_schema.specs.declared.fault.SchemaFault.{SchemaFault as SchemaRefusal}
use Rattle.edi_schema.specs.declared.fault.SchemaFault.TheVariants as schema
use Rattle.edi_schema.specs.declared.fault.Source.TheVariants.{Scd, Dic}
use Rattle.edi_schema_text.specs.SchemaText.{text_of_schema}
use Rattle.edi_compare.specs.Headline.{IsFormOf}
use Rattle.edi_compare.specs.PlanOfFile.{StateSame}
use Rattle.edi_compare.specs.Refused.{IsProper, IsRefusal}
use Rattle.edi_compare.specs.Runs.{MatchFault, RefusesSchema, IfBothKnown}
use Rattle.edi_compare.specs.Under.{OfTwo}
use Rattle.edi_compare.specs.declared.fault.RunFault.{RunFault}
use Rattle.edi_compare.specs.declared.fault.RunFault.TheVariants.{Memory, Read, TooLong, Schema, First, Second, Write}
use Rattle.edi_shown.specs.Shown.{backslash}
use Rattle.edi_files.specs.Reasons.{Why, ended, reason_line}
use Rattle.edi_files.specs.declared.reason.Reason.{Reason}
use Rattle.edi_outcome.specs.Status.{status_of_fault}
use Rattle.edi_outcome.specs.Words.{sheet_fault_text}
use Rattle.edi_json.specs.Texts.{json_text}
use Rattle.edi_json_answers.specs.Digests.{refused_sheet_values, schema_digest_value, sheet_digest_value}
use Rattle.edi_answers.specs.AnswerForms.{AreReadIn}
use Rattle.edi_answers.specs.Reasons.{IsReasonOf}
use Rattle.edi_answers.specs.declared.form.AnswerForm.{AnswerForm}
use Rattle.edi_answers.specs.declared.form.AnswerForm.TheVariants.{Words, Json}
use Rattle.edi_answers.specs.Effects.{Effects, Inputs, Stream}
use Rattle.edi_answers.specs.Hinted.{AreFaultHints}
use Rattle.edi_answers.specs.Notes.{InTurn, IsNote, NamesSomeKinds, WritesNoteIfAny}
use Rattle.edi_answers.specs.SheetRuns.{Gives, HasFailedAt, HoldsTooMuch, IsMissing, IsThere}
use Rattle.edi_answers.specs.Statuses.{IsUnsaid, LacksMemory, OnlyLacksMemory, Prints, PrintsFirst, Warns}
use Rattle.edi_words.specs.declared.words.ManyFiles.{ManyFiles}

-- the digest of the canonical file of the sheet b
abbrev pub IsDigestOf : Classes → List ℕ → List ℕ → Type 0
IsDigestOf s b digest = (c : List ℕ) × IsFormOf s b c × (digest ≡ sha256 c)

-- sheets of one plan have one digest
abbrev pub OnePlanOneDigest : Type 0
OnePlanOneDigest =
    (s : Classes) (a b x y : List ℕ) → IsSchema s → IsDigestOf s a x → IsDigestOf s b y → StateSame s a b → x ≡ y

-- sheets with one digest state one plan, or their canonical files are two and share their SHA-256
abbrev pub OneDigestOnePlan : Type 0
OneDigestOnePlan = (s : Classes) (a b x y : List ℕ) → IsSchema s → IsDigestOf s a x → IsDigestOf s b y → x ≡ y
    → StateSame s a b ⊎ ((c d : List ℕ) × IsFormOf s a c × IsFormOf s b d × (c ≢ d) × (sha256 c ≡ sha256 d))

-- Why the sheet of a path has no digest: it can't be opened; or it was, and fails, is too long or is refused.
abbrev pub HashFault : Inputs → Classes → List ℕ → RunFault → Type 0
HashFault inputs s path e =
    (IsMissing inputs path × (e ≡ Read 3))
    ⊎ (IsThere inputs path × MatchFault e
    (λ n. (n ≡ 3) × HasFailedAt inputs path)
    (λ n. (n ≡ 3) × HoldsTooMuch inputs path)
    (λ _. ⊥)
    (λ f. (contents : Option (List ℕ)) × Gives inputs path contents
    × IfSome contents (λ b. IsProper f × IsRefusal s b f))
    (λ _. ⊥) (λ _. ⊥))

-- what came of the sheet of a path: the digest of its canonical file, or why it has none
abbrev pub IsAnswerOf : Inputs → Classes → List ℕ → Result (List ℕ) RunFault → Type 0
IsAnswerOf inputs s path (Ok digest) =
    (contents : Option (List ℕ)) × Gives inputs path contents × IfSome contents (λ b. IsDigestOf s b digest)
IsAnswerOf inputs s path (Err e) = HashFault inputs s path e

-- the bytes of escapes, `n` and `r`
abbrev pub line_feed_letter : ℕ
line_feed_letter = 110

abbrev pub carriage_return_letter : ℕ
carriage_return_letter = 114

-- a backslash, a line feed or a carriage return, which a line shows by an escape
abbrev pub is_escaped : ℕ → Bool
is_escaped x = (x == backslash) || ((x == line_feed) || (x == carriage_return))

-- a byte as a line shows it: \\, \n and \r stand for those three
abbrev pub escaped_byte : ℕ → List ℕ
escaped_byte x =
    if x == backslash then backslash ∷ backslash ∷ []
    else if x == line_feed then backslash ∷ line_feed_letter ∷ []
    else if x == carriage_return then backslash ∷ carriage_return_letter ∷ []
    else x ∷ []

abbrev pub escaped_name : List ℕ → List ℕ
escaped_name name = flat_map escaped_byte name

-- a backslash before a line whose name has an escape
abbrev pub mark_of : List ℕ → List ℕ
mark_of name = if list_any is_escaped name then backslash ∷ [] else []

-- the digits of the digest, two spaces and the name
abbrev pub digest_line : List ℕ → List ℕ → List ℕ
digest_line digest name = mark_of name ++ encode_lower digest ++ codes "  " ++ escaped_name name ++ line_feed ∷ []

-- a name, as lines of digests show it, and words about it
abbrev pub named_line : List ℕ → List ℕ → List ℕ
named_line name words = mark_of name ++ escaped_name name ++ codes ": " ++ ended words

-- the name, and what is wrong with its sheet
abbrev pub fault_line : RunFault → List ℕ → List ℕ
fault_line e name = mark_of name ++ escaped_name name ++ codes ": " ++ ended (sheet_fault_text e)

-- the values of JSON of what came of the sheet of a path: that of its digest or of its refusal, or none
abbrev pub answer_values : List ℕ → Result (List ℕ) RunFault → List JsonValue
answer_values path (Ok digest) = sheet_digest_value path digest ∷ []
answer_values path (Err e) = refused_sheet_values path e

-- what the output gets of that in a form: as words the line of the digest, and nothing of a fault
abbrev pub answer_text : AnswerForm → List ℕ → Result (List ℕ) RunFault → List ℕ
answer_text Words path (Ok digest) = digest_line digest path
answer_text Words path (Err e) = []
answer_text Json path answer = json_text (answer_values path answer)

-- in this text as JSON a reader finds the values of what came of the sheet of a path
abbrev pub IsAnswerRead : AnswerForm → List ℕ → Result (List ℕ) RunFault → Type 0
IsAnswerRead form path answer = AreReadIn form (answer_values path answer) (answer_text form path answer)

-- what a sheet adds to the output and to the errors, and its status
pub record Step : Type 0 where
  pub out : List ℕ
  pub err : List ℕ
  pub status : ℕ

-- What is said on errors of a fault of the sheet of a path, and the status: the fault's line, then that of its reason,
-- and of a refused sheet the hints on its file and on records of its siblings; without memory for these, or for the
-- lines, words that say so in their place.
abbrev pub IsFaultSaid : Inputs → Why → List (List ℕ) → List ℕ → RunFault → List ℕ → ℕ → Type 0
IsFaultSaid inputs why siblings path e said status =
    ((reason : Option Reason) × IsReasonOf why e path reason
    × (((hints : List ℕ) × AreFaultHints inputs siblings e path hints × (status ≡ status_of_fault e)
    × (said ≡ fault_line e path ++ reason_line (escaped_name path) reason ++ hints))
    ⊎ ((status ≡ 5)
    × (said ≡ fault_line e path ++ reason_line (escaped_name path) reason ++ ended (codes "out of memory")))))
    ⊎ ((status ≡ 5) × (said ≡ ended (codes "out of memory")))

-- the same of what came of the sheet: nothing of a digest
abbrev pub IsAnswerSaid : Inputs → Why → List (List ℕ) → List ℕ → Result (List ℕ) RunFault → List ℕ → ℕ → Type 0
IsAnswerSaid inputs why siblings path (Ok digest) said status = (said ≡ []) × (status ≡ 0)
IsAnswerSaid inputs why siblings path (Err e) said status = IsFaultSaid inputs why siblings path e said status

-- What a sheet adds: to the output the text of what came of it in a form, and to the errors what is said of that;
-- without memory for the text, words that say so on errors in place of both.
abbrev pub IsStep : Inputs → Why → Classes → List (List ℕ) → AnswerForm → List ℕ → Step → Type 0
IsStep inputs why s siblings form path step =
    ((answer : Result (List ℕ) RunFault) × IsAnswerOf inputs s path answer × (step.out ≡ answer_text form path answer)
    × IsAnswerRead form path answer × IsAnswerSaid inputs why siblings path answer step.err step.status)
    ⊎ ((answer : Result (List ℕ) RunFault) × IsAnswerOf inputs s path answer
    × (step ≡ record { out = []; err = ended (codes "out of memory"); status = 5 }))

-- the greatest status
abbrev pub worst_of : List Step → ℕ
worst_of steps = fold (λ worst (step : Step). max worst step.status) 0 steps

-- what all sheets add, in order
abbrev pub said_out : List Step → List ℕ
said_out steps = flat_map (λ (step : Step). step.out) steps

abbrev pub said_err : List Step → List ℕ
said_err steps = flat_map (λ (step : Step). step.err) steps

-- Each sheet was answered, in order: the streams got what the sheets add, and the status is the greatest of theirs.
abbrev pub AreAnswered : Inputs → Why → Classes → List (List ℕ) → AnswerForm → Stream → Stream → List (List ℕ) → ℕ
    → Type 0
AreAnswered inputs why s siblings form out err paths status =
    (steps : List Step) × AllZip (IsStep inputs why s siblings form) paths steps × Prints out (said_out steps)
    × Warns err (said_err steps) × (status ≡ worst_of steps)

-- Each sheet before that of a path was answered, and the output failed in the text of that one.
abbrev pub IsCutOff : Inputs → Why → Classes → List (List ℕ) → AnswerForm → Stream → Stream → List (List ℕ) → ℕ
    → Type 0
IsCutOff inputs why s siblings form out err paths status =
    (done : List (List ℕ)) × (path : List ℕ) × (more : List (List ℕ)) × (steps : List Step)
    × (answer : Result (List ℕ) RunFault) × (count : ℕ)
    × (paths ≡ done ++ path ∷ more) × AllZip (IsStep inputs why s siblings form) done steps
    × IsAnswerOf inputs s path answer × (answer_text form path answer ≢ [])
    × Prints out (said_out steps ++ take count (answer_text form path answer)) × IsTrue out.failed
    × Warns err (said_err steps ++ ended (codes "cannot write standard output")) × (status ≡ 4)

abbrev pub AnswersAll : Inputs → Why → Classes → List (List ℕ) → AnswerForm → Stream → Stream → List (List ℕ) → ℕ
    → Type 0
AnswersAll inputs why s siblings form out err paths status =
    AreAnswered inputs why s siblings form out err paths status
    ⊎ IsCutOff inputs why s siblings form out err paths status

-- the line of a schema: `schema `, and then as that of a sheet its digest, and the name of its file of classes
abbrev pub schema_line : Classes → List ℕ → List ℕ
schema_line s name = codes "schema " ++ digest_line (sha256 (text_of_schema s)) name

-- the value of JSON of a schema: that of its digest
abbrev pub schema_values : Classes → List ℕ → List JsonValue
schema_values s name = schema_digest_value name (sha256 (text_of_schema s)) ∷ []

-- the line of a schema in a form
abbrev pub schema_line_in : AnswerForm → Classes → List ℕ → List ℕ
schema_line_in Words s name = schema_line s name
schema_line_in Json s name = json_text (schema_values s name)

-- in that line as JSON a reader finds the value of the schema
abbrev pub IsSchemaRead : AnswerForm → Classes → List ℕ → Type 0
IsSchemaRead form s name = AreReadIn form (schema_values s name) (schema_line_in form s name)

-- each sheet of the files was answered
abbrev pub AnswersSheets : Inputs → Why → Classes → List (List ℕ) → AnswerForm → Stream → Stream → ManyFiles → ℕ
    → Type 0
AnswersSheets inputs why s siblings form out err files status =
    AnswersAll inputs why s siblings form out err (map (λ p. p.now) files.sheets.items) status

-- The output got the line of the schema, and then each sheet was answered; or the output failed in that line, or there
-- was no memory for it.
abbrev pub AnswersHeaded : Inputs → Why → Classes → List (List ℕ) → AnswerForm → Stream → Stream → ManyFiles → ℕ
    → Type 0
AnswersHeaded inputs why s siblings form out err files status =
    (InTurn out (λ o. Prints o (schema_line_in form s files.scd.now))
    (λ o. AnswersSheets inputs why s siblings form o err files status) × IsSchemaRead form s files.scd.now)
    ⊎ (((count : ℕ) × PrintsFirst out count (schema_line_in form s files.scd.now) × IsUnsaid out err × (status ≡ 4))
    ⊎ (OnlyLacksMemory out err × (status ≡ 5)))

-- each sheet was answered, behind the line of the schema where it is asked for
abbrev pub AnswersUnder : Inputs → Why → Classes → List (List ℕ) → AnswerForm → Stream → Stream → ManyFiles → Bool → ℕ
    → Type 0
AnswersUnder inputs why s siblings form out err files with_schema status =
    MatchBool with_schema (AnswersHeaded inputs why s siblings form out err files status)
    (AnswersSheets inputs why s siblings form out err files status)

-- The schema of the two files, where their contents are known; and the note on its kinds: that on the file of classes,
-- where its contents are known, and where they are not, one that names some of the four kinds, or none.
abbrev pub GivesSchema : Inputs → KindCodes → ManyFiles → Classes → List ℕ → Type 0
GivesSchema inputs kinds files s note = (scd dic : Option (List ℕ)) × Gives inputs files.scd.now scd
    × Gives inputs files.dic.now dic × IfBothKnown scd dic (λ a b. IsGoodSchema a b kinds s)
    × NamesSomeKinds (escaped_name files.scd.now) note
    × IfSome scd (λ a. IsNote kinds a (escaped_name files.scd.now) note)

-- the path of an input of two
abbrev pub schema_path_at : ManyFiles → ℕ → List ℕ
schema_path_at files n = if n == 1 then files.scd.now else files.dic.now

-- the two files of the schema, where their contents are known, are refused
abbrev pub RefusesFiles : Inputs → KindCodes → ManyFiles → SchemaRefusal → Type 0
RefusesFiles inputs kinds files f =
    (scd dic : Option (List ℕ)) × Gives inputs files.scd.now scd × Gives inputs files.dic.now dic
    × IfBothKnown scd dic (λ a b. RefusesSchema kinds a b f)

-- Why there is no schema. One of the two files is missing; or both were opened, and this one failed or is too long, or
-- the schema is refused.
abbrev pub LoadFault : Inputs → KindCodes → ManyFiles → RunFault → Type 0
LoadFault inputs kinds files e =
    ((n : ℕ) × OfTwo n (IsThere inputs files.scd.now) (IsMissing inputs files.scd.now) (IsMissing inputs files.dic.now)
    × (e ≡ Read n))
    ⊎ (IsThere inputs files.scd.now × IsThere inputs files.dic.now × MatchFault e
    (λ n. (1 ≤ n) × (n ≤ 2) × HasFailedAt inputs (schema_path_at files n))
    (λ n. (1 ≤ n) × (n ≤ 2) × HoldsTooMuch inputs (schema_path_at files n))
    (RefusesFiles inputs kinds files)
    (λ _. ⊥) (λ _. ⊥) (λ _. ⊥))

-- the file of a refused schema: that of the classes where the kinds of links are wrong, or memory ran out
abbrev pub refused_path : ManyFiles → SchemaRefusal → List ℕ
refused_path files (schema.Memory e) = files.scd.now
refused_path files (schema.Line Scd rule at) = files.scd.now
refused_path files (schema.Line Dic rule at) = files.dic.now
refused_path files (schema.Entry Scd rule at) = files.scd.now
refused_path files (schema.Entry Dic rule at) = files.dic.now
refused_path files schema.Kinds = files.scd.now

-- the file that keeps a schema from being loaded
abbrev pub schema_fault_path : ManyFiles → RunFault → List ℕ
schema_fault_path files (Memory e) = files.scd.now
schema_fault_path files (Read input) = schema_path_at files input
schema_fault_path files (TooLong input) = schema_path_at files input
schema_fault_path files (Schema f) = refused_path files f
schema_fault_path files (First f) = []
schema_fault_path files (Second f) = []
schema_fault_path files (Write w) = []

-- what standard error was told of a fault at a path, and the status: its line, and then that of its reason; or that
-- there is no memory for them
abbrev pub TellsFault : Why → Stream → RunFault → List ℕ → ℕ → Type 0
TellsFault why err e path s =
    ((s ≡ status_of_fault e) × ((reason : Option Reason) × IsReasonOf why e path reason
    × Warns err (fault_line e path ++ reason_line (escaped_name path) reason)))
    ⊎ ((s ≡ 5) × LacksMemory err)

-- The status of a run over many sheets, with the siblings in which records are looked for. The schema is loaded, the
-- errors got the note on its kinds first, and each sheet was answered under it in a form, behind its line where that is
-- asked for, or the output failed; or there is none, which is said of its file, and the output got nothing.
abbrev pub IsHashStatus : Effects → Stream → Stream → KindCodes → ManyFiles → AnswerForm → Bool → List (List ℕ) → ℕ
    → Type 0
IsHashStatus run out err kinds files form with_schema siblings status =
    ((s : Classes) × (note : List ℕ) × GivesSchema run.inputs kinds files s note
    × InTurn err (λ e. WritesNoteIfAny e note)
    (λ e. AnswersUnder run.inputs run.why s siblings form out e files with_schema status))
    ⊎ ((e : RunFault) × LoadFault run.inputs kinds files e × TellsFault run.why err e (schema_fault_path files e) status
    × Prints out [])
