-- All that many sheets break, and how often each rule is broken.
use Rattle.std.specs.Prelude.{◌≡◌, ◌≢◌, ◌⊎◌, ◌++◌, ◌==◌, ℕ, zero, suc, max, List, [], ◌∷◌, Option, IfSome, IsTrue, codes, count_by, flat_map, map, take}
use Rattle.std.specs.List.{AllZip, fold}
use Rattle.std.specs.Fmt.{decimal}
use Rattle.edi_line.specs.AllBroken.{AreAllBroken}
use Rattle.edi_census.specs.Listed.{ListsBroken}
use Rattle.edi_line.specs.declared.broken.BrokenRule.{BrokenRule}
use Rattle.edi_schema.specs.Classes.{Classes}
use Rattle.edi_schema.specs.Roles.{KindCodes}
use Rattle.edi_compare.specs.Rules.{Breaks}
use Rattle.edi_compare.specs.Runs.{MatchFault}
use Rattle.edi_compare.specs.declared.fault.RunFault.{RunFault}
use Rattle.edi_compare.specs.declared.fault.RunFault.TheVariants.{Read}
use Rattle.edi_explain.specs.Rules.{line_rules, object_rules, record_rules, reference_rules, topology_rules}
use Rattle.edi_shown.specs.Shown.{shown_bytes}
use Rattle.edi_files.specs.Reasons.{Why, ended, reason_line}
use Rattle.edi_files.specs.declared.reason.Reason.{Reason}
use Rattle.edi_outcome.specs.Status.{status_of_fault}
use Rattle.edi_words.specs.declared.words.ManyFiles.{ManyFiles}
use Rattle.edi_json_answers.specs.BrokenSheets.{IsTextOfValues, all_broken_values, rule_count_value}
use Rattle.edi_json_answers.specs.declared.broken_sheets.RuleCount.{RuleCount}
use Rattle.edi_answers.specs.Effects.{Effects, Inputs, Stream}
use Rattle.edi_answers.specs.Hashes.{GivesSchema, LoadFault, TellsFault, escaped_name, fault_line, schema_fault_path}
use Rattle.edi_answers.specs.Notes.{InTurn, WritesNoteIfAny}
use Rattle.edi_answers.specs.Paths.{input_name}
use Rattle.edi_answers.specs.Reasons.{IsReasonOf}
use Rattle.edi_answers.specs.SheetRuns.{Gives, HasFailedAt, HoldsTooMuch, IsMissing, IsThere}
use Rattle.edi_answers.specs.Statuses.{Prints, Warns}
use Rattle.edi_answers.specs.declared.form.AnswerForm.{AnswerForm}
use Rattle.edi_answers.specs.declared.form.AnswerForm.TheVariants.{Words, Json}

-- why the sheet of a path can't be read: it can't be opened; or it was, and fails or is too long
abbrev pub SheetReadFault : Inputs → List ℕ → RunFault → Type 0
SheetReadFault inputs path e =
    (IsMissing inputs path × (e ≡ Read 3))
    ⊎ (IsThere inputs path × MatchFault e
    (λ n. (n ≡ 3) × HasFailedAt inputs path)
    (λ n. (n ≡ 3) × HoldsTooMuch inputs path)
    (λ _. ⊥) (λ _. ⊥) (λ _. ⊥) (λ _. ⊥))

-- the line of words of an accepted sheet
abbrev pub accepted_line : List ℕ → List ℕ
accepted_line path = shown_bytes (input_name path) ++ codes ": " ++ ended (codes "accepted")

-- the lines of words on all that the sheet b of a path breaks: one for each place and rule, or that it is accepted
pub record IsToldInWords (b path : List ℕ) (broken : List BrokenRule) (text : List ℕ) : Type 0 where
  pub accepted : broken ≡ [] → text ≡ accepted_line path
  pub refused : broken ≢ [] → ListsBroken b (input_name path) broken text

-- the lines in a form on all that the sheet b of a path breaks
abbrev pub IsToldIn : AnswerForm → List ℕ → List ℕ → List BrokenRule → List ℕ → Type 0
IsToldIn Words b path broken text = IsToldInWords b path broken text
IsToldIn Json b path broken text = IsTextOfValues text (all_broken_values (input_name path) broken)

-- all that the sheet b of a path breaks, and the lines on it in a form
pub record TellsAll (s : Classes) (form : AnswerForm) (b path : List ℕ) (broken : List BrokenRule) (text : List ℕ)
    : Type 0 where
  pub all : AreAllBroken (Breaks s b) broken
  pub told : IsToldIn form b path broken text

-- what the contents of the sheet of a path break, and the lines on it, where these contents are known
abbrev pub TellsAllOf : Inputs → Classes → AnswerForm → List ℕ → List BrokenRule → List ℕ → Type 0
TellsAllOf inputs s form path broken text =
    (contents : Option (List ℕ)) × Gives inputs path contents
    × IfSome contents (λ b. TellsAll s form b path broken text)

-- accepted where nothing is broken, and else refused
abbrev pub status_of_all : List BrokenRule → ℕ
status_of_all [] = 0
status_of_all (it ∷ others) = 2

-- what a sheet adds to the output and to the errors, its status, and the rule of each place at which it breaks one
pub record Share : Type 0 where
  pub out : List ℕ
  pub err : List ℕ
  pub status : ℕ
  pub rules : List ℕ

-- What a sheet adds: the lines on all that it breaks; or on errors the line of a fault and that of its reason, or
-- words that say that there was no memory for these.
abbrev pub IsShare : Inputs → Why → Classes → AnswerForm → List ℕ → Share → Type 0
IsShare inputs why s form path share =
    ((broken : List BrokenRule) × (text : List ℕ) × TellsAllOf inputs s form path broken text
    × (share ≡ record { out = text; err = []; status = status_of_all broken; rules = map (λ it. it.rule) broken }))
    ⊎ (((e : RunFault) × (reason : Option Reason) × SheetReadFault inputs path e × IsReasonOf why e path reason
    × (share ≡ record {
      out = [];
      err = fault_line e path ++ reason_line (escaped_name path) reason;
      status = status_of_fault e;
      rules = [];
    }))
    ⊎ (share ≡ record { out = []; err = ended (codes "out of memory"); status = 5; rules = [] }))

-- what all sheets add to the output and to the errors, in order, the greatest status, and the rules that they break
abbrev pub shared_out : List Share → List ℕ
shared_out shares = flat_map (λ (share : Share). share.out) shares

abbrev pub shared_err : List Share → List ℕ
shared_err shares = flat_map (λ (share : Share). share.err) shares

abbrev pub worst_share : List Share → ℕ
worst_share shares = fold (λ worst (share : Share). max worst share.status) 0 shares

abbrev pub shared_rules : List Share → List ℕ
shared_rules shares = flat_map (λ (share : Share). share.rules) shares

-- the rules of sheets, in the order of their numbers
abbrev pub sheet_rules : List ℕ
sheet_rules = (((line_rules ++ record_rules) ++ reference_rules) ++ topology_rules) ++ object_rules

-- a rule, and how often it is broken; nothing for one that isn't
abbrev pub rule_count : ℕ → ℕ → List RuleCount
rule_count rule zero = []
rule_count rule (suc n) = record { rule = rule; count = suc n } ∷ []

-- each rule that is broken and how often, in the order of their numbers, where a list has the rule of each place
abbrev pub rule_counts : List ℕ → List RuleCount
rule_counts broken = flat_map (λ rule. rule_count rule (count_by (λ r. r == rule) broken)) sheet_rules

-- the line of words of how often a rule is broken
abbrev pub rule_count_line : RuleCount → List ℕ
rule_count_line it = ended (codes "rule " ++ decimal it.rule ++ codes ": " ++ decimal it.count)

-- the lines in a form of how often each rule is broken, where a list has the rule of each place
abbrev pub IsCountedIn : AnswerForm → List ℕ → List ℕ → Type 0
IsCountedIn Words broken text = text ≡ flat_map rule_count_line (rule_counts broken)
IsCountedIn Json broken text = IsTextOfValues text (map rule_count_value (rule_counts broken))

-- the output failed in a text, behind what it had got; the errors got what they had got, and words that say so
pub record IsCutIn (out err : Stream) (said told text : List ℕ) (status : ℕ) : Type 0 where
  pub count : ℕ
  pub prints : Prints out (said ++ take count text)
  pub failed : IsTrue out.failed
  pub warns : Warns err (told ++ ended (codes "cannot write standard output"))
  pub status_is : status ≡ 4

-- What came of the sheets of these paths: each added what it adds, and then came the counts; or the output failed in
-- the lines of one, or in the counts; or there was no memory for the counts, which the errors say.
pub data AnswersCensus (inputs : Inputs) (why : Why) (s : Classes) (form : AnswerForm) (out err : Stream)
    (paths : List (List ℕ)) (status : ℕ) : Type 0 where
  counted : (shares : List Share) (counts : List ℕ) → AllZip (IsShare inputs why s form) paths shares
      → IsCountedIn form (shared_rules shares) counts → Prints out (shared_out shares ++ counts)
      → Warns err (shared_err shares) → status ≡ worst_share shares
      → AnswersCensus inputs why s form out err paths status
  cut_in_sheet : (done more : List (List ℕ)) (path : List ℕ) (shares : List Share) (broken : List BrokenRule)
      (text : List ℕ) → paths ≡ done ++ path ∷ more → AllZip (IsShare inputs why s form) done shares
      → TellsAllOf inputs s form path broken text → IsCutIn out err (shared_out shares) (shared_err shares) text status
      → AnswersCensus inputs why s form out err paths status
  cut_in_counts : (shares : List Share) (counts : List ℕ) → AllZip (IsShare inputs why s form) paths shares
      → IsCountedIn form (shared_rules shares) counts
      → IsCutIn out err (shared_out shares) (shared_err shares) counts status
      → AnswersCensus inputs why s form out err paths status
  uncounted : (shares : List Share) → AllZip (IsShare inputs why s form) paths shares → Prints out (shared_out shares)
      → Warns err (shared_err shares ++ ended (codes "out of memory")) → status ≡ 5
      → AnswersCensus inputs why s form out err paths status

-- The status of a run that lists all that sheets break in a form. The schema is loaded, the errors got the note on its
-- kinds first, and each sheet was answered under it; or there is none, which is said of its file, and the output got
-- nothing.
abbrev pub IsCensusStatus : Effects → Stream → Stream → KindCodes → ManyFiles → AnswerForm → ℕ → Type 0
IsCensusStatus run out err kinds files form status =
    ((s : Classes) × (note : List ℕ) × GivesSchema run.inputs kinds files s note
    × InTurn err (λ e. WritesNoteIfAny e note)
    (λ e. AnswersCensus run.inputs run.why s form out e (map (λ p. p.now) files.sheets.items) status))
    ⊎ ((e : RunFault) × LoadFault run.inputs kinds files e × TellsFault run.why err e (schema_fault_path files e) status
    × Prints out [])
