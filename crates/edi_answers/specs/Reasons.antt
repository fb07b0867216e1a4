-- Which faults have a reason, and the line that says it.
use Rattle.std.specs.Prelude.{◌≡◌, ◌++◌, ℕ, ◌==◌, List, [], Option, None, codes, if◌then◌else◌}
use Rattle.std.specs.Fmt.{decimal}
use Rattle.std.specs.Bool.{MatchBool}
use Rattle.edi_compare.specs.declared.fault.RunFault.{RunFault}
use Rattle.edi_compare.specs.declared.fault.RunFault.TheVariants.{Memory, Read, TooLong, Schema, First, Second, Write}
use Rattle.edi_files.specs.Reasons.{Why, ended, reason_line}
use Rattle.edi_files.specs.declared.reason.Reason.{Reason}
use Rattle.edi_shown.specs.Shown.{shown_bytes}
use Rattle.edi_words.specs.Requests.{is_standard_path}
use Rattle.edi_outcome.specs.Words.{words_for}
use Rattle.edi_answers.specs.Paths.{names_of_paths, output_name, path_for, path_of_fault}
use Rattle.edi_outcome.specs.declared.outcome.Outcome.{Outcome}
use Rattle.edi_outcome.specs.declared.outcome.Outcome.TheVariants.{Accepted, Same, Different, Pairs, Unpaired, WrongPairing, Fault}

-- a standard stream has no reason, and a path the one that the folder gives
abbrev pub IsReasonAt : Why → List ℕ → Option Reason → Type 0
IsReasonAt why path reason = MatchBool (is_standard_path path) (reason ≡ None) (why path reason)

-- the reason of a fault at a path: only what can't be read or written has one
abbrev pub IsReasonOf : Why → RunFault → List ℕ → Option Reason → Type 0
IsReasonOf why (Memory e) path reason = reason ≡ None
IsReasonOf why (Read input) path reason = IsReasonAt why path reason
IsReasonOf why (TooLong input) path reason = reason ≡ None
IsReasonOf why (Schema f) path reason = reason ≡ None
IsReasonOf why (First f) path reason = reason ≡ None
IsReasonOf why (Second f) path reason = reason ≡ None
IsReasonOf why (Write w) path reason = IsReasonAt why path reason

-- the reason of an outcome, by the paths of the inputs and then of the output
abbrev pub IsReason : Why → Outcome → List (List ℕ) → Option Reason → Type 0
IsReason why Accepted paths reason = reason ≡ None
IsReason why Same paths reason = reason ≡ None
IsReason why (Different line) paths reason = reason ≡ None
IsReason why Pairs paths reason = reason ≡ None
IsReason why (Unpaired w) paths reason = reason ≡ None
IsReason why (WrongPairing line wrong) paths reason = reason ≡ None
IsReason why (Fault e) paths reason = IsReasonOf why e (path_of_fault e paths) reason

-- the line on so many bytes that a stream of this path took before it failed, where it took any
abbrev pub taken_line : List ℕ → ℕ → List ℕ
taken_line path count = if count == 0 then []
    else ended (codes "edicad: " ++ shown_bytes (output_name path) ++ codes ": the first " ++ decimal count
    ++ codes " bytes were written")

-- that line of a fault at a path: only writing leaves a part
abbrev pub length_line : RunFault → List ℕ → List ℕ
length_line (Memory e) path = []
length_line (Read input) path = []
length_line (TooLong input) path = []
length_line (Schema f) path = []
length_line (First f) path = []
length_line (Second f) path = []
length_line (Write w) path = taken_line path w.count

-- and of an outcome, by the paths of the inputs and then of the output
abbrev pub length_line_for : Outcome → List (List ℕ) → List ℕ
length_line_for Accepted paths = []
length_line_for Same paths = []
length_line_for (Different line) paths = []
length_line_for Pairs paths = []
length_line_for (Unpaired w) paths = []
length_line_for (WrongPairing line wrong) paths = []
length_line_for (Fault e) paths = length_line e (path_of_fault e paths)

-- the line of an outcome, then that of its reason, then that of how much was written
abbrev pub lines_for : Outcome → List (List ℕ) → Option Reason → List ℕ
lines_for outcome paths reason =
    (ended (words_for outcome (names_of_paths paths)) ++ reason_line (shown_bytes (path_for outcome paths)) reason)
    ++ length_line_for outcome paths
