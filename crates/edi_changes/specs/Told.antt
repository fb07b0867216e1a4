-- What is said of changes.
use Rattle.std.specs.Prelude.{◌++◌, ◌==◌, ℕ, Bool, true, false, List, [], codes, filter, flat_map, length, if◌then◌else◌}
use Rattle.std.specs.Fmt.{decimal}
use Rattle.std.specs.List.{list_all}
use Rattle.edi_answers.specs.Hashes.{escaped_name, mark_of}
use Rattle.edi_files.specs.Reasons.{ended}
use Rattle.edi_changes.specs.declared.changes.Change.{Change}
use Rattle.edi_changes.specs.declared.changes.Fate.{Fate}
use Rattle.edi_changes.specs.declared.changes.Fate.TheVariants.{New, Gone, Changed, Same}

-- the line on a subject, by the word of what has become of it: a backslash where its name has an escape, the word, and
-- the subject
abbrev pub word_line : List ℕ → List ℕ → List ℕ
word_line word subject = mark_of subject ++ word ++ ended (escaped_name subject)

-- the line on a change; none where nothing has changed
abbrev pub change_line : Fate → List ℕ → List ℕ
change_line New subject = word_line (codes "new ") subject
change_line Gone subject = word_line (codes "gone ") subject
change_line Changed subject = word_line (codes "changed ") subject
change_line Same subject = []

-- a number for each fate, by which they are told apart
abbrev pub fate_number : Fate → ℕ
fate_number New = 0
fate_number Gone = 1
fate_number Changed = 2
fate_number Same = 3

-- how many subjects have a fate
abbrev pub count_of : Fate → List Change → ℕ
count_of fate changes = length (filter (λ (c : Change). fate_number c.fate == fate_number fate) changes)

-- the last line
abbrev pub counts_line : List Change → List ℕ
counts_line changes =
    decimal (count_of New changes) ++ codes " new, "
    ++ decimal (count_of Gone changes) ++ codes " gone, "
    ++ decimal (count_of Changed changes) ++ codes " changed, "
    ++ decimal (count_of Same changes) ++ ended (codes " the same")

-- a line for each subject that is new, gone or changed, and then how many there are
abbrev pub changes_text : List Change → List ℕ
changes_text changes = flat_map (λ (c : Change). change_line c.fate c.subject) changes ++ counts_line changes

abbrev pub is_same : Fate → Bool
is_same New = false
is_same Gone = false
is_same Changed = false
is_same Same = true

-- 0 where each subject is the same, and else 1
abbrev pub status_of_changes : List Change → ℕ
status_of_changes changes = if list_all (λ (c : Change). is_same c.fate) changes then 0 else 1
