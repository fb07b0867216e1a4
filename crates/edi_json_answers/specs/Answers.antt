-- The value of JSON of each outcome (docs/JSON.md, "Answers"), by the names of the inputs in their order and of the
-- output last.
use Rattle.std.specs.Prelude.{ℕ, List, Option, Some, None, ◌||◌, ◌==◌, codes, length, if◌then◌else◌}
use Rattle.json.specs.Json.{Json, Members, member, no_members, null, string}
use Rattle.edi_schema.specs.declared.fault.Source.{Source}
use Rattle.edi_schema.specs.declared.fault.Source.TheVariants.{Scd, Dic}
use Rattle.edi_schema.specs.declared.fault.SchemaFault.{SchemaFault}
use Rattle.edi_schema.specs.declared.fault.SchemaFault.TheVariants as schema
use Rattle.edi_compare.specs.declared.fault.Fault.{Fault as SheetFault}
use Rattle.edi_compare.specs.declared.fault.Fault.TheVariants as sheet
use Rattle.edi_compare.specs.declared.fault.RunFault.{RunFault}
use Rattle.edi_compare.specs.declared.fault.RunFault.TheVariants.{Memory, Read, TooLong, Schema, First, Second, Write}
use Rattle.edi_pairing.specs.UnpairedText.{unpaired_text}
use Rattle.edi_pairing.specs.WrongLines.{reason_words}
use Rattle.edi_pairing.specs.declared.verified.Unpaired.{Unpaired as WhyUnpaired}
use Rattle.edi_outcome.specs.Words.{text_in, words_of_fault}
use Rattle.edi_outcome.specs.declared.outcome.Outcome.{Outcome}
use Rattle.edi_outcome.specs.declared.outcome.Outcome.TheVariants.{Accepted, Same, Different, Pairs, Unpaired, WrongPairing, Fault}
use Rattle.edi_json.specs.Values.{line_value, number_value, text_value}

-- the value of a line that tells an answer, and then more of it
abbrev pub answer_value : List ℕ → Members → Json
answer_value answer told = line_value (codes "answer") (member (codes "answer") (string answer) told)

-- an answer with its reason in words
abbrev pub reasoned_value : List ℕ → List ℕ → Json
reasoned_value answer why = answer_value answer (member (codes "why") (text_value why) no_members)

-- a number where there is one
abbrev pub number_or_null : Option ℕ → Json
number_or_null None = null
number_or_null (Some n) = number_value n

-- what a line says of a sheet that breaks a rule: the name of its file, the rule, and the line or the record where it
-- does
abbrev pub broken_at_value : List ℕ → List ℕ → ℕ → Option ℕ → Option ℕ → Json
broken_at_value what name rule line place = line_value what (member (codes "name") (text_value name)
    (member (codes "rule") (number_value rule) (member (codes "line") (number_or_null line)
    (member (codes "record") (number_or_null place) no_members))))

-- what is refused: the file, the rule that it breaks, the line or the record where it does, and why in words
abbrev pub refused_value : List ℕ → Json → Json → Json → Json → Json
refused_value file rule line place why = answer_value (codes "refused") (member (codes "file") (string file)
    (member (codes "rule") rule (member (codes "line") line (member (codes "record") place
    (member (codes "why") why no_members)))))

-- a file that breaks a rule, at a line, at a record, or at neither
abbrev pub broken_value : List ℕ → ℕ → Option ℕ → Option ℕ → Json
broken_value file rule line place =
    refused_value file (number_value rule) (number_or_null line) (number_or_null place) null

-- a file of a pairing that states none, the line that is wrong, and why
abbrev pub wrong_pairing_value : ℕ → List ℕ → Json
wrong_pairing_value line why = refused_value (codes "pairing") null (number_value line) null (text_value why)

-- the word for one of a schema's files
abbrev pub source_word : Source → List ℕ
source_word Scd = codes "scd"
source_word Dic = codes "dic"

-- the word for the first sheet, where there are so many names: five are those of a comparison, and six those of a
-- pairing's check
abbrev pub first_word : ℕ → List ℕ
first_word count = if (count == 5) || (count == 6) then codes "first" else codes "sheet"

-- a run that has failed, with the words of its line
abbrev pub failed_value : RunFault → List (List ℕ) → Json
failed_value fault names = reasoned_value (codes "failed") (words_of_fault fault names)

-- a schema that is refused, or for which there is no memory
abbrev pub schema_value : SchemaFault → Json
schema_value (schema.Memory e) = reasoned_value (codes "failed") (codes "out of memory")
schema_value (schema.Line file rule at) = broken_value (source_word file) rule (Some at) None
schema_value (schema.Entry file rule at) = broken_value (source_word file) rule None (Some at)
schema_value schema.Kinds = broken_value (codes "kinds") 604 None None

-- the same of a sheet, with the word that says which
abbrev pub sheet_value : List ℕ → SheetFault → Json
sheet_value which (sheet.Memory e) = reasoned_value (codes "failed") (codes "out of memory")
sheet_value which (sheet.Line rule at) = broken_value which rule (Some at) None
sheet_value which (sheet.Entry rule at) = broken_value which rule None (Some at)

-- a run without an answer: something is refused, or something has failed
abbrev pub fault_value : RunFault → List (List ℕ) → Json
fault_value (Memory e) names = failed_value (Memory e) names
fault_value (Read input) names = failed_value (Read input) names
fault_value (TooLong input) names = failed_value (TooLong input) names
fault_value (Schema f) names = schema_value f
fault_value (First f) names = sheet_value (first_word (length names)) f
fault_value (Second f) names = sheet_value (codes "second") f
fault_value (Write w) names = failed_value (Write w) names

-- two sheets whose canonical files first differ at this line
abbrev pub different_value : ℕ → Json
different_value line = answer_value (codes "different") (member (codes "line") (number_value line) no_members)

-- a pairing that doesn't carry, by the name of its file, and why
abbrev pub unpaired_value : List ℕ → WhyUnpaired → Json
unpaired_value file why = reasoned_value (codes "unpaired") (unpaired_text file why)

-- the value of an outcome
abbrev pub outcome_value : Outcome → List (List ℕ) → Json
outcome_value Accepted names = answer_value (codes "accepted") no_members
outcome_value Same names = answer_value (codes "same") no_members
outcome_value (Different line) names = different_value line
outcome_value Pairs names = answer_value (codes "pairs") no_members
outcome_value (Unpaired why) names = unpaired_value (text_in names 4) why
outcome_value (WrongPairing line why) names = wrong_pairing_value line (reason_words why)
outcome_value (Fault fault) names = fault_value fault names
