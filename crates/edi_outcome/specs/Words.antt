-- The line of each outcome, by the names of the inputs in their order and of the output last.
use Rattle.std.specs.Prelude.{ℕ, ◌-◌, ◌<◌, List, [], ◌∷◌, ◌++◌, ◌||◌, length, codes, ⊤, map, zero, suc, ◌==◌, if◌then◌else◌}
use Rattle.std.proofs.Common.{Bor}
use Rattle.std.specs.Fmt.{decimal}
use Rattle.edi_schema.specs.declared.fault.Source.{Source}
use Rattle.edi_schema.specs.declared.fault.Source.TheVariants.{Scd, Dic}
use Rattle.edi_schema.specs.declared.fault.SchemaFault.{SchemaFault}
use Rattle.edi_schema.specs.declared.fault.SchemaFault.TheVariants as schema
use Rattle.edi_compare.specs.declared.fault.Fault.{Fault as SheetFault}
use Rattle.edi_compare.specs.declared.fault.Fault.TheVariants as sheet
use Rattle.edi_compare.specs.declared.fault.RunFault.{RunFault}
use Rattle.edi_compare.specs.declared.fault.RunFault.TheVariants.{Memory, Read, TooLong, Schema, First, Second, Write}
use Rattle.edi_files.specs.Reasons.{ended}
use Rattle.edi_pairing.specs.UnpairedText.{unpaired_text}
use Rattle.edi_pairing.specs.WrongLines.{reason_words}
use Rattle.edi_pairing.specs.declared.verified.Unpaired.{Unpaired as WhyUnpaired}
use Rattle.edi_shown.specs.Shown.{shown_bytes}
use Rattle.edi_outcome.specs.declared.outcome.Outcome.{Outcome}
use Rattle.edi_outcome.specs.declared.outcome.Outcome.TheVariants.{Accepted, Same, Different, Pairs, Unpaired, WrongPairing, Fault}

-- what references to texts point to
abbrev pub texts : List (Bor (List ℕ)) → List (List ℕ)
texts list = map (λ (text : Bor (List ℕ)). text.now) list

-- the text at a place
abbrev pub text_in : List (List ℕ) → ℕ → List ℕ
text_in [] n = []
text_in (text ∷ list) zero = text
text_in (text ∷ list) (suc n) = text_in list n

abbrev pub source_text : Source → List ℕ
source_text Scd = codes "scd "
source_text Dic = codes "dic "

abbrev pub schema_text : SchemaFault → List ℕ
schema_text (schema.Memory e) = codes "out of memory"
schema_text (schema.Line file rule at) =
    codes "refused " ++ source_text file ++ decimal rule ++ codes " line " ++ decimal at
schema_text (schema.Entry file rule at) =
    codes "refused " ++ source_text file ++ decimal rule ++ codes " record " ++ decimal at
schema_text schema.Kinds = codes "refused kinds 604"

-- the words of a refused sheet, with those that say which
abbrev pub sheet_text : List ℕ → SheetFault → List ℕ
sheet_text which (sheet.Memory e) = codes "out of memory"
sheet_text which (sheet.Line rule at) = codes "refused " ++ which ++ decimal rule ++ codes " line " ++ decimal at
sheet_text which (sheet.Entry rule at) = codes "refused " ++ which ++ decimal rule ++ codes " record " ++ decimal at

-- five names are those of a comparison, and six those of a pairing's check: both have a first sheet
abbrev pub first_text : ℕ → List ℕ
first_text count = if (count == 5) || (count == 6) then codes "first " else []

abbrev pub words_of_fault : RunFault → List (List ℕ) → List ℕ
words_of_fault (Memory e) names = codes "out of memory"
words_of_fault (Read input) names = codes "cannot read " ++ shown_bytes (text_in names (input - 1))
words_of_fault (TooLong input) names = codes "too long " ++ shown_bytes (text_in names (input - 1))
words_of_fault (Schema f) names = schema_text f
words_of_fault (First f) names = sheet_text (first_text (length names)) f
words_of_fault (Second f) names = sheet_text (codes "second ") f
words_of_fault (Write w) names = codes "cannot write " ++ shown_bytes (text_in names (length names - 1))

-- what is wrong with a sheet, where its name stands before it
abbrev pub sheet_fault_text : RunFault → List ℕ
sheet_fault_text (Memory e) = codes "out of memory"
sheet_fault_text (Read input) = codes "cannot read"
sheet_fault_text (TooLong input) = codes "too long"
sheet_fault_text (Schema f) = schema_text f
sheet_fault_text (First f) = sheet_text [] f
sheet_fault_text (Second f) = sheet_text [] f
sheet_fault_text (Write w) = codes "cannot write"

-- that the file of this name doesn't pair, and on the next line why
abbrev pub unpaired_words : List ℕ → WhyUnpaired → List ℕ
unpaired_words file why = ended (codes "does not pair") ++ unpaired_text file why

abbrev pub words_for : Outcome → List (List ℕ) → List ℕ
words_for Accepted names = codes "accepted"
words_for Same names = codes "same"
words_for (Different line) names = codes "different at line " ++ decimal line
words_for Pairs names = codes "pairs"
words_for (Unpaired why) names = unpaired_words (text_in names 4) why
words_for (WrongPairing line why) names =
    codes "refused pairing line " ++ decimal line ++ codes ": " ++ reason_words why
words_for (Fault fault) names = words_of_fault fault names

abbrev pub line_for : Outcome → List (Bor (List ℕ)) → List ℕ
line_for outcome names = ended (words_for outcome (texts names))

-- of so many names each is there that the line of a fault needs: an input has its name before the output's, and the
-- output has one
abbrev pub FaultHasNames : RunFault → ℕ → Type 0
FaultHasNames (Memory e) count = ⊤
FaultHasNames (Read input) count = (0 < input) × (input < count)
FaultHasNames (TooLong input) count = (0 < input) × (input < count)
FaultHasNames (Schema f) count = ⊤
FaultHasNames (First f) count = ⊤
FaultHasNames (Second f) count = ⊤
FaultHasNames (Write w) count = 0 < count

-- the same of an outcome: the fifth is that of a pairing's file
abbrev pub HasNames : Outcome → ℕ → Type 0
HasNames Accepted count = ⊤
HasNames Same count = ⊤
HasNames (Different line) count = ⊤
HasNames Pairs count = ⊤
HasNames (Unpaired why) count = 4 < count
HasNames (WrongPairing line why) count = ⊤
HasNames (Fault fault) count = FaultHasNames fault count
