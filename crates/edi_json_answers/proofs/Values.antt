-- The values of answers and digests: they are shallow, and their numbers are printed.
use Rattle.std.proofs.Common.{◌≡◌, ◌≤◌, ℕ, List, [], ◌∷◌, Option, Some, None, arith, codes, length, refl}
use Rattle.std.specs.List.{AllByRecursion}
use Rattle.edi_line.proofs.EachElement.{each_of_both}
use Rattle.json.specs.Json.{Json, max_depth, no_members, null}
use Rattle.json.specs.Token.{Token}
use Rattle.json.specs.Tree.{depth, json_tokens}
use Rattle.edi_schema.specs.declared.fault.SchemaFault.{SchemaFault}
use Rattle.edi_schema.specs.declared.fault.SchemaFault.TheVariants as schema
use Rattle.edi_compare.specs.declared.fault.Fault.{Fault as SheetFault}
use Rattle.edi_compare.specs.declared.fault.Fault.TheVariants as sheet
use Rattle.edi_compare.specs.declared.fault.RunFault.{RunFault}
use Rattle.edi_compare.specs.declared.fault.RunFault.TheVariants.{Memory, Read, TooLong, Schema, First, Second, Write}
use Rattle.edi_pairing.specs.UnpairedText.{unpaired_text}
use Rattle.edi_pairing.specs.WrongLines.{reason_words}
use Rattle.edi_outcome.specs.Words.{text_in, words_of_fault}
use Rattle.edi_outcome.specs.declared.outcome.Outcome.{Outcome}
use Rattle.edi_outcome.specs.declared.outcome.Outcome.TheVariants.{Accepted, Same, Different, Pairs, Unpaired, WrongPairing, Fault}
use Rattle.edi_json.specs.Values.{number_value, text_value}
use Rattle.edi_json.proofs.PlainTexts.{IsPlainToken, plain_decimal}
use Rattle.edi_json_answers.specs.Digests.{digest_value}
use Rattle.edi_json_answers.specs.Answers.{answer_value, broken_at_value, broken_value, different_value, failed_value, fault_value, first_word, number_or_null, outcome_value, reasoned_value, refused_value, schema_value, sheet_value, source_word, wrong_pairing_value}

-- a value that can stand in a line: it is shallow, and its numbers are printed
pub record IsFit (value : Json) : Type 0 where
  pub shallow : depth value ≤ max_depth
  pub plain : AllByRecursion IsPlainToken (json_tokens value)

-- a value without parts, whose number is printed
pub record IsFlat (value : Json) : Type 0 where
  pub flat : depth value ≡ 0
  pub plain : AllByRecursion IsPlainToken (json_tokens value)

number_flat : (n : ℕ) → IsFlat (number_value n)
number_flat n = record { flat = refl; plain = (plain_decimal n, tt) }

null_flat : IsFlat null
null_flat = record { flat = refl; plain = (tt, tt) }

text_flat : (bytes : List ℕ) → IsFlat (text_value bytes)
text_flat bytes = record { flat = refl; plain = (tt, tt) }

pub number_or_null_flat : (n : Option ℕ) → IsFlat (number_or_null n)
number_or_null_flat None = null_flat
number_or_null_flat (Some n) = number_flat n

pub bare_fit : (answer : List ℕ) → IsFit (answer_value answer no_members)
bare_fit answer = record { shallow = omega arith; plain = (tt, (tt, (plain_decimal 1, (tt, (tt, (tt, (tt, (tt, tt)))))))) }

reasoned_fit : (answer why : List ℕ) → IsFit (reasoned_value answer why)
reasoned_fit answer why =
    record { shallow = omega arith; plain = (tt, (tt, (plain_decimal 1, (tt, (tt, (tt, (tt, (tt, (tt, (tt, tt)))))))))) }

different_fit : (line : ℕ) → IsFit (different_value line)
different_fit line =
    record { shallow = omega arith; plain = (tt, (tt, (plain_decimal 1, (tt, (tt, (tt, (tt, (tt, (plain_decimal line, (tt, tt)))))))))) }

refused_fit : (file : List ℕ) (rule line place why : Json) → IsFlat rule → IsFlat line → IsFlat place → IsFlat why → IsFit (refused_value file rule line place why)
refused_fit file rule line place why rule_flat line_flat place_flat why_flat =
    let ends = each_of_both IsPlainToken (json_tokens why) (Token.end_object ∷ []) why_flat.plain (tt, tt) in
    let places = each_of_both IsPlainToken (json_tokens place) _ place_flat.plain (tt, ends) in
    let lines = each_of_both IsPlainToken (json_tokens line) _ line_flat.plain (tt, places) in
    let rules = each_of_both IsPlainToken (json_tokens rule) _ rule_flat.plain (tt, lines) in
    record {
      shallow = omega (arith, rule_flat.flat, line_flat.flat, place_flat.flat, why_flat.flat);
      plain = (tt, (tt, (plain_decimal 1, (tt, (tt, (tt, (tt, (tt, (tt, (tt, rules))))))))));
    }

broken_fit : (file : List ℕ) (rule : ℕ) (line place : Option ℕ) → IsFit (broken_value file rule line place)
broken_fit file rule line place =
    refused_fit file _ _ _ _ (number_flat rule) (number_or_null_flat line) (number_or_null_flat place) null_flat

wrong_pairing_fit : (line : ℕ) (why : List ℕ) → IsFit (wrong_pairing_value line why)
wrong_pairing_fit line why = refused_fit (codes "pairing") _ _ _ _ null_flat (number_flat line) null_flat (text_flat why)

pub schema_fit : (f : SchemaFault) → IsFit (schema_value f)
schema_fit (schema.Memory e) = reasoned_fit (codes "failed") (codes "out of memory")
schema_fit (schema.Line file rule at) = broken_fit (source_word file) rule (Some at) None
schema_fit (schema.Entry file rule at) = broken_fit (source_word file) rule None (Some at)
schema_fit schema.Kinds = broken_fit (codes "kinds") 604 None None

pub sheet_fit : (which : List ℕ) (f : SheetFault) → IsFit (sheet_value which f)
sheet_fit which (sheet.Memory e) = reasoned_fit (codes "failed") (codes "out of memory")
sheet_fit which (sheet.Line rule at) = broken_fit which rule (Some at) None
sheet_fit which (sheet.Entry rule at) = broken_fit which rule None (Some at)

pub digest_fit : (of name digits : List ℕ) → IsFit (digest_value of name digits)
digest_fit of name digits =
    record { shallow = omega arith; plain = (tt, (tt, (plain_decimal 1, (tt, (tt, (tt, (tt, (tt, (tt, (tt, (tt, (tt, tt)))))))))))) }

pub broken_at_fit : (what name : List ℕ) (rule : ℕ) (line place : Option ℕ) → IsFit (broken_at_value what name rule line place)
broken_at_fit what name rule line place =
    let line_flat = number_or_null_flat line in
    let place_flat = number_or_null_flat place in
    let places = each_of_both IsPlainToken (json_tokens (number_or_null place)) (Token.end_object ∷ []) place_flat.plain (tt, tt) in
    let lines = each_of_both IsPlainToken (json_tokens (number_or_null line)) _ line_flat.plain (tt, places) in
    record {
      shallow = omega (arith, line_flat.flat, place_flat.flat);
      plain = (tt, (tt, (plain_decimal 1, (tt, (tt, (tt, (tt, (tt, (plain_decimal rule, (tt, lines))))))))));
    }

failed_fit : (fault : RunFault) (names : List (List ℕ)) → IsFit (failed_value fault names)
failed_fit fault names = reasoned_fit (codes "failed") (words_of_fault fault names)

fault_fit : (fault : RunFault) (names : List (List ℕ)) → IsFit (fault_value fault names)
fault_fit (Memory e) names = failed_fit (Memory e) names
fault_fit (Read input) names = failed_fit (Read input) names
fault_fit (TooLong input) names = failed_fit (TooLong input) names
fault_fit (Schema f) names = schema_fit f
fault_fit (First f) names = sheet_fit (first_word (length names)) f
fault_fit (Second f) names = sheet_fit (codes "second") f
fault_fit (Write w) names = failed_fit (Write w) names

pub outcome_fit : (outcome : Outcome) (names : List (List ℕ)) → IsFit (outcome_value outcome names)
outcome_fit Accepted names = bare_fit (codes "accepted")
outcome_fit Same names = bare_fit (codes "same")
outcome_fit (Different line) names = different_fit line
outcome_fit Pairs names = bare_fit (codes "pairs")
outcome_fit (Unpaired why) names = reasoned_fit (codes "unpaired") (unpaired_text (text_in names 4) why)
outcome_fit (WrongPairing line why) names = wrong_pairing_fit line (reason_words why)
outcome_fit (Fault fault) names = fault_fit fault names
