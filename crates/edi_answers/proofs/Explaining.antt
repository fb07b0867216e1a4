-- What is said of a sheet, from what its parts say.
use Rattle.std.proofs.Common.{◌≡◌, ◌∙◌, ◌++◌, ℕ, Bool, true, false, List, [], ◌∷◌, Option, Some, None, IfSome, IsTrue, ap, codes, refl, sym, subst, inl, inr}
use Rattle.std.specs.Bool.{MatchBool}
use Rattle.edi_schema.specs.Classes.{Classes}
use Rattle.edi_schema.specs.Roles.{KindCodes}
use Rattle.edi_schema.specs.SchemaRefusal.{IsGoodSchema, IsSchemaRefusal}
use Rattle.edi_schema.specs.declared.fault.SchemaFault.{SchemaFault}
use Rattle.edi_plan.specs.Plans.{PlanData}
use Rattle.edi_compare.specs.PlanOfFile.{IsPlanOfFile}
use Rattle.edi_compare.specs.Refused.{IsProper, IsRefusal}
use Rattle.edi_compare.specs.Rules.{IsAccepted}
use Rattle.edi_compare.specs.Rules.Breaks.{of_lines}
use Rattle.edi_line.specs.LineRules.{BreaksLineRule}
use Rattle.edi_line.specs.Refusal.{IsUnbroken}
use Rattle.edi_compare.specs.Runs.{IsProperSchemaFault, IfThreeKnown}
use Rattle.edi_compare.specs.declared.fault.Fault.{Fault}
use Rattle.edi_compare.specs.declared.fault.RunFault.{RunFault}
use Rattle.edi_compare.specs.declared.fault.RunFault.TheVariants.{Schema, First}
use Rattle.edi_explain.specs.ClassCounts.{DescribesSheet}
use Rattle.edi_explain.specs.Explained.{ExplainsSchema, ExplainsSheet}
use Rattle.edi_explain.specs.Hints.{AreHintsOfSheet}
use Rattle.edi_explain.specs.KindLines.{DescribesKinds}
use Rattle.edi_explain.specs.Skipped.{DescribesSkipped}
use Rattle.edi_words.specs.declared.words.SheetFiles.{SheetFiles}
use Rattle.edi_outcome.specs.declared.outcome.Outcome.{Outcome}
use Rattle.edi_outcome.specs.declared.outcome.Outcome.TheVariants as outcome
use Rattle.edi_json.specs.Texts.{ReadsAs, json_text}
use Rattle.edi_json_answers.specs.Answers.{outcome_value}
use Rattle.edi_json_answers.specs.Told.{told_values}
use Rattle.edi_json_answers.proofs.InTurn.{read_in_turn}
use Rattle.edi_answers.specs.declared.form.AnswerForm.{AnswerForm}
use Rattle.edi_answers.specs.declared.form.AnswerForm.TheVariants.{Words, Json}
use Rattle.edi_answers.specs.ExplainForms.{AreWordsReadIn, TellsIn, words_in_form}
use Rattle.edi_answers.specs.Explains.{DescribesRest, GiveHints, TellsAccepted, TellsCause, TellsPlan, TellsRefusal}
use Rattle.edi_answers.specs.Paths.{input_name, names_of_paths, output_name}
use Rattle.edi_answers.specs.Statuses.{paths_of}
use Rattle.edi_answers.specs.inner.Explains.{AnswersAndTells, IsSheetTextIn, IsTextIn}

-- an answer, with the words behind it
told_in : (form : AnswerForm) (outcome : Outcome) (names : List (List ℕ)) (answer words text : List ℕ) → IsTextIn form outcome names answer
    → text ≡ answer ++ words_in_form form words → AreWordsReadIn form words (words_in_form form words) → TellsIn form outcome names words text
told_in Words outcome names answer words text h is read = record { all = is ∙ ap (λ (a : List ℕ). a ++ words) h.0; read = tt }
told_in Json outcome names answer words text h is read =
    let told = json_text (told_values words) in
    let values = outcome_value outcome names ∷ told_values words in
    record {
      all = is ∙ ap (λ (a : List ℕ). a ++ told) h.0;
      read = subst (λ (t : List ℕ). ReadsAs t values) (sym is) (read_in_turn answer told (outcome_value outcome names ∷ []) (told_values words) h.0 h.1 read);
    }

module _ (form : AnswerForm) (kinds : KindCodes) (files : SheetFiles) (scd dic b : List ℕ) (said : Bool) (answer words : List ℕ) where
  abbrev pub Tells : Type 0
  Tells = AnswersAndTells form kinds files scd dic b said answer words

  abbrev Accepts : Type 0
  Accepts = IsSheetTextIn form outcome.Accepted answer × TellsPlan kinds scd dic b words

  abbrev Refuses : Type 0
  Refuses = (fault : RunFault) × IsSheetTextIn form (outcome.Fault fault) answer × TellsCause kinds files scd dic b fault words

  yes : said ≡ true → Accepts → Tells
  yes e h = subst (λ (a : Bool). MatchBool a Accepts Refuses) (sym e) h

  no : said ≡ false → Refuses → Tells
  no e h = subst (λ (a : Bool). MatchBool a Accepts Refuses) (sym e) h

  module _ (s : Classes) (good : IsGoodSchema scd dic kinds s) where
    pub accepted_said : (p : PlanData) → IsAccepted s b → IsPlanOfFile s b p
        → (said ≡ true) × IsSheetTextIn form outcome.Accepted answer × DescribesSheet s p words → Tells
    accepted_said p accepted plan h = yes h.0 (h.1, (s, p, good, accepted, plan, h.2))

    pub sheet_said : (f : Fault) (name : List ℕ) → name ≡ input_name files.vec.now → IsRefusal s b f
        → (said ≡ false) × IsProper f × IsSheetTextIn form (outcome.Fault (First f)) answer × ExplainsSheet s b name f words → Tells
    sheet_said f name is refusal h =
        no h.0 (First f, h.2, inr (f, s, refl, good, h.1, refusal, subst (λ (n : List ℕ). ExplainsSheet s b n f words) is h.3))

  pub schema_said : (f : SchemaFault) (x y : List ℕ) → x ≡ input_name files.scd.now → y ≡ input_name files.dic.now → IsSchemaRefusal scd dic kinds f
      → (said ≡ false) × IsProperSchemaFault f × IsSheetTextIn form (outcome.Fault (Schema f)) answer × ExplainsSchema kinds scd dic x y f words → Tells
  schema_said f x y first second refusal h =
      let named = subst (λ (m : List ℕ). ExplainsSchema kinds scd dic (input_name files.scd.now) m f words) second
      (subst (λ (n : List ℕ). ExplainsSchema kinds scd dic n y f words) first h.3) in
      no h.0 (Schema f, h.2, inl (f, refl, (h.1, refusal), named))

  -- where a sheet is accepted, the file of classes breaks no rule of lines, nor does the sheet
  pub lines_hold : Tells → IsTrue said → IsUnbroken (BreaksLineRule scd) × IsUnbroken (BreaksLineRule b)
  lines_hold h t = let told = subst (λ (a : Bool). MatchBool a Accepts Refuses) t h in
      (told.1.2.lines.0, λ rule at g. told.1.3 rule at (of_lines g))

-- the lines behind those of an accepted sheet, by the names and the bytes that were read
pub rest_said : (kinds k : KindCodes) (files : SheetFiles) (scd b x p r classes skipped lines : List ℕ) → k ≡ kinds → x ≡ input_name files.scd.now → p ≡ scd → r ≡ b
    → DescribesKinds k p x classes → DescribesSkipped r skipped → lines ≡ classes ++ skipped → DescribesRest kinds files scd b lines
rest_said kinds k files scd b x p r classes skipped lines e f g h described left is = (
  classes,
  skipped,
  subst (λ (c : KindCodes). DescribesKinds c scd (input_name files.scd.now) classes) e
      (subst (λ (y : List ℕ). DescribesKinds k scd y classes) f (subst (λ (y : List ℕ). DescribesKinds k y x classes) g described)),
  subst (λ (y : List ℕ). DescribesSkipped y skipped) h left,
  is,
)

-- the hints of the files that were read, by the names that they were given
pub hints_named : (files : SheetFiles) (scd dic b x y z p q r lines : List ℕ) → x ≡ input_name files.scd.now → p ≡ scd → y ≡ input_name files.dic.now → q ≡ dic → z ≡ input_name files.vec.now → r ≡ b
    → AreHintsOfSheet x p y q z r lines → GiveHints files scd dic b lines
hints_named files scd dic b x y z p q r lines e f g h i j are =
    let m = input_name files.scd.now in
    let n = input_name files.dic.now in
    subst (λ (v : List ℕ). AreHintsOfSheet m scd n dic (input_name files.vec.now) v lines) j
    (subst (λ (v : List ℕ). AreHintsOfSheet m scd n dic v r lines) i
    (subst (λ (v : List ℕ). AreHintsOfSheet m scd n v z r lines) h
    (subst (λ (v : List ℕ). AreHintsOfSheet m scd v q z r lines) g
    (subst (λ (v : List ℕ). AreHintsOfSheet m v y q z r lines) f
    (subst (λ (v : List ℕ). AreHintsOfSheet v p y q z r lines) e are)))))

-- the names of a run over one sheet
abbrev answer_names : SheetFiles → List (List ℕ)
answer_names files = names_of_paths (paths_of files (codes "-"))

-- what is said, with the lines behind it, in a form
pub all_reported : (form : AnswerForm) (kinds : KindCodes) (files : SheetFiles) (scd dic b : List ℕ) (said : Bool) (answer words lines all text : List ℕ)
    → AnswersAndTells form kinds files scd dic b said answer words → MatchBool said (DescribesRest kinds files scd b lines) (GiveHints files scd dic b lines) → all ≡ words ++ lines
    → text ≡ answer ++ words_in_form form all → AreWordsReadIn form all (words_in_form form all)
    → MatchBool said (TellsAccepted form kinds files scd dic b text) (TellsRefusal form kinds files scd dic b text)
all_reported form kinds files scd dic b true answer words lines all text h k e is read =
    let answered = h.0 (input_name files.scd.now) (input_name files.dic.now) (input_name files.vec.now) (output_name (codes "-")) in
    let told = told_in form outcome.Accepted (answer_names files) answer all text answered is read in
    (words, lines, h.1, k, subst (λ (ws : List ℕ). TellsIn form outcome.Accepted (answer_names files) ws text) e told)
all_reported form kinds files scd dic b false answer words lines all text h k e is read =
    let answered = h.1 (input_name files.scd.now) (input_name files.dic.now) (input_name files.vec.now) (output_name (codes "-")) in
    let told = told_in form (outcome.Fault h.0) (answer_names files) answer all text answered is read in
    (h.0, words, lines, h.2, k, subst (λ (ws : List ℕ). TellsIn form (outcome.Fault h.0) (answer_names files) ws text) e told)

-- a fact of the bytes that were read holds of what the inputs tell
pub known_bytes : (a c e : Option (List ℕ)) (x y z : List ℕ) (P : List ℕ → List ℕ → List ℕ → Type 0) → IfSome a (λ t. x ≡ t) → IfSome c (λ t. y ≡ t) → IfSome e (λ t. z ≡ t)
    → P x y z → IfThreeKnown a c e P
known_bytes None c e x y z P f g h p = tt
known_bytes (Some a) None e x y z P f g h p = tt
known_bytes (Some a) (Some c) None x y z P f g h p = tt
known_bytes (Some a) (Some c) (Some e) x y z P f g h p = subst (P a c) h (subst (λ (t : List ℕ). P a t z) g (subst (λ (t : List ℕ). P t y z) f p))
