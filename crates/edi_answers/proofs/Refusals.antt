-- The status of a run that has no answer, and what a refusal says.
use Rattle.std.proofs.Common.{◌≡◌, ◌≢◌, ◌⊎◌, ◌≤◌, ℕ, Bool, List, [], Option, None, IfSome, codes, length, refl, sym, subst, ◌∙◌, ap, inl, inr, arith, ◌<◌, Result, Ok, Err, append-nil, ◌++◌}
use Rattle.std.specs.Prelude.{MatchResult}
use Rattle.edi_schema.specs.Roles.{KindCodes}
use Rattle.edi_schema.specs.declared.fault.SchemaFault.{SchemaFault}
use Rattle.edi_schema.specs.declared.fault.SchemaFault.TheVariants as schema
use Rattle.edi_compare.specs.declared.fault.Fault.{Fault}
use Rattle.edi_compare.specs.declared.fault.Fault.TheVariants as sheet
use Rattle.edi_compare.specs.declared.pairing.Verdict.{Verdict}
use Rattle.edi_compare.specs.declared.pairing.Verdict.TheVariants as verdict
use Rattle.edi_compare.specs.declared.fault.RunFault.{RunFault}
use Rattle.edi_compare.specs.declared.fault.RunFault.TheVariants.{Memory, Read, TooLong, Schema, First, Second, Write}
use Rattle.edi_compare.specs.Bundle.{OfParts}
use Rattle.edi_compare.specs.Runs.{BeforeWriting, IsVerdictOf}
use Rattle.edi_words.specs.Requests.{usual_kinds}
use Rattle.edi_words.specs.declared.words.PairFiles.{PairFiles}
use Rattle.edi_words.specs.declared.words.SheetFiles.{SheetFiles}
use Rattle.edi_files.specs.declared.reason.Reason.{Reason}
use Rattle.edi_files.specs.Reasons.{Why, ended}
use Rattle.edi_outcome.specs.Status.{status_for, status_of_fault, status_of_schema, status_of_sheet}
use Rattle.edi_outcome.specs.Words.{first_text, sheet_text, words_for, words_of_fault}
use Rattle.edi_answers.specs.Paths.{names_of_paths}
use Rattle.edi_answers.specs.inner.Outcome.{outcome_for}
use Rattle.edi_outcome.specs.declared.outcome.Outcome.TheVariants as outcome
use Rattle.edi_answers.specs.declared.form.AnswerForm.{AnswerForm}
use Rattle.edi_answers.specs.Effects.{Effects, Inputs, Stream}
use Rattle.edi_answers.specs.Reasons.{length_line_for, lines_for}
use Rattle.edi_outcome.specs.declared.outcome.Outcome.{Outcome}
use Rattle.edi_answers.specs.SheetRuns.{FileFault, MatchPairFault, OfFiles, OfPair, PairFileFault, StandardFault}
use Rattle.edi_answers.specs.Statuses.{AnswersIn, AreFourTried, AreTried, IsAnsweredAs, IsCompareStatus, IsSaid, IsUnsaid, IsWarned, LacksMemory, MeansStatus, Prints, SaysFault, SaysPairFault, SaysPairRefusal, SaysRefusal, Warns, WarnsWhy, pair_paths_of}
use Rattle.edi_answers.proofs.Answering.{appends_nothing}
use Rattle.edi_answers.proofs.Made.{files_map, pair_map, parts_map, were_four}

-- a refusal comes before writing
pub unwritten : (e : RunFault) (P : Type 0) → BeforeWriting e P → status_of_fault e ≡ 2 → P
unwritten (Memory e) P h two = h
unwritten (Read n) P h two = h
unwritten (TooLong n) P h two = h
unwritten (Schema f) P h two = h
unwritten (First f) P h two = h
unwritten (Second f) P h two = h
unwritten (Write w) P h two = absurd (omega (arith, two))

-- a run that ends with 2 has an outcome of status 2
pub answered_two : (status s : ℕ) → IsAnsweredAs status s → s ≡ 2 → status ≡ 2
answered_two status s (inl e) two = sym e ∙ two
answered_two status s (inr (inl e)) two = absurd (omega (arith, e, two))
answered_two status s (inr (inr e)) two = absurd (omega (arith, e.1, two))

-- a refusal is said as a fault
module _ (Says : RunFault → Type 0) (kinds : KindCodes) where
  pub file_faulted : (inputs : Inputs) (files : SheetFiles) (W : ℕ → Type 0) (e : RunFault) → FileFault inputs kinds files W e → status_of_fault e ≡ 2
      → Says e → OfFiles inputs files (SaysFault Says kinds)
  file_faulted inputs files W e (inl missing) two said = absurd (omega (arith, ap status_of_fault missing.2, two))
  file_faulted inputs files W (Memory e) (inr h) two said = absurd (omega (arith, two))
  file_faulted inputs files W (Read n) (inr h) two said = absurd (omega (arith, two))
  file_faulted inputs files W (TooLong n) (inr h) two said = absurd (omega (arith, two))
  file_faulted inputs files W (Schema f) (inr h) two said = files_map inputs files _ _ (λ s d v r. inl (f, r, said)) h.1
  file_faulted inputs files W (First f) (inr h) two said = files_map inputs files _ _ (λ s d v r. inr (f, r, said)) h.1
  file_faulted inputs files W (Second f) (inr h) two said = absurd h.1
  file_faulted inputs files W (Write w) (inr h) two said = absurd (omega (arith, two))

  -- of one of two sheets
  pub match_faulted : (inputs : Inputs) (files : PairFiles) (R T W : ℕ → Type 0) (e : RunFault) → MatchPairFault inputs kinds files R T W e → status_of_fault e ≡ 2
      → Says e → OfPair inputs files (SaysPairFault Says kinds)
  match_faulted inputs files R T W (Memory e) h two said = absurd (omega (arith, two))
  match_faulted inputs files R T W (Read n) h two said = absurd (omega (arith, two))
  match_faulted inputs files R T W (TooLong n) h two said = absurd (omega (arith, two))
  match_faulted inputs files R T W (Schema f) h two said = pair_map inputs files _ _ (λ s d a b r. inl (f, r, said)) h
  match_faulted inputs files R T W (First f) h two said = pair_map inputs files _ _ (λ s d a b r. inr (inl (f, r, said))) h
  match_faulted inputs files R T W (Second f) h two said = pair_map inputs files _ _ (λ s d a b r. inr (inr (f, r, said))) h
  match_faulted inputs files R T W (Write w) h two said = absurd (omega (arith, two))

  pub pair_faulted : (inputs : Inputs) (files : PairFiles) (W : ℕ → Type 0) (e : RunFault) → PairFileFault inputs kinds files W e → status_of_fault e ≡ 2
      → Says e → OfPair inputs files (SaysPairFault Says kinds)
  pair_faulted inputs files W e (inl missing) two said = absurd (omega (arith, ap status_of_fault missing.2, two))
  pair_faulted inputs files W e (inr h) two said = match_faulted inputs files _ _ W e h.1 two said

-- a refusal is said as its line
module _ (Says : List ℕ → Type 0) (kinds : KindCodes) (names : List (List ℕ)) (alone : first_text (length names) ≡ []) where
  says_sheet : (f : Fault) → Says (ended (sheet_text (first_text (length names)) f)) → Says (ended (sheet_text [] f))
  says_sheet f line = subst (λ which. Says (ended (sheet_text which f))) alone line

  said_as_line : (s d v : List ℕ) → SaysFault (λ f. Says (ended (words_of_fault f names))) kinds s d v → SaysRefusal Says kinds s d v
  said_as_line s d v (inl h) = inl h
  said_as_line s d v (inr h) = inr (h.0, h.1, says_sheet h.0 h.2)

  pub file_refused : (inputs : Inputs) (files : SheetFiles) (W : ℕ → Type 0) (e : RunFault) → FileFault inputs kinds files W e → status_of_fault e ≡ 2
      → Says (ended (words_of_fault e names)) → OfFiles inputs files (SaysRefusal Says kinds)
  file_refused inputs files W e h two line =
      files_map inputs files _ _ said_as_line (file_faulted (λ f. Says (ended (words_of_fault f names))) kinds inputs files W e h two line)

  pub input_refused : (inputs : Inputs) (contents : Option (List ℕ)) (W : ℕ → Type 0) (e : RunFault) → StandardFault inputs contents W e → status_of_fault e ≡ 2
      → Says (ended (words_of_fault e names)) → IfSome contents (λ b. OfParts b (SaysRefusal Says usual_kinds))
  input_refused inputs contents W (Memory e) h two line = absurd (omega (arith, two))
  input_refused inputs contents W (Read n) h two line = absurd (omega (arith, two))
  input_refused inputs contents W (TooLong n) h two line = absurd (omega (arith, two))
  input_refused inputs contents W (Schema f) h two line = parts_map contents _ _ (λ s d v r. inl (f, r, line)) h
  input_refused inputs contents W (First f) h two line = parts_map contents _ _ (λ s d v r. inr (f, r, says_sheet f line)) h
  input_refused inputs contents W (Second f) h two line = absurd h
  input_refused inputs contents W (Write w) h two line = absurd (omega (arith, two))

-- the files were tried
pub file_tried : (inputs : Inputs) (kinds : KindCodes) (files : SheetFiles) (W : ℕ → Type 0) (e : RunFault) → FileFault inputs kinds files W e → AreTried inputs files
file_tried inputs kinds files W e (inl missing) = inr (missing.0, missing.1)
file_tried inputs kinds files W e (inr h) = inl h.0

pub pair_tried : (inputs : Inputs) (kinds : KindCodes) (files : PairFiles) (W : ℕ → Type 0) (e : RunFault) → PairFileFault inputs kinds files W e → AreFourTried inputs files
pair_tried inputs kinds files W e (inl missing) = inr (missing.0, missing.1)
pair_tried inputs kinds files W e (inr h) = inl h.0

-- a refusal of one of two sheets is said as its line
module _ (Says : List ℕ → Type 0) (kinds : KindCodes) (names : List (List ℕ)) (two_sheets : first_text (length names) ≡ codes "first ") where
  pair_said_as_line : (s d a b : List ℕ) → SaysPairFault (λ f. Says (ended (words_of_fault f names))) kinds s d a b → SaysPairRefusal Says kinds s d a b
  pair_said_as_line s d a b (inl h) = inl h
  pair_said_as_line s d a b (inr (inl h)) = inr (inl (h.0, h.1, subst (λ which. Says (ended (sheet_text which h.0))) two_sheets h.2))
  pair_said_as_line s d a b (inr (inr h)) = inr (inr h)

  pub match_refused : (inputs : Inputs) (files : PairFiles) (R T W : ℕ → Type 0) (e : RunFault) → MatchPairFault inputs kinds files R T W e → status_of_fault e ≡ 2
      → Says (ended (words_of_fault e names)) → OfPair inputs files (SaysPairRefusal Says kinds)
  match_refused inputs files R T W e h two line =
      pair_map inputs files _ _ pair_said_as_line (match_faulted (λ f. Says (ended (words_of_fault f names))) kinds inputs files R T W e h two line)

  pub pair_refused : (inputs : Inputs) (files : PairFiles) (W : ℕ → Type 0) (e : RunFault) → PairFileFault inputs kinds files W e → status_of_fault e ≡ 2
      → Says (ended (words_of_fault e names)) → OfPair inputs files (SaysPairRefusal Says kinds)
  pair_refused inputs files W e (inl missing) two line = absurd (omega (arith, ap status_of_fault missing.2, two))
  pair_refused inputs files W e (inr h) two line = match_refused inputs files _ _ W e h.1 two line

-- the status of a fault
abbrev pub IsFaultStatus : ℕ → Type 0
IsFaultStatus s = (s ≡ 2) ⊎ ((s ≡ 4) ⊎ (s ≡ 5))

schema_status : (f : SchemaFault) → IsFaultStatus (status_of_schema f)
schema_status (schema.Memory e) = inr (inr refl)
schema_status (schema.Line file rule at) = inl refl
schema_status (schema.Entry file rule at) = inl refl
schema_status schema.Kinds = inl refl

sheet_status : (f : Fault) → IsFaultStatus (status_of_sheet f)
sheet_status (sheet.Memory e) = inr (inr refl)
sheet_status (sheet.Line rule at) = inl refl
sheet_status (sheet.Entry rule at) = inl refl

pub fault_status : (e : RunFault) → IsFaultStatus (status_of_fault e)
fault_status (Memory e) = inr (inr refl)
fault_status (Read n) = inr (inl refl)
fault_status (TooLong n) = inr (inl refl)
fault_status (Schema f) = schema_status f
fault_status (First f) = sheet_status f
fault_status (Second f) = sheet_status f
fault_status (Write w) = inr (inl refl)

pub known_fault : (status s : ℕ) → IsFaultStatus status → IsAnsweredAs status s → IsFaultStatus s
known_fault status s h (inl e) = subst IsFaultStatus (sym e) h
known_fault status s h (inr (inl e)) = inr (inr e)
known_fault status s h (inr (inr e)) = inr (inl e.1)

not_zero : (s : ℕ) → IsFaultStatus s → s ≢ 0
not_zero s (inl e) zero = absurd (omega (arith, e, zero))
not_zero s (inr (inl e)) zero = absurd (omega (arith, e, zero))
not_zero s (inr (inr e)) zero = absurd (omega (arith, e, zero))

pub not_one : (s : ℕ) → IsFaultStatus s → s ≢ 1
not_one s (inl e) one = absurd (omega (arith, e, one))
not_one s (inr (inl e)) one = absurd (omega (arith, e, one))
not_one s (inr (inr e)) one = absurd (omega (arith, e, one))

not_four : (status s : ℕ) → IsAnsweredAs status s → status ≡ 5 → s ≢ 4
not_four status s (inl is) five four = absurd (omega (arith, is, four, five))
not_four status s (inr (inl is)) five four = absurd (omega (arith, is, four))
not_four status s (inr (inr is)) five four = absurd (omega (arith, is.0, five))

-- an outcome without a reason has its line alone
unreasoned : (err : Stream) (o : Outcome) (paths : List (List ℕ)) (reason : Option Reason) → length_line_for o paths ≡ [] → reason ≡ None → Warns err (lines_for o paths reason)
    → Warns err (ended (words_for o (names_of_paths paths)))
unreasoned err o paths reason whole is h =
    let said = ended (words_for o (names_of_paths paths)) in
    let alone : lines_for o paths None ≡ said = ap (λ xs. (said ++ []) ++ xs) whole ∙ (append-nil (said ++ []) ∙ append-nil said) in
    subst (Warns err) alone (subst (λ (r : Option Reason). Warns err (lines_for o paths r)) is h)

-- a fault of status 5 is that there is no memory
memory_words : (why : Why) (err : Stream) (e : RunFault) (paths : List (List ℕ)) → status_of_fault e ≡ 5 → WarnsWhy why err (outcome.Fault e) paths → LacksMemory err
memory_words why err (Memory e) paths five h = unreasoned err (outcome.Fault (Memory e)) paths h.0 refl h.1 h.2
memory_words why err (Read n) paths five h = absurd (omega (arith, five))
memory_words why err (TooLong n) paths five h = absurd (omega (arith, five))
memory_words why err (Schema (schema.Memory e)) paths five h = unreasoned err (outcome.Fault (Schema (schema.Memory e))) paths h.0 refl h.1 h.2
memory_words why err (Schema (schema.Line file rule at)) paths five h = absurd (omega (arith, five))
memory_words why err (Schema (schema.Entry file rule at)) paths five h = absurd (omega (arith, five))
memory_words why err (Schema schema.Kinds) paths five h = absurd (omega (arith, five))
memory_words why err (First (sheet.Memory e)) paths five h = unreasoned err (outcome.Fault (First (sheet.Memory e))) paths h.0 refl h.1 h.2
memory_words why err (First (sheet.Line rule at)) paths five h = absurd (omega (arith, five))
memory_words why err (First (sheet.Entry rule at)) paths five h = absurd (omega (arith, five))
memory_words why err (Second (sheet.Memory e)) paths five h = unreasoned err (outcome.Fault (Second (sheet.Memory e))) paths h.0 refl h.1 h.2
memory_words why err (Second (sheet.Line rule at)) paths five h = absurd (omega (arith, five))
memory_words why err (Second (sheet.Entry rule at)) paths five h = absurd (omega (arith, five))
memory_words why err (Write w) paths five h = absurd (omega (arith, five))

-- the line of a refusal has no reason behind it
pub refusal_line : (why : Why) (err : Stream) (e : RunFault) (paths : List (List ℕ)) → status_of_fault e ≡ 2 → WarnsWhy why err (outcome.Fault e) paths
    → Warns err (ended (words_of_fault e (names_of_paths paths)))
refusal_line why err (Memory e) paths two h = absurd (omega (arith, two))
refusal_line why err (Read n) paths two h = absurd (omega (arith, two))
refusal_line why err (TooLong n) paths two h = absurd (omega (arith, two))
refusal_line why err (Schema f) paths two h = unreasoned err (outcome.Fault (Schema f)) paths h.0 refl h.1 h.2
refusal_line why err (First f) paths two h = unreasoned err (outcome.Fault (First f)) paths h.0 refl h.1 h.2
refusal_line why err (Second f) paths two h = unreasoned err (outcome.Fault (Second f)) paths h.0 refl h.1 h.2
refusal_line why err (Write w) paths two h = absurd (omega (arith, two))

-- what a status says of a run that has no answer
module _ (Done Refused : Type 0) (IsFault : RunFault → Type 0) (why : Why) (paths : List (List ℕ)) (out err : Stream) (s : ℕ) where
  failure : (e : RunFault) → (3 ≤ status_of_fault e → s ≡ 4 → IsFault e × WarnsWhy why err (outcome.Fault e) paths) → (status_of_fault e < 3 → s ≡ 4 → IsUnsaid out err)
      → IsAnsweredAs (status_of_fault e) s → s ≡ 4 → IsFaultStatus (status_of_fault e)
      → IsUnsaid out err ⊎ ((f : RunFault) × IsFault f × (status_of_fault f ≡ 4) × WarnsWhy why err (outcome.Fault f) paths)
  failure e told unsaid status four (inl two) = inl (unsaid (omega (arith, two)) four)
  failure e told unsaid status four (inr (inl is)) = let h = told (omega (arith, is)) four in inr (e, h.0, is, h.1)
  failure e told unsaid status four (inr (inr five)) = absurd (not_four (status_of_fault e) s status five four)

  pub means_told : (e : RunFault) → (3 ≤ status_of_fault e → s ≡ 4 → IsFault e × WarnsWhy why err (outcome.Fault e) paths)
      → (status_of_fault e ≡ 2 → s ≡ 2 → Refused) → (status_of_fault e < 3 → s ≡ 4 → IsUnsaid out err) → IsAnsweredAs (status_of_fault e) s
      → (s ≡ 5 → LacksMemory err × (Prints out [] ⊎ ((f : RunFault) × IsFault f × (status_of_fault f ≡ 4)))) → MeansStatus Done Refused IsFault why paths out err s
  means_told e told refuses unsaid status memory = record {
    done = λ zero. absurd (not_zero s (known_fault (status_of_fault e) s (fault_status e) status) zero);
    refused = λ two. refuses (answered_two (status_of_fault e) s status two) two;
    failed = λ four. failure e told unsaid status four (fault_status e);
    memory = memory;
  }

  pub means_fault : {form : AnswerForm} (e : RunFault) → (Prints out [] → IsFault e) → (status_of_fault e ≡ 2 → AnswersIn out err form paths (outcome.Fault e) → Refused)
      → IsSaid why out err form (outcome.Fault e) paths s → MeansStatus Done Refused IsFault why paths out err s
  means_fault e h refuses said = means_told e (λ big four. (h (said.fault big four).1, (said.fault big four).0)) (λ is two. refuses is (said.answer (omega (arith, two))))
      said.unsaid said.status (λ five. let m = said.memory five in (m.1, inl m.0))

  -- and of one that has an answer, which is said
  pub means_answer : {form : AnswerForm} (o : Outcome) → status_for o < 2 → (s ≡ 0 → Done) → IsSaid why out err form o paths s → MeansStatus Done Refused IsFault why paths out err s
  means_answer o small done said = record {
    done = done;
    refused = λ two. absurd (omega (arith, small, answered_two (status_for o) s said.status two));
    failed = λ four. inl (said.unsaid (omega (arith, small)) four);
    memory = λ five. let m = said.memory five in (m.1, inl m.0);
  }

  -- nothing was printed before writing, and writing is a fault of status 4
  pub silent_or_fault : (e : RunFault) → IsFault e → BeforeWriting e (Prints out []) → Prints out [] ⊎ ((f : RunFault) × IsFault f × (status_of_fault f ≡ 4))
  silent_or_fault (Memory e) h silent = inl silent
  silent_or_fault (Read n) h silent = inl silent
  silent_or_fault (TooLong n) h silent = inl silent
  silent_or_fault (Schema f) h silent = inl silent
  silent_or_fault (First f) h silent = inl silent
  silent_or_fault (Second f) h silent = inl silent
  silent_or_fault (Write w) h silent = inr (Write w, h, refl)

  -- of one that has no answer, where standard error was told
  pub means_warned : (e : RunFault) → IsFault e → BeforeWriting e (Prints out []) → (status_of_fault e ≡ 2 → WarnsWhy why err (outcome.Fault e) paths → Refused)
      → IsWarned why err e paths s → MeansStatus Done Refused IsFault why paths out err s
  means_warned e h silent refuses (inl told) = record {
    done = λ zero. absurd (not_zero (status_of_fault e) (fault_status e) (sym told.0 ∙ zero));
    refused = λ two. refuses (sym told.0 ∙ two) told.1;
    failed = λ four. inr (e, h, sym told.0 ∙ four, told.1);
    memory = λ five. (memory_words why err e paths (sym told.0 ∙ five) told.1, silent_or_fault e h silent);
  }
  means_warned e h silent refuses (inr told) = record {
    done = λ zero. absurd (omega (arith, told.0, zero));
    refused = λ two. absurd (omega (arith, told.0, two));
    failed = λ four. absurd (omega (arith, told.0, four));
    memory = λ five. (told.1, silent_or_fault e h silent);
  }

-- a run that ends with one of two statuses has no outcome of the other
pub not_zero_of_one : (s : ℕ) → s ≡ 0 → IsAnsweredAs 1 s → ⊥
not_zero_of_one s zero (inl e) = absurd (omega (arith, e, zero))
not_zero_of_one s zero (inr (inl e)) = absurd (omega (arith, e, zero))
not_zero_of_one s zero (inr (inr e)) = absurd (omega (arith, e.1, zero))

pub not_one_of_zero : (s : ℕ) → s ≡ 1 → IsAnsweredAs 0 s → ⊥
not_one_of_zero s one (inl e) = absurd (omega (arith, e, one))
not_one_of_zero s one (inr (inl e)) = absurd (omega (arith, e, one))
not_one_of_zero s one (inr (inr e)) = absurd (omega (arith, e.1, one))

-- the status of a comparison
module _ (run : Effects) (out err : Stream) (kinds : KindCodes) (files : PairFiles) (form : AnswerForm) (s : ℕ) where
  pub compare_status : (r : Result Verdict RunFault)
      → MatchResult r (λ v. OfPair run.inputs files (λ scd dic a b. IsVerdictOf kinds scd dic a b v)) (PairFileFault run.inputs kinds files (λ _. ⊥))
      → IsSaid run.why out err form (outcome_for r) (pair_paths_of files (codes "-")) s → IsCompareStatus run out err kinds files form s
  compare_status (Ok (verdict.Same pairing)) h said = record {
    tried = inl (were_four run.inputs files _ h);
    different = λ one. absurd (not_one_of_zero s one said.status);
    means = means_answer _ _ _ run.why (pair_paths_of files (codes "-")) out err s outcome.Same (omega arith) (λ zero. ((pairing, h), said.answer (omega (arith, zero)))) said;
  }
  compare_status (Ok (verdict.Different at)) h said = record {
    tried = inl (were_four run.inputs files _ h);
    different = λ one. (at, h, said.answer (omega (arith, one)));
    means = means_answer _ _ _ run.why (pair_paths_of files (codes "-")) out err s (outcome.Different at) (omega arith)
        (λ zero. absurd (not_zero_of_one s zero said.status)) said;
  }
  compare_status (Err e) h said = record {
    tried = pair_tried run.inputs kinds files (λ _. ⊥) e h;
    different = λ one. absurd (not_one s (known_fault (status_of_fault e) s (fault_status e) said.status) one);
    means = means_fault _ _ _ run.why (pair_paths_of files (codes "-")) out err s e (λ silent. (h, silent))
        (λ is line. pair_faulted (λ f. AnswersIn out err form (pair_paths_of files (codes "-")) (outcome.Fault f)) kinds run.inputs files (λ _. ⊥) e h is line) said;
  }

-- what was said of a fault that standard error was told, where the output is as it was
pub said_of_warned : (why : Why) (stream : Option (List ℕ)) (failed : Bool) (err : Stream) (form : AnswerForm) (e : RunFault) (paths : List (List ℕ)) (s : ℕ) → 3 ≤ status_of_fault e
    → IsWarned why err e paths s → IsSaid why (record { before = stream; after = stream; failed = failed }) err form (outcome.Fault e) paths s
said_of_warned why stream failed err form e paths s big (inl told) = record {
  status = inl told.0;
  answer = λ few. absurd (omega (arith, told.0, big, few));
  unsaid = λ small four. absurd (omega (arith, big, small));
  fault = λ large four. (told.1, appends_nothing stream);
  memory = λ five. (appends_nothing stream, memory_words why err e paths (sym told.0 ∙ five) told.1);
}
said_of_warned why stream failed err form e paths s big (inr told) = record {
  status = inr (inl told.0);
  answer = λ few. absurd (omega (arith, told.0, few));
  unsaid = λ small four. absurd (omega (arith, big, small));
  fault = λ large four. absurd (omega (arith, told.0, four));
  memory = λ five. (appends_nothing stream, told.1);
}
