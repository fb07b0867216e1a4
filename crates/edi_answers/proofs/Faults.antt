-- Why a run over files has no answer, from why one over readers has none.
use Rattle.std.proofs.Common.{◌≡◌, ◌≤◌, sym, subst, ℕ, zero, suc, List, Option, Some, None, refl, inl, inr, arith, Result, Ok, Err, IfErr}
use Rattle.edi_schema.specs.Roles.{KindCodes}
use Rattle.edi_line.specs.declared.device.ByteIn as byte_in
use Rattle.edi_compare.specs.declared.fault.RunFault.{RunFault}
use Rattle.edi_compare.specs.declared.fault.RunFault.TheVariants.{Memory, Read, TooLong, Schema, First, Second, Write}
use Rattle.edi_compare.specs.Runs.{FilesFault, HasFailed, IsTooLong, MatchFault, OfInput, Seen, IfBothKnown, IfThreeKnown, seen}
use Rattle.edi_words.specs.declared.words.ManyFiles.{ManyFiles}
use Rattle.edi_words.specs.declared.words.SheetFiles.{SheetFiles}
use Rattle.edi_files.specs.declared.folder.Folder as folder
use Rattle.edi_answers.specs.Effects.{Inputs, inputs}
use Rattle.edi_answers.specs.Hashes.{LoadFault, schema_path_at}
use Rattle.edi_answers.specs.SheetRuns.{AreThere, FileFault, Gives, HasFailedAt, HoldsTooMuch, IsDeviceOf, path_at, IsThere}

-- what follows from each error holds of the result
pub if_err_map : {T E : Type 0} (r : Result T E) (P Q : E → Type 0) → ((e : E) → P e → Q e) → IfErr r P → IfErr r Q
if_err_map (Ok v) P Q f h = tt
if_err_map (Err e) P Q f h = f e h

pub if_err_both : {T E : Type 0} (r : Result T E) (P Q R : E → Type 0) → ((e : E) → P e → Q e → R e) → IfErr r P → IfErr r Q → IfErr r R
if_err_both (Ok v) P Q R f h k = tt
if_err_both (Err e) P Q R f h k = f e h k

both_of_three : (a b c : Option (List ℕ)) (P : List ℕ → List ℕ → Type 0) → IfBothKnown a b P → IfThreeKnown a b c (λ s d v. P s d)
both_of_three None b c P h = tt
both_of_three (Some x) None c P h = tt
both_of_three (Some x) (Some y) None P h = tt
both_of_three (Some x) (Some y) (Some z) P h = h

-- a reader that was opened for a path, and failed, is that of the path
pub failed_at : {F R S N M : Type 0} → (g : folder.Ghosts F R S N M) (r : byte_in.Ghosts R) (at : F) (path : List ℕ) (before after : R)
    → IsDeviceOf (inputs g r at) path (r.device before) → HasFailed (seen r before after) → HasFailedAt (inputs g r at) path
failed_at g r at path before after opened h = (r.device before, opened, (after, h.1, h.0))

module _ (inputs : Inputs) (kinds : KindCodes) (files : SheetFiles) (scd dic vec : Seen) (gives_scd : Gives inputs files.scd.now scd.before)
    (gives_dic : Gives inputs files.dic.now dic.before) (gives_vec : Gives inputs files.vec.now vec.before)
    (scd_failed : HasFailed scd → HasFailedAt inputs files.scd.now) (dic_failed : HasFailed dic → HasFailedAt inputs files.dic.now)
    (vec_failed : HasFailed vec → HasFailedAt inputs files.vec.now) where
  failed : (n : ℕ) → OfInput scd dic vec HasFailed n → HasFailedAt inputs (path_at files n)
  failed zero h = absurd (omega (arith, h.0))
  failed (suc zero) h = scd_failed (h.2 refl).0
  failed (suc (suc zero)) h = dic_failed (h.3 refl).1.0
  failed (suc (suc (suc zero))) h = vec_failed (h.4 refl).2
  failed (suc (suc (suc (suc n)))) h = absurd (omega (arith, h.1))

  too_long : (n : ℕ) → OfInput scd dic vec (λ input. IsTooLong input.before) n → HoldsTooMuch inputs (path_at files n)
  too_long zero h = absurd (omega (arith, h.0))
  too_long (suc zero) h = (scd.before, gives_scd, (h.2 refl).0)
  too_long (suc (suc zero)) h = (dic.before, gives_dic, (h.3 refl).1.0)
  too_long (suc (suc (suc zero))) h = (vec.before, gives_vec, (h.4 refl).2)
  too_long (suc (suc (suc (suc n)))) h = absurd (omega (arith, h.1))

  matched : (W : ℕ → Type 0) (e : RunFault) → FilesFault kinds scd dic vec W e → FileFault inputs kinds files W e
  matched W (Memory e) h = inr (((scd.before, gives_scd), (dic.before, gives_dic), (vec.before, gives_vec)), tt)
  matched W (Read n) h = inr (((scd.before, gives_scd), (dic.before, gives_dic), (vec.before, gives_vec)), (h.0, h.1, failed n h))
  matched W (TooLong n) h = inr (((scd.before, gives_scd), (dic.before, gives_dic), (vec.before, gives_vec)), (h.0, h.1, too_long n h))
  matched W (Schema f) h =
      inr (
        ((scd.before, gives_scd), (dic.before, gives_dic), (vec.before, gives_vec)),
        (scd.before, dic.before, vec.before, gives_scd, gives_dic, gives_vec, both_of_three scd.before dic.before vec.before _ h),
      )
  matched W (First f) h =
      inr (((scd.before, gives_scd), (dic.before, gives_dic), (vec.before, gives_vec)), (scd.before, dic.before, vec.before, gives_scd, gives_dic, gives_vec, h))
  matched W (Second f) h = absurd h
  matched W (Write w) h = inr (((scd.before, gives_scd), (dic.before, gives_dic), (vec.before, gives_vec)), h)

  -- of a run over three readers
  pub file_fault : {T : Type 0} (r : Result T RunFault) (W : ℕ → Type 0) → IfErr r (FilesFault kinds scd dic vec W) → IfErr r (FileFault inputs kinds files W)
  file_fault r W h = if_err_map r (FilesFault kinds scd dic vec W) (FileFault inputs kinds files W) (matched W) h

-- of a run that reads the inputs one after the other, and stops at this one
pub input_fault : (inputs : Inputs) (kinds : KindCodes) (files : SheetFiles) → AreThere inputs files → (k : ℕ) → 1 ≤ k → k ≤ 3 → (input : Seen)
    → Gives inputs (path_at files k) input.before → (HasFailed input → HasFailedAt inputs (path_at files k)) → (e : RunFault)
    → MatchFault e (λ n. (n ≡ k) × HasFailed input) (λ n. (n ≡ k) × IsTooLong input.before) (λ _. ⊥) (λ _. ⊥) (λ _. ⊥) (λ _. ⊥)
    → FileFault inputs kinds files (λ _. ⊥) e
input_fault inputs kinds files there k least most input gives fails (Memory e) h = inr (there, tt)
input_fault inputs kinds files there k least most input gives fails (Read n) h =
    inr (there, subst (λ m. (1 ≤ m) × (m ≤ 3) × HasFailedAt inputs (path_at files m)) (sym h.0) (least, most, fails h.1))
input_fault inputs kinds files there k least most input gives fails (TooLong n) h =
    inr (there, subst (λ m. (1 ≤ m) × (m ≤ 3) × HoldsTooMuch inputs (path_at files m)) (sym h.0) (least, most, (input.before, gives, h.1)))
input_fault inputs kinds files there k least most input gives fails (Schema f) h = absurd h
input_fault inputs kinds files there k least most input gives fails (First f) h = absurd h
input_fault inputs kinds files there k least most input gives fails (Second f) h = absurd h
input_fault inputs kinds files there k least most input gives fails (Write w) h = absurd h

-- the same of the two files of a schema
pub schema_input_fault : (inputs : Inputs) (kinds : KindCodes) (files : ManyFiles) → IsThere inputs files.scd.now → IsThere inputs files.dic.now → (k : ℕ) → 1 ≤ k → k ≤ 2 → (input : Seen)
    → Gives inputs (schema_path_at files k) input.before → (HasFailed input → HasFailedAt inputs (schema_path_at files k)) → (e : RunFault)
    → MatchFault e (λ n. (n ≡ k) × HasFailed input) (λ n. (n ≡ k) × IsTooLong input.before) (λ _. ⊥) (λ _. ⊥) (λ _. ⊥) (λ _. ⊥)
    → LoadFault inputs kinds files e
schema_input_fault inputs kinds files scd dic k least most input gives fails (Memory e) h = inr (scd, dic, tt)
schema_input_fault inputs kinds files scd dic k least most input gives fails (Read n) h =
    inr (scd, dic, subst (λ m. (1 ≤ m) × (m ≤ 2) × HasFailedAt inputs (schema_path_at files m)) (sym h.0) (least, most, fails h.1))
schema_input_fault inputs kinds files scd dic k least most input gives fails (TooLong n) h =
    inr (scd, dic, subst (λ m. (1 ≤ m) × (m ≤ 2) × HoldsTooMuch inputs (schema_path_at files m)) (sym h.0) (least, most, (input.before, gives, h.1)))
schema_input_fault inputs kinds files scd dic k least most input gives fails (Schema f) h = absurd h
schema_input_fault inputs kinds files scd dic k least most input gives fails (First f) h = absurd h
schema_input_fault inputs kinds files scd dic k least most input gives fails (Second f) h = absurd h
schema_input_fault inputs kinds files scd dic k least most input gives fails (Write w) h = absurd h

-- the same with another fact of writing, where none was written
pub fault_unwritten : (inputs : Inputs) (kinds : KindCodes) (files : SheetFiles) (W : ℕ → Type 0) (e : RunFault) → FileFault inputs kinds files (λ _. ⊥) e
    → FileFault inputs kinds files W e
fault_unwritten inputs kinds files W e (inl missing) = inl missing
fault_unwritten inputs kinds files W (Memory e) (inr h) = inr h
fault_unwritten inputs kinds files W (Read n) (inr h) = inr h
fault_unwritten inputs kinds files W (TooLong n) (inr h) = inr h
fault_unwritten inputs kinds files W (Schema f) (inr h) = inr h
fault_unwritten inputs kinds files W (First f) (inr h) = inr h
fault_unwritten inputs kinds files W (Second f) (inr h) = inr h
fault_unwritten inputs kinds files W (Write w) (inr h) = absurd h.1
