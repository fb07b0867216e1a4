-- Two sheets that were read, and loaded under their schema.
use Rattle.std.proofs.Common.{◌≡◌, ◌≤◌, ℕ, zero, suc, List, IfSome, Result, Ok, Err, IfErr, OnOk, sym, subst, inr, arith}
use Rattle.std.specs.Prelude.{IfOk}
use Rattle.edi_line.specs.FileBytes.{file_bytes}
use Rattle.edi_line.specs.declared.device.ByteIn as byte_in
use Rattle.edi_line.specs.declared.file.FileBytes.{FileBytes}
use Rattle.edi_schema.specs.Classes.{Classes}
use Rattle.edi_schema.specs.Roles.{KindCodes}
use Rattle.edi_schema.specs.SchemaRefusal.{IsGoodSchema}
use Rattle.edi_compare.specs.Faults.{of_pair}
use Rattle.edi_compare.specs.Refused.{IsPairRefusal, IsRefusal}
use Rattle.edi_compare.specs.Rules.{IsAccepted}
use Rattle.edi_compare.specs.Runs.{HasFailed, IfFourKnown, IfThreeKnown, IsRead, IsTooLong, MatchFault, RefusesSchema, seen}
use Rattle.edi_compare.specs.declared.fault.CompareFault.{CompareFault}
use Rattle.edi_compare.specs.declared.fault.CompareFault.TheVariants as sheets
use Rattle.edi_compare.specs.declared.fault.RunFault.{RunFault}
use Rattle.edi_compare.specs.declared.fault.RunFault.TheVariants.{Memory, Read, TooLong, Schema, First, Second, Write}
use Rattle.edi_compare.proofs.ThreeKnown.{three_known}
use Rattle.edi_pairing.specs.UnderFiles.{IsComparedUnder, IsVerifiedUnder, MatchRun, RefusesFile, of_verify}
use Rattle.edi_pairing.specs.Verified.{IsComparedTo, IsFirstWrongOf, IsVerified, IsVerifyRefusal}
use Rattle.edi_pairing.specs.declared.fault.VerifyFault.{VerifyFault}
use Rattle.edi_pairing.specs.declared.fault.VerifyFault.TheVariants as verify
use Rattle.edi_pairing.specs.declared.verified.Verified.{Verified}
use Rattle.edi_pairing.specs.declared.writing.Compared.{Compared}
use Rattle.edi_pairing.specs.declared.writing.Compared.TheVariants.{Same, Different}
use Rattle.edi_files.specs.declared.folder.Folder as folder
use Rattle.edi_words.specs.declared.words.PairFiles.{PairFiles}
use Rattle.edi_answers.specs.Effects.{Inputs, inputs}
use Rattle.edi_answers.specs.PairInputs.{ArePairBytes, ArePairInputs, ArePairReaders, AreUnread, IsLoadedPair, IsOpenedAt, IsReadAt, IsUnreadAt}
use Rattle.edi_answers.specs.SheetRuns.{AreFourThere, HasFailedAt, HoldsTooMuch, MatchPairFault, OfFive, OfPair, PairFileFault, VerifyFileFault, pair_path_at, verify_path_at}
use Rattle.edi_answers.proofs.Faults.{failed_at, if_err_map}
use Rattle.edi_answers.proofs.Kept.{one_known}
use Rattle.edi_answers.proofs.Made.{pair_map, were_four}

-- ---- an input that was opened for a path

module _ {F R S N M : Type 0} (g : folder.Ghosts F R S N M) (r : byte_in.Ghosts R) (at : F) (path : List ℕ) (before after : R)
    (opened : IsOpenedAt (inputs g r at) r path before) where
  -- it was read whole
  pub read_whole : {V : Type 0} (result : Result V RunFault) (bytes_of : V → List ℕ) → IfOk result (λ v. IfSome (r.contents before) (λ t. bytes_of v ≡ t))
      → OnOk result (IsRead (seen r before after)) → IfOk result (λ v. IsReadAt (inputs g r at) path (bytes_of v))
  read_whole (Ok v) bytes_of all read = (r.contents before, opened.0, all, read.short)
  read_whole (Err e) bytes_of all read = tt

  -- or not
  pub unread_at : (k : ℕ) (e : RunFault)
      → MatchFault e (λ n. (n ≡ k) × HasFailed (seen r before after)) (λ n. (n ≡ k) × IsTooLong (r.contents before)) (λ _. ⊥) (λ _. ⊥) (λ _. ⊥) (λ _. ⊥)
      → IsUnreadAt (inputs g r at) path k e
  unread_at k (Memory e) h = tt
  unread_at k (Read n) h = (h.0, failed_at g r at path before after opened.1 h.1)
  unread_at k (TooLong n) h = (h.0, (r.contents before, opened.0, h.1))
  unread_at k (Schema f) h = absurd h
  unread_at k (First f) h = absurd h
  unread_at k (Second f) h = absurd h
  unread_at k (Write w) h = absurd h

  pub unread_result : {V : Type 0} (k : ℕ) (result : Result V RunFault)
      → IfErr result (λ e. MatchFault e (λ n. (n ≡ k) × HasFailed (seen r before after)) (λ n. (n ≡ k) × IsTooLong (r.contents before)) (λ _. ⊥) (λ _. ⊥) (λ _. ⊥) (λ _. ⊥))
      → IfErr result (IsUnreadAt (inputs g r at) path k)
  unread_result k result h = if_err_map result _ _ (unread_at k) h

-- ---- inputs that were not read

-- one of a number of inputs
pub unread_of : (inputs : Inputs) (path_at : ℕ → List ℕ) (most k : ℕ) → 1 ≤ k → k ≤ most → (e : RunFault) → IsUnreadAt inputs (path_at k) k e → AreUnread inputs path_at most e
unread_of inputs path_at most k least within (Memory e) h = tt
unread_of inputs path_at most k least within (Read n) h = subst (λ m. (1 ≤ m) × (m ≤ most) × HasFailedAt inputs (path_at m)) (sym h.0) (least, within, h.1)
unread_of inputs path_at most k least within (TooLong n) h = subst (λ m. (1 ≤ m) × (m ≤ most) × HoldsTooMuch inputs (path_at m)) (sym h.0) (least, within, h.1)
unread_of inputs path_at most k least within (Schema f) h = absurd h
unread_of inputs path_at most k least within (First f) h = absurd h
unread_of inputs path_at most k least within (Second f) h = absurd h
unread_of inputs path_at most k least within (Write w) h = absurd h

-- of the four inputs of two sheets, and of these and the file of a pairing
module _ (inputs : Inputs) (kinds : KindCodes) (files : PairFiles) where
  pub pair_unread : (R T : ℕ → Type 0) (W : ℕ → Type 0) (e : RunFault) → MatchFault e R T (λ _. ⊥) (λ _. ⊥) (λ _. ⊥) (λ _. ⊥) → MatchPairFault inputs kinds files R T W e
  pair_unread R T W (Memory e) h = tt
  pair_unread R T W (Read n) h = h
  pair_unread R T W (TooLong n) h = h
  pair_unread R T W (Schema f) h = absurd h
  pair_unread R T W (First f) h = absurd h
  pair_unread R T W (Second f) h = absurd h
  pair_unread R T W (Write w) h = absurd h

  same_path : (pairing : List ℕ) (P : List ℕ → Type 0) (n : ℕ) → 1 ≤ n → n ≤ 4 → P (pair_path_at files n) → P (verify_path_at files pairing n)
  same_path pairing P zero least most h = absurd (omega (arith, least))
  same_path pairing P (suc zero) least most h = h
  same_path pairing P (suc (suc zero)) least most h = h
  same_path pairing P (suc (suc (suc zero))) least most h = h
  same_path pairing P (suc (suc (suc (suc zero)))) least most h = h
  same_path pairing P (suc (suc (suc (suc (suc n))))) least most h = absurd (omega (arith, most))

  pub four_of_five : (pairing : List ℕ) (e : RunFault) → AreUnread inputs (pair_path_at files) 4 e → AreUnread inputs (verify_path_at files pairing) 5 e
  four_of_five pairing (Memory e) h = tt
  four_of_five pairing (Read n) h = (h.0, omega (arith, h.1), same_path pairing (HasFailedAt inputs) n h.0 h.1 h.2)
  four_of_five pairing (TooLong n) h = (h.0, omega (arith, h.1), same_path pairing (HoldsTooMuch inputs) n h.0 h.1 h.2)
  four_of_five pairing (Schema f) h = absurd h
  four_of_five pairing (First f) h = absurd h
  four_of_five pairing (Second f) h = absurd h
  four_of_five pairing (Write w) h = absurd h

  -- the files were there
  pub readers_there : {R : Type 0} (r : byte_in.Ghosts R) (scd dic first second : R) → ArePairReaders inputs r files scd dic first second → AreFourThere inputs files
  readers_there r scd dic first second h = ((r.contents scd, h.0.0), (r.contents dic, h.1.0), (r.contents first, h.2.0), (r.contents second, h.3.0))

  pub inputs_there : {R : Type 0} (r : byte_in.Ghosts R) (classes : List ℕ) (dic first second : R) → ArePairInputs inputs r files classes dic first second → AreFourThere inputs files
  inputs_there r classes dic first second h = ((h.0.0, h.0.1), (r.contents dic, h.1.0), (r.contents first, h.2.0), (r.contents second, h.3.0))

  pub bytes_there : (scd dic first second : List ℕ) → ArePairBytes inputs files scd dic first second → AreFourThere inputs files
  bytes_there scd dic first second h = ((h.0.0, h.0.1), (h.1.0, h.1.1), (h.2.0, h.2.1), (h.3.0, h.3.1))

  -- what holds of the bytes that were read holds of what the files hold
  pub known_of_read : (scd dic first second : List ℕ) → ArePairBytes inputs files scd dic first second → (P : List ℕ → List ℕ → List ℕ → List ℕ → Type 0) → P scd dic first second
      → OfPair inputs files P
  known_of_read scd dic first second h P p = (
    h.0.0,
    h.1.0,
    h.2.0,
    h.3.0,
    h.0.1,
    h.1.1,
    h.2.1,
    h.3.1,
    one_known h.3.0 second (λ b. IfThreeKnown h.0.0 h.1.0 h.2.0 (λ s d a. P s d a b)) h.3.2
        (three_known h.0.0 h.1.0 h.2.0 scd dic first (λ s d a. P s d a second) h.0.2 h.1.2 h.2.2 p),
  )

  -- their schema is refused
  pub schema_refused : (scd dic first second : List ℕ) → ArePairBytes inputs files scd dic first second → (R T W : ℕ → Type 0) (e : RunFault)
      → MatchFault e (λ _. ⊥) (λ _. ⊥) (RefusesSchema kinds scd dic) (λ _. ⊥) (λ _. ⊥) (λ _. ⊥) → MatchPairFault inputs kinds files R T W e
  schema_refused scd dic first second read R T W (Memory e) h = tt
  schema_refused scd dic first second read R T W (Read n) h = absurd h
  schema_refused scd dic first second read R T W (TooLong n) h = absurd h
  schema_refused scd dic first second read R T W (Schema f) h = known_of_read scd dic first second read (λ s d a b. RefusesSchema kinds s d f) h
  schema_refused scd dic first second read R T W (First f) h = absurd h
  schema_refused scd dic first second read R T W (Second f) h = absurd h
  schema_refused scd dic first second read R T W (Write w) h = absurd h

-- ---- two sheets that were loaded

module _ (inputs : Inputs) (kinds : KindCodes) (files : PairFiles) (pair : Classes × FileBytes × FileBytes) (loaded : OfPair inputs files (IsLoadedPair kinds pair)) where
  -- what holds of them holds of what the files hold
  pub of_loaded : (P : List ℕ → List ℕ → Type 0) (Q : List ℕ → List ℕ → List ℕ → List ℕ → Type 0)
      → ((s d a b : List ℕ) → IsGoodSchema s d kinds pair.0 → P a b → Q s d a b) → P (file_bytes pair.1) (file_bytes pair.2) → OfPair inputs files Q
  of_loaded P Q f p =
      pair_map inputs files _ _ (λ s d a b u. f s d a b u.0 (subst (λ t. P a t) u.2 (subst (λ t. P t (file_bytes pair.2)) u.1 p))) loaded

  -- the refusal of one of them
  refused : (R T W : ℕ → Type 0) (f : CompareFault) → IsPairRefusal pair.0 (file_bytes pair.1) (file_bytes pair.2) f → MatchPairFault inputs kinds files R T W (of_pair f)
  refused R T W (sheets.Memory e) h = tt
  refused R T W (sheets.First f) h = of_loaded (λ a b. IsRefusal pair.0 a f) _ (λ s d a b good r. (pair.0, good, h.0, r)) h.1
  refused R T W (sheets.Second f) h =
      of_loaded (λ a b. IsAccepted pair.0 a × IsRefusal pair.0 b f) _ (λ s d a b good r. (pair.0, good, r.0, h.1, r.1)) (h.0, h.2)

  pub refused_pair : (f : CompareFault) → IsPairRefusal pair.0 (file_bytes pair.1) (file_bytes pair.2) f → PairFileFault inputs kinds files (λ _. ⊥) (of_pair f)
  refused_pair f h = inr (were_four inputs files _ loaded, refused _ _ _ f h)

  -- what a comparison answers
  pub compared_pair : (compared : Compared) → IsAccepted pair.0 (file_bytes pair.1) → IsAccepted pair.0 (file_bytes pair.2) → IsComparedTo pair.0 (file_bytes pair.1) (file_bytes pair.2) compared
      → OfPair inputs files (λ s d a b. IsComparedUnder kinds s d a b compared)
  compared_pair (Same file) first second h =
      of_loaded (λ a b. IsAccepted pair.0 a × IsAccepted pair.0 b × IsComparedTo pair.0 a b (Same file)) _
      (λ s d a b good u. (pair.0, u.2.0, good, u.0, u.1, u.2.1, u.2.2)) (first, second, h)
  compared_pair (Different line) first second h =
      of_loaded (λ a b. IsAccepted pair.0 a × IsAccepted pair.0 b × IsComparedTo pair.0 a b (Different line)) _
      (λ s d a b good u. (pair.0, good, u.0, u.1, u.2)) (first, second, h)

  module _ (pairing file : List ℕ) (read : IsReadAt inputs pairing file) where
    five_known : (Q : List ℕ → List ℕ → List ℕ → List ℕ → List ℕ → Type 0) → OfPair inputs files (λ s d a b. Q s d a b file) → OfFive inputs files pairing Q
    five_known Q h = (
      h.0,
      h.1,
      h.2,
      h.3,
      read.0,
      h.4,
      h.5,
      h.6,
      h.7,
      read.1,
      one_known read.0 file (λ f. IfFourKnown h.0 h.1 h.2 h.3 (λ s d a b. Q s d a b f)) read.2 h.8,
    )

    -- what the check of a pairing's file answers
    pub verified_pair : (answer : Verified) → IsAccepted pair.0 (file_bytes pair.1) → IsAccepted pair.0 (file_bytes pair.2) → IsVerified pair.0 (file_bytes pair.1) (file_bytes pair.2) file answer
        → OfFive inputs files pairing (λ s d a b f. IsVerifiedUnder kinds s d a b f answer)
    verified_pair answer first second h =
        five_known _
        (of_loaded (λ a b. IsAccepted pair.0 a × IsAccepted pair.0 b × IsVerified pair.0 a b file answer) _ (λ s d a b good u. (pair.0, good, u.0, u.1, u.2)) (first, second, h))

    sheet_refused : (f : CompareFault) → IsPairRefusal pair.0 (file_bytes pair.1) (file_bytes pair.2) f → MatchPairFault inputs kinds files (λ n. (1 ≤ n) × (n ≤ 5) × HasFailedAt inputs (verify_path_at files pairing n)) (λ n. (1 ≤ n) × (n ≤ 5) × HoldsTooMuch inputs (verify_path_at files pairing n)) (λ _. ⊥) (of_pair f)
    sheet_refused f h = refused _ _ _ f h

    -- and why it doesn't
    pub refused_five : (f : VerifyFault) → IsVerifyRefusal pair.0 (file_bytes pair.1) (file_bytes pair.2) file f
        → MatchRun (of_verify f) (VerifyFileFault inputs kinds files pairing) (λ at why. OfFive inputs files pairing (λ s d a b t. RefusesFile kinds s d a b t at why))
    refused_five (verify.Memory e) h = inr ((were_four inputs files _ loaded, (read.0, read.1)), tt)
    refused_five (verify.First f) h = inr ((were_four inputs files _ loaded, (read.0, read.1)), sheet_refused (sheets.First f) h)
    refused_five (verify.Second f) h = inr ((were_four inputs files _ loaded, (read.0, read.1)), sheet_refused (sheets.Second f) h)
    refused_five (verify.Pairing at why) h =
        five_known _
        (of_loaded (λ a b. IsAccepted pair.0 a × IsAccepted pair.0 b × IsFirstWrongOf a b file at why) _ (λ s d a b good u. (pair.0, good, u.0, u.1, u.2)) h)
