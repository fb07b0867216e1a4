-- A file of classes that was read, and is read once more from what was kept of it.
use Rattle.std.proofs.Common.{◌≡◌, ◌≤◌, ◌<◌, ◌∙◌, ℕ, Bool, false, List, length, Option, Some, None, IfSome, IsTrue, sym, ap, subst, arith}
use Rattle.std.specs.Prelude.{⊤}
use Rattle.std.specs.Bool.{MatchBool}
use Rattle.edi_schema.specs.Roles.{KindCodes}
use Rattle.edi_compare.specs.declared.fault.RunFault.{RunFault}
use Rattle.edi_compare.specs.declared.fault.RunFault.TheVariants.{Memory, Read, TooLong, Schema, First, Second, Write}
use Rattle.edi_compare.specs.Runs.{FilesFault, HasFailed, IsRead, IsTooLong, MatchFault, Seen, IfBothKnown, IfThreeKnown, RefusesSchema, RefusesSheet, most_bytes}
use Rattle.edi_shown.specs.Shown.{shown_bytes}
use Rattle.edi_answers.specs.Effects.{Inputs}
use Rattle.edi_answers.specs.Notes.{GivesNote, IsNoteOn}
use Rattle.edi_answers.specs.Paths.{input_name}
use Rattle.edi_outcome.specs.Status.{status_of_fault}
use Rattle.edi_answers.specs.SheetRuns.{Gives}
use Rattle.edi_answers.proofs.Noted.{names_some_kinds}

-- ---- what holds of the bytes that were kept holds of the contents of the file

pub one_known : (a : Option (List ℕ)) (x : List ℕ) (P : List ℕ → Type 0) → IfSome a (λ t. x ≡ t) → P x → IfSome a P
one_known None x P f h = tt
one_known (Some m) x P f h = subst P f h

both_known : (a c : Option (List ℕ)) (x : List ℕ) (P : List ℕ → List ℕ → Type 0) → IfSome a (λ t. x ≡ t) → IfBothKnown (Some x) c P → IfBothKnown a c P
both_known None c x P f h = tt
both_known (Some m) c x P f h = subst (λ t. IfSome c (P t)) f h

three_known : (a b c : Option (List ℕ)) (x : List ℕ) (P : List ℕ → List ℕ → List ℕ → Type 0) → IfSome a (λ t. x ≡ t) → IfThreeKnown (Some x) b c P → IfThreeKnown a b c P
three_known None b c x P f h = tt
three_known (Some m) b c x P f h = subst (λ t. IfSome b (λ y. IfSome c (λ z. P t y z))) f h

-- over the codes of a run, which are those that were given, and what was kept
module _ (k kinds : KindCodes) (is : k ≡ kinds) (o a : Option (List ℕ)) (x : List ℕ) (holds : o ≡ Some x) (all : IfSome a (λ t. x ≡ t)) where
  pub three_kept : (b c : Option (List ℕ)) (P : KindCodes → List ℕ → List ℕ → List ℕ → Type 0) → IfThreeKnown o b c (P k) → IfThreeKnown a b c (P kinds)
  three_kept b c P h = three_known a b c x (P kinds) all (subst (λ (u : Option (List ℕ)). IfThreeKnown u b c (P kinds)) holds (subst (λ l. IfThreeKnown o b c (P l)) is h))

-- ---- why a run over what was kept has no answer is why one over the file has none

pub never : (b : Bool) → b ≡ false → IsTrue b → ⊥
never b is_false is_true = subst (λ (t : Bool). MatchBool t ⊥ ⊤) (sym is_false ∙ is_true) tt

not_too_long : (a : Option (List ℕ)) (x : List ℕ) → IfSome a (λ t. x ≡ t) → IfSome a (λ t. length t ≤ most_bytes) → most_bytes < length x → IsTooLong a
not_too_long None x f short more = tt
not_too_long (Some m) x f short more = absurd (omega (arith, ap (λ (t : List ℕ). length t) f, short, more))

module _ (k kinds : KindCodes) (is : k ≡ kinds) (real kept : Seen) (x : List ℕ) (holds : kept.before ≡ Some x) (sound : kept.failed ≡ false)
    (whole : IsRead real) (all : IfSome real.before (λ t. x ≡ t)) where
  fails_never : (P : Type 0) → HasFailed kept → P
  fails_never P h = absurd (never kept.failed sound h.0)

  too_long : IsTooLong kept.before → IsTooLong real.before
  too_long h = not_too_long real.before x all whole.short (subst IsTooLong holds h)

  schema : (dic : Option (List ℕ)) (P : KindCodes → List ℕ → List ℕ → Type 0) → IfBothKnown kept.before dic (P k) → IfBothKnown real.before dic (P kinds)
  schema dic P h =
      both_known real.before dic x (P kinds) all (subst (λ (u : Option (List ℕ)). IfBothKnown u dic (P kinds)) holds (subst (λ l. IfBothKnown kept.before dic (P l)) is h))

  -- of a run over three inputs
  pub files_kept : (dic vec : Seen) (W : ℕ → Type 0) (e : RunFault) → FilesFault k kept dic vec W e → FilesFault kinds real dic vec W e
  files_kept dic vec W (Memory e) h = tt
  files_kept dic vec W (Read n) h = (h.0, h.1, λ one. fails_never _ (h.2 one).0, λ two. (whole, (h.3 two).1), λ three. (whole, (h.4 three).1, (h.4 three).2))
  files_kept dic vec W (TooLong n) h =
      (h.0, h.1, λ one. (too_long (h.2 one).0, (h.2 one).1, (h.2 one).2), λ two. (whole, (h.3 two).1), λ three. (whole, (h.4 three).1, (h.4 three).2))
  files_kept dic vec W (Schema f) h = schema dic.before (λ l s d. RefusesSchema l s d f) h
  files_kept dic vec W (First f) h = three_kept k kinds is kept.before real.before x holds all dic.before vec.before (λ l s d v. RefusesSheet l s d v f) h
  files_kept dic vec W (Second f) h = absurd h
  files_kept dic vec W (Write w) h = h

-- its status is above those of answers and refusals
pub unread : (R T : ℕ → Type 0) (e : RunFault) → MatchFault e R T (λ _. ⊥) (λ _. ⊥) (λ _. ⊥) (λ _. ⊥) → 2 < status_of_fault e
unread R T (Memory e) h = omega arith
unread R T (Read n) h = omega arith
unread R T (TooLong n) h = omega arith
unread R T (Schema f) h = absurd h
unread R T (First f) h = absurd h
unread R T (Second f) h = absurd h
unread R T (Write w) h = absurd h

-- ---- the note

-- the note on the bytes that were read is that on the file
pub note_given : (inputs : Inputs) (kinds : KindCodes) (path : List ℕ) (a : Option (List ℕ)) (x note : List ℕ) → Gives inputs path a → IfSome a (λ t. x ≡ t)
    → IsNoteOn kinds x (shown_bytes (input_name path)) note → GivesNote inputs kinds path note
note_given inputs kinds path a x note gives all h = (
  a,
  gives,
  names_some_kinds kinds x (shown_bytes (input_name path)) note h,
  one_known a x (λ scd. IsNoteOn kinds scd (shown_bytes (input_name path)) note) all h,
)
