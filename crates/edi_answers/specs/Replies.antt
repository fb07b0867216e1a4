-- What is replied to the output and to the errors, one reply behind another.
use Rattle.std.specs.Prelude.{◌≡◌, ◌⊎◌, ℕ, Bool, max, List, [], ◌∷◌, Option, IsTrue}
use Rattle.edi_answers.specs.Effects.{Stream}
use Rattle.edi_answers.specs.Notes.{WritesNoteIfAny}
use Rattle.edi_answers.specs.Statuses.{LacksMemory, Prints}

-- what a reply adds to the output and to the errors, and its status
abbrev pub Reply : Type 1
Reply = Stream → Stream → ℕ → Type 0

-- nothing is added
abbrev pub AddsNothing : Reply
AddsNothing out err s = (out.after ≡ out.before) × (err.after ≡ err.before) × (s ≡ 0)

-- One reply, and behind it another: each stream got what the one adds and then the other, and the status is the
-- greater.
pub record OneThenOther (First Rest : Reply) (out err : Stream) (s : ℕ) : Type 0 where
  pub between_out : Option (List ℕ)
  pub between_err : Option (List ℕ)
  pub out_failed : Bool
  pub err_failed : Bool
  pub out_stays : IsTrue out_failed → IsTrue out.failed
  pub err_stays : IsTrue err_failed → IsTrue err.failed
  pub first : ℕ
  pub rest : ℕ
  pub one : First (record { before = out.before; after = between_out; failed = out_failed })
      (record { before = err.before; after = between_err; failed = err_failed }) first
  pub other : Rest (record { before = between_out; after = out.after; failed = out.failed })
      (record { before = between_err; after = err.after; failed = err.failed }) rest
  pub greater : s ≡ max first rest

-- the replies to each of these, in their order
abbrev pub EachInTurn : {X : Type 0} → (X → Reply) → List X → Reply
EachInTurn AnswerTo [] = AddsNothing
EachInTurn AnswerTo (x ∷ xs) = OneThenOther (AnswerTo x) (EachInTurn AnswerTo xs)

-- the same to the end, or up to one at which the replies stop
abbrev pub EachUntil : {X : Type 0} → (X → Reply) → (X → Reply) → List X → Reply
EachUntil AnswerTo StopAt [] out err s = AddsNothing out err s
EachUntil AnswerTo StopAt (x ∷ xs) out err s =
    StopAt x out err s ⊎ OneThenOther (AnswerTo x) (EachUntil AnswerTo StopAt xs) out err s

-- the errors got these lines, with this status; or there was no memory for them
abbrev pub ErrorsSay : List ℕ → ℕ → Stream → ℕ → Type 0
ErrorsSay lines status err s = ((s ≡ status) × WritesNoteIfAny err lines) ⊎ ((s ≡ 5) × LacksMemory err)

-- and the output got nothing
abbrev pub SaysLines : List ℕ → ℕ → Reply
SaysLines lines status out err s = Prints out [] × ErrorsSay lines status err s
