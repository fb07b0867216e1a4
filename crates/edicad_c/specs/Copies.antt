-- What copying a list out of a handle answers.
use Rattle.std.specs.Prelude.{◌≡◌, ◌≢◌, ◌⊎◌, List, length}
use Rattle.edicad_c.specs.declared.answer.Answer.{Answer}
use Rattle.edicad_c.specs.Answers.{done, wrong_call}

-- The room has the list's length, and now the list; or it hasn't that length, and is as it was.
abbrev pub IsCopied : {T : Type 0} → List T → List T → List T → Answer → Type 0
IsCopied list before after answer =
    ((length before ≡ length list) × (after ≡ list) × (answer ≡ done))
    ⊎ ((length before ≢ length list) × (after ≡ before) × (answer ≡ wrong_call))
