-- What is appended in two parts.
use Rattle.std.proofs.Common.{◌≡◌, ◌++◌, append_assoc, ℕ, List, if◌then◌else◌, ap, ◌∙◌, Result, Ok, Err, OnOk}
use Rattle.std.specs.Result.{is_ok}

pub in_two_parts : {T E : Type 0} (r : Result T E) (before middle after first second : List ℕ) → middle ≡ before ++ first → after ≡ (if is_ok r then middle ++ second else middle)
    → OnOk r (after ≡ before ++ (first ++ second))
in_two_parts (Ok x) before middle after first second e h = h ∙ (ap (λ t. t ++ second) e ∙ append_assoc before first second)
in_two_parts (Err x) before middle after first second e h = tt
