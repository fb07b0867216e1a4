-- What the scripted devices do.
use Rattle.std.specs.Prelude.{ℕ, ◌+◌, ◌-◌, ◌^◌, Bool, true, false, ◌&&◌, List, [], ◌∷◌, length, drop, Option, None, Some, nat_lt, nat_le, ◌==◌, if◌then◌else◌, min, max}

-- a scripted source: its bytes, the place of the next one, the most that a read gives, the call at which it
-- fails, whether it begins again at its end, and how many calls there were
pub record InScript : Type 0 where
  pub bytes : List ℕ
  pub at : ℕ
  pub piece : ℕ
  pub fault_at : ℕ
  pub endless : Bool
  pub calls : ℕ

-- a scripted sink: what it took, the most that it takes in all and in one write, the call at which it fails,
-- how many calls there were, and whether it answered 0 to one byte or more
pub record OutScript : Type 0 where
  pub out : List ℕ
  pub room : ℕ
  pub piece : ℕ
  pub fault_at : ℕ
  pub calls : ℕ
  pub refused : Bool

-- one call more, up to the greatest number
abbrev pub one_more : ℕ → ℕ
one_more calls = min (calls + 1) (2 ^ 64 - 1)

-- whether the call numbered `calls` is the one at which the script fails, or a later one; 0 is never
abbrev pub is_past : ℕ → ℕ → Bool
is_past fault_at calls = nat_lt 0 fault_at && nat_le fault_at calls

-- the bytes that a script has left at a place: an endless one claims none, unless there are no bytes to repeat
abbrev pub left_at : List ℕ → Bool → ℕ → Option (List ℕ)
left_at bytes false at = Some (drop at bytes)
left_at [] true at = Some []
left_at (x ∷ xs) true at = None

-- where a read begins: an endless script begins again at its end
abbrev pub start_at : List ℕ → Bool → ℕ → ℕ
start_at bytes endless at = if endless && (at == length bytes) then 0 else at

-- how many bytes a read gives: a piece of 0 counts as 1
abbrev pub piece_at : List ℕ → ℕ → ℕ → ℕ → ℕ
piece_at bytes piece start room = min (min (max piece 1) room) (length bytes - start)

-- a write of one byte or more was answered 0
abbrev pub is_zero_answer : Option ℕ → List ℕ → Bool
is_zero_answer None bytes = false
is_zero_answer (Some n) bytes = (n == 0) && nat_lt 0 (length bytes)
