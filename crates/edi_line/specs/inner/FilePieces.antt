-- What the pieces of a file keep.
use Rattle.std.specs.Prelude.{◌≡◌, ℕ, ◌-◌, ◌^◌, ◌<◌, List, [], ◌∷◌, ◌++◌, length, flat_map}
use Rattle.std.specs.List.{AllByRecursion}
use Rattle.std.specs.Global.{Vec}
use Rattle.edi_line.specs.Bytes.{IsBytes, line_feed}

-- the last byte is a line feed
pub record EndsInFeed (bytes : List ℕ) : Type 0 where
  pub front : List ℕ
  pub ended : bytes ≡ front ++ line_feed ∷ []

-- one piece behind the other, and then what is behind them
abbrev pub pieces_joined : List (Vec ℕ) → List ℕ → List ℕ
pieces_joined ended last = flat_map (λ piece. piece.items) ended ++ last

abbrev pub EachEnded : List (Vec ℕ) → Type 0
EachEnded pieces = AllByRecursion (λ piece. EndsInFeed piece.items) pieces

pub record AreKept (ended : List (Vec ℕ)) (last : List ℕ) (len : ℕ) : Type 0 where
  pub each_ended : EachEnded ended
  pub are_bytes : IsBytes (pieces_joined ended last)
  pub counted : len ≡ length (pieces_joined ended last)
  pub short : len < 2 ^ 64 - 1
