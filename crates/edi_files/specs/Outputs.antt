-- Where canonical files go, and what a failure leaves there.
use Rattle.std.specs.Prelude.{◌≡◌, ◌≢◌, ◌⊎◌, ◌≤◌, ℕ, Bool, List, length, take, Option, Some, IsTrue}
use Rattle.std.specs.Io.KnownBytes.{Appends, IsAtEnd}

-- an empty file was filled with the bytes, and the path holds it
abbrev pub IsFilled : (Option (List ℕ) → Type 0) → List ℕ → Type 0
IsFilled held bytes = (empty full : Option (List ℕ)) × IsAtEnd empty × Appends empty full bytes × held full

-- the bytes went to the stream, and nothing behind them: it was then ended
abbrev pub Pours : (S : Type 0) → (S → Type 0) → (S → Type 0) → (S → Option (List ℕ)) → List ℕ → Type 0
Pours S opened ended contents bytes =
    (before after : S) × opened before × ended after × Appends (contents before) (contents after) bytes

-- the first bytes went to the stream, which then failed
abbrev pub PoursFirst : (S : Type 0) → (S → Type 0) → (S → Option (List ℕ)) → (S → Bool) → ℕ → List ℕ → Type 0
PoursFirst S opened contents failed count bytes =
    (before after : S) × opened before × IsTrue (failed after)
    × Appends (contents before) (contents after) (take count bytes)

-- the bytes are the file of the path, or went to its stream
abbrev pub Reaches : (S : Type 0) → (Option (List ℕ) → Type 0) → (S → Type 0) → (S → Type 0) → (S → Option (List ℕ))
    → List ℕ → Type 0
Reaches S held opened ended contents bytes = IsFilled held bytes ⊎ Pours S opened ended contents bytes

-- the path can't be written to, or a new file failed
abbrev pub IsUnmade : (D : Type 0) → Type 0 → (D → Bool) → Type 0
IsUnmade D unwritable failed = unwritable ⊎ ((file : D) × IsTrue (failed file))

-- why so many bytes went out and no more: none, since the file was not made; or the first ones, to a stream that failed
abbrev pub StopsAfter : (S : Type 0) → Type 0 → (S → Type 0) → (S → Option (List ℕ)) → (S → Bool) → ℕ → List ℕ → Type 0
StopsAfter S unmade opened contents failed count bytes =
    ((count ≡ 0) × unmade) ⊎ ((count ≤ length bytes) × PoursFirst S opened contents failed count bytes)

-- at the path there are whole bytes of this kind; or it is another, and one that was spare
abbrev pub IsWholeOrNew : List ℕ → (List ℕ → Type 0) → (List ℕ → Type 0) → List ℕ → Option (List ℕ) → Type 0
IsWholeOrNew out WasSpare Whole path c =
    ((path ≡ out) × ((bytes : List ℕ) × Whole bytes × (c ≡ Some bytes))) ⊎ ((path ≢ out) × WasSpare path)
