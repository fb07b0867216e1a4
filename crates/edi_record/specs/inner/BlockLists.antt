-- PartLists in blocks of as many elements each, but for the last.
use Rattle.std.specs.Prelude.{◌≡◌, ◌≤◌, ◌++◌, List, length, flat_map}
use Rattle.std.specs.List.{AllByRecursion}

module _ {X : Type 0} where
  -- the elements of all blocks in their order
  unfoldable pub blocks_joined : List (List X) → List X → List X
  blocks_joined closed last = flat_map (λ xs. xs) closed ++ last

  abbrev pub IsFull : List X → Type 0
  IsFull xs = length xs ≡ 256

-- all blocks but the last are full, and they are so few that their elements can be counted; the last has no more
-- elements than they
pub record AreBlocks {X : Type 0} (closed : List (List X)) (last : List X) : Type 0 where
  pub full : AllByRecursion IsFull closed
  pub few : length closed ≤ 4294967295
  pub short : length last ≤ 256
