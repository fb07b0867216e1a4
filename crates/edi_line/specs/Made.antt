-- Lists that are made from others, element by element.
use Rattle.std.specs.Prelude.{◌≡◌, ◌⊎◌, List, [], ◌∷◌, ◌++◌}

-- In the order of the list, one item for each element that counts behind those in front of it, made of what stands in
-- front of the element, of the element, and of what stands behind it.
abbrev pub AreMadeFrom : {X Y : Type 0} → (List X → X → Type 0) → (List X → X → List X → Y → Type 0) → List X → List X
    → List Y → Type 0
AreMadeFrom Counts Makes front [] items = items ≡ []
AreMadeFrom {Y = Y} Counts Makes front (x ∷ behind) items =
    ((item : Y) × (others : List Y) × Counts front x × Makes front x behind item × (items ≡ item ∷ others)
    × AreMadeFrom Counts Makes (front ++ x ∷ []) behind others)
    ⊎ (¬ (Counts front x) × AreMadeFrom Counts Makes (front ++ x ∷ []) behind items)
