-- Lists that are mostly empty.
use Rattle.std.specs.Prelude.{List, [], Option, None, Some}

-- the elements, if there are any
abbrev pub elements_in : {T : Type 0} → Option (List T) → List T
elements_in None = []
elements_in (Some elements) = elements
