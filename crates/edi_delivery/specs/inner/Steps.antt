-- The steps of reading a delivery, one at a time.
use Rattle.std.specs.Prelude.{ℕ, Bool, false, ◌||◌, ⊤, List, [], ◌∷◌, ◌++◌}
use Rattle.std.specs.List.{list_any}
use Rattle.std.specs.Str.{bytes_eq}
use Rattle.edi_delivery.specs.declared.fault.LotFault.{LotFault}
use Rattle.edi_delivery.specs.declared.fault.LotFault.TheVariants.{Memory, Broken}

-- the fault is one of memory, or this holds of its rule
abbrev pub IfRule : (ℕ → Type 0) → LotFault → Type 0
IfRule P (Memory e) = ⊤
IfRule P (Broken rule) = P rule

-- some of the later is among the earlier, or among the later before it
abbrev pub repeats_earlier : List (List ℕ) → List (List ℕ) → Bool
repeats_earlier earlier [] = false
repeats_earlier earlier (x ∷ xs) = list_any (bytes_eq x) earlier || repeats_earlier (earlier ++ x ∷ []) xs
