-- Lines that bar others, by the first bytes of their contents.
use Rattle.std.specs.Prelude.{◌==◌, ◌&&◌, ◌||◌, ℕ, Bool, false, List, codes, nat_eq, if◌then◌else◌}
use Rattle.std.specs.List.{starts_with}

abbrev pub bars_again : List ℕ → List ℕ → Bool
bars_again earlier line =
    if starts_with nat_eq line (codes "BOM") then starts_with nat_eq earlier (codes "BOM")
    else starts_with nat_eq line (codes "CSE")
    && (starts_with nat_eq earlier (codes "CSE") || starts_with nat_eq earlier (codes "RTY"))

abbrev pub bars_text : ℕ → List ℕ → List ℕ → Bool
bars_text rule earlier line =
    if rule == 107 then starts_with nat_eq earlier (codes "EOM")
    else if rule == 108 then bars_again earlier line
    else false
