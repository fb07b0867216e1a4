-- Ends that are written one behind the other.
use Rattle.std.proofs.Common.{◌≡◌, ℕ, ◌+◌, ◌<◌, List, [], ◌∷◌, ◌++◌, map, length, get_or, take, sym, ap, ◌∙◌}
use Rattle.std.specs.Prelude.{flat_map}
use Rattle.std.proofs.lemmas.List.{append_assoc, append-nil, map-append, take_more}
use Rattle.std.proofs.lemmas.Grind.{flat_map-append}
use Rattle.edi_line.specs.ZoneData.{ZoneData}
use Rattle.edi_line.specs.Printing.{printed, printed_zone}

-- one more of a list is written
pub ends_more : {X Y : Type 0} (zones : Y → List ZoneData) (f : X → Y) (xs : List X) (i : ℕ) (d : X) (before done more : List ℕ) → i < length xs
    → done ≡ before ++ printed (flat_map zones (map f (take i xs))) → more ≡ done ++ printed (zones (f (get_or xs i d))) → more ≡ before ++ printed (flat_map zones (map f (take (i + 1) xs)))
ends_more zones f xs i d before done more h so_far next =
    let seen = flat_map zones (map f (take i xs)) in
    let last = zones (f (get_or xs i d)) in
    let whole : printed (flat_map zones (map f (take (i + 1) xs))) ≡ printed seen ++ printed last =
    ap (λ ys. printed (flat_map zones (map f ys))) (take_more xs i d h) ∙ (ap (λ ys. printed (flat_map zones ys)) (map-append f (take i xs) (get_or xs i d ∷ []))
    ∙ (ap printed (flat_map-append zones (map f (take i xs)) (f (get_or xs i d) ∷ []) ∙ ap (λ ys. seen ++ ys) (append-nil last)) ∙ flat_map-append printed_zone seen last)) in
    next ∙ (ap (λ ys. ys ++ printed last) so_far ∙ (append_assoc before (printed seen) (printed last) ∙ ap (λ ys. before ++ ys) (sym whole)))

-- the origin is written, and then the others
pub origin_first : {Y : Type 0} (zones : Y → List ZoneData) (k : Y) (ks all : List Y) (before after : List ℕ) → after ≡ before ++ printed (zones k) → k ∷ ks ≡ all → after ++ printed (flat_map zones ks) ≡ before ++ printed (flat_map zones all)
origin_first zones k ks all before after first is =
    ap (λ ys. ys ++ printed (flat_map zones ks)) first ∙ (append_assoc before (printed (zones k)) (printed (flat_map zones ks))
    ∙ ap (λ ys. before ++ ys) (sym (flat_map-append printed_zone (zones k) (flat_map zones ks)) ∙ ap (λ ys. printed (flat_map zones ys)) is))
