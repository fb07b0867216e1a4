-- Two lists, place by place.
use Rattle.std.proofs.Common.{List, [], ◌∷◌, ◌++◌}
use Rattle.std.specs.List.{AllZip}

pub zip_push : {X Y : Type 0} (R : X → Y → Type 0) (xs : List X) (ys : List Y) (x : X) (y : Y) → AllZip R xs ys → R x y → AllZip R (xs ++ x ∷ []) (ys ++ y ∷ [])
zip_push R [] [] x y all is = (is, tt)
zip_push R (a ∷ rest) (b ∷ bs) x y all is = (all.0, zip_push R rest bs x y all.1 is)
zip_push R [] (b ∷ bs) x y all is = absurd all
zip_push R (a ∷ rest) [] x y all is = absurd all
