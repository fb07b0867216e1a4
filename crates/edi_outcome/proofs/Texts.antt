-- A text by its place.
use Rattle.std.proofs.Common.{◌≡◌, ℕ, zero, suc, ◌<◌, List, [], ◌∷◌, length, refl, arith, Bor, get_or}
use Rattle.edi_outcome.specs.Words.{text_in, texts}

pub text_in-texts : (list : List (Bor (List ℕ))) (n : ℕ) (d : Bor (List ℕ)) → n < length list → (get_or list n d).now ≡ text_in (texts list) n
text_in-texts [] n d h = absurd (omega arith)
text_in-texts (text ∷ list) zero d h = refl
text_in-texts (text ∷ list) (suc n) d h = text_in-texts list n d (omega arith)
