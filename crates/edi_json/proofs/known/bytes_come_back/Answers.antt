use Rattle.std.proofs.Common.{◌≡◌, ◌∙◌, ℕ, ◌<◌, All, true, ◌&&◌, List, [], ◌∷◌, ◌++◌, ap, ap₂, arith, chars, encode_utf8, encode_utf8_all, refl}
use Rattle.std.specs.Str.{all_scalars}
use Rattle.std.proofs.lemmas.List.Elements.{All-head, All-tail}
use Rattle.std.proofs.lemmas.Str.{chars-encodes}
use lib.Utf8.{low_scalar}
use Rattle.edi_json.specs.Values.{characters}
use Rattle.edi_json.proofs.known.bytes_come_back.Goals as goal

encoded : (bytes : List ℕ) → characters bytes ≡ encode_utf8_all bytes
encoded [] = refl
encoded (byte ∷ bytes) = ap (λ xs. encode_utf8 byte ++ xs) (encoded bytes)

scalar : (bytes : List ℕ) → All (λ byte. byte < 256) bytes → all_scalars bytes ≡ true
scalar [] h = refl
scalar (byte ∷ bytes) h =
    ap₂ (λ a b. a && b) (low_scalar byte (omega (arith, All-head (λ x. x < 256) byte bytes h))) (scalar bytes (All-tail (λ x. x < 256) byte bytes h))

pub returns : goal.returns
returns c = λ bytes small. ap chars (encoded bytes) ∙ chars-encodes bytes (scalar bytes small)
