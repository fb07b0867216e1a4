-- A text of one line.
use Rattle.std.proofs.Common.{◌≡◌, ℕ, List, [], ◌∷◌, ◌++◌, subst, sym}
use Rattle.json.specs.Json.{Json}
use Rattle.json.specs.Lex.{tokens}
use Rattle.json.specs.Print.{print}
use Rattle.json.specs.Token.{Token}
use Rattle.json.specs.Tree.{json_tokens}
use Rattle.edi_line.specs.Bytes.{line_feed}
use Rattle.edi_json.specs.Texts.{ReadsAs, json_text}
use Rattle.edi_json.specs.inner.Lines.{HasLines}
use Rattle.edi_json.proofs.LineLemmas.{all_read, one_line}
use Rattle.edi_json_answers.proofs.Values.{IsFit}

-- the text is the line of the value, in which a reader finds it
pub record IsLineOf (value : Json) (line : List ℕ) : Type 0 where
  pub text : line ≡ json_text (value ∷ [])
  pub read : ReadsAs line (value ∷ [])

-- a value that is written behind nothing
pub alone : (value : Json) → IsFit value → (before new : List ℕ) (written : List Token) → before ≡ [] → written ≡ json_tokens value → tokens (print written) ≡ written
    → new ≡ before ++ print written ++ line_feed ∷ [] → IsLineOf value new
alone value fit before new written none is read text =
    let made : HasLines [] new (value ∷ []) = one_line value fit.shallow fit.plain [] before new written none is read text in
    record { text = made.text; read = subst (λ (xs : List ℕ). ReadsAs xs (value ∷ [])) (sym made.text) (all_read (value ∷ []) made.lines) }
