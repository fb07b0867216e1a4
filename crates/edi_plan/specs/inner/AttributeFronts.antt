-- The fronts of attributes, by which they are told apart before their values are looked at.
use Rattle.std.specs.Prelude.{◌≡◌, ℕ, zero, suc, ◌+◌, ◌*◌, ◌-◌, ◌^◌, List, [], ◌∷◌, Option, Some, None}
use Rattle.edi_line.specs.Bytes.{IsBytes}
use Rattle.edi_record.specs.declared.record.Value.{Value}
use Rattle.edi_record.specs.declared.record.Value.TheVariants.{Number, Bytes}
use Rattle.edi_plan.specs.declared.record.PlanAttribute.{PlanAttribute}

-- a number, and behind it so many bytes of a text, each a digit to the base 256; behind its end stand zeros
abbrev pub front_from : ℕ → ℕ → List ℕ → ℕ
front_from n zero bytes = n
front_from n (suc k) [] = front_from (n * 256) k []
front_from n (suc k) (c ∷ bytes) = front_from (n * 256 + c) k bytes

-- the front of a value: nothing of a number, and seven bytes of a text
abbrev pub front_of_value : Value → ℕ
front_of_value (Number n) = 0
front_of_value (Bytes text) = front_from 1 7 text

-- the front of a value with this character set
abbrev pub front_with : Option (List ℕ) → Value → ℕ
front_with None value = front_of_value value
front_with (Some set) value = 2 ^ 64 - 1

-- the front of an attribute
abbrev pub attribute_front : PlanAttribute → ℕ
attribute_front a = front_with a.tex a.value

-- its value, where it is a text, consists of bytes
abbrev pub HasBytes : PlanAttribute → Type 0
HasBytes a = (text : List ℕ) → a.tex ≡ None → a.value ≡ Bytes text → IsBytes text
