use Rattle.std.proofs.Common.{◌≡◌, List, ℕ, Option, Some, None, refl, sym, ◌∙◌}
use Rattle.std.specs.Prelude.{ℤ}
use Rattle.std.specs.Fmt.{digits}
use Rattle.edi_line.specs.Number.{IsNumberText, fraction_digits, size_text}
use Rattle.edi_line.specs.inner.Number.{number, whole_number, fraction_number}
use Rattle.edi_line.proofs.NumberRead.{number_is}
use Rattle.edi_line.proofs.known.known_numbers_are_read.Goals as goal

read : (text : List ℕ) (m : ℤ) → number text ≡ Some m → IsNumberText text m
read text m e = (number_is text m).0 e

none : (text : List ℕ) → number text ≡ None → (m : ℤ) → ¬ (IsNumberText text m)
none text e m is = let found : number text ≡ Some m = (number_is text m).1 is in let no : ◌≡◌ {A = Option ℤ} None (Some m) = sym e ∙ found in cc

pub returns-clause-minus_zero : goal.returns-clause-minus_zero
unfolding number whole_number fraction_number
returns-clause-minus_zero c = read _ _ refl

pub returns-clause-point_first : goal.returns-clause-point_first
unfolding number whole_number fraction_number
returns-clause-point_first c = read _ _ refl

pub returns-clause-point_last : goal.returns-clause-point_last
unfolding number whole_number fraction_number
returns-clause-point_last c = read _ _ refl

pub returns-clause-spare_zeros : goal.returns-clause-spare_zeros
unfolding number whole_number fraction_number
returns-clause-spare_zeros c = read _ _ refl

pub returns-clause-greatest : goal.returns-clause-greatest
unfolding number whole_number fraction_number
returns-clause-greatest c = read _ _ refl

pub returns-clause-below_zero : goal.returns-clause-below_zero
unfolding number whole_number fraction_number
returns-clause-below_zero c = read _ _ refl

pub returns-clause-ten_digits : goal.returns-clause-ten_digits
unfolding number whole_number fraction_number
returns-clause-ten_digits c = none _ refl

pub returns-clause-seventh_place : goal.returns-clause-seventh_place
unfolding number whole_number fraction_number
returns-clause-seventh_place c = none _ refl

pub returns-clause-point_alone : goal.returns-clause-point_alone
unfolding number whole_number fraction_number
returns-clause-point_alone c = none _ refl

pub returns-clause-sign_alone : goal.returns-clause-sign_alone
unfolding number whole_number fraction_number
returns-clause-sign_alone c = none _ refl

pub returns-clause-two_signs : goal.returns-clause-two_signs
unfolding number whole_number fraction_number
returns-clause-two_signs c = none _ refl

pub returns-clause-power : goal.returns-clause-power
unfolding number whole_number fraction_number
returns-clause-power c = none _ refl

pub returns-clause-nothing : goal.returns-clause-nothing
unfolding number whole_number fraction_number
returns-clause-nothing c = none _ refl

pub returns-clause-plain : goal.returns-clause-plain
unfolding size_text fraction_digits digits
returns-clause-plain c = (refl, refl, refl)

pub returns-clause-signed : goal.returns-clause-signed
unfolding size_text fraction_digits digits
returns-clause-signed c = (refl, refl, refl)
