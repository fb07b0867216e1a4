-- The numbers of the inputs of runs.
use Rattle.std.specs.Prelude.{ℕ}
use Rattle.edi_compare.specs.declared.input.Input.{Input}
use Rattle.edi_compare.specs.declared.input.Input.TheVariants.{Only, Scd, Dic, First, Second, Pairing}

-- counted from 1 in the order of the arguments
abbrev pub input_number : Input → ℕ
input_number Only = 1
input_number Scd = 1
input_number Dic = 2
input_number First = 3
input_number Second = 4
input_number Pairing = 5
