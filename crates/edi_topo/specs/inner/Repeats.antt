-- Records that repeat an earlier one.
use Rattle.std.specs.Prelude.{ℕ, Result, Option, option_map}
use Rattle.std.specs.Result.{result_err}
use Rattle.edi_topo.specs.declared.repeat.Repeat.{Repeat}

-- the place of the first repeat, if there is one
abbrev pub repeat_place : {X : Type 0} → Result X Repeat → Option ℕ
repeat_place found = option_map (λ (r : Repeat). r.place) (result_err found)

-- the place of what it repeats
abbrev pub repeated_place : {X : Type 0} → Result X Repeat → Option ℕ
repeated_place found = option_map (λ (r : Repeat). r.earlier) (result_err found)
