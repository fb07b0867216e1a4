-- A zone from its head and its value.
use Rattle.std.specs.Prelude.{ℕ, ◌+◌, ◌-◌, ◌/◌, ◌%◌, List, ◌∷◌, ◌++◌, length, set}
use Rattle.edi_line.specs.ZoneData.{ZoneData}
use Rattle.edi_line.specs.Printing.{zone_text}
use Rattle.edi_write.specs.declared.heads.ZoneHead.{ZoneHead}

abbrev pub headed : ZoneHead → List ℕ → ZoneData
headed head value = zone_text head.code head.nature head.format value

-- a line as far as a part of its value, with 00 for the length
abbrev pub line_begun : ZoneHead → List ℕ → List ℕ
line_begun head first = head.code ++ (head.nature ∷ head.format ∷ 48 ∷ 48 ∷ 58 ∷ first)

-- a line with the digits of this length put in
abbrev pub with_length : List ℕ → ℕ → List ℕ
with_length line len = set (set line 5 (48 + len / 10)) 6 (48 + len % 10)

-- a line with the digits of the length of its value put in
abbrev pub with_own_length : List ℕ → List ℕ
with_own_length line = with_length line (length line - 8)
