use Rattle.std.proofs.Common.{◌≡◌, ◌≤◌, ◌++◌, ◌-◌, length, take, drop}
use Rattle.std.specs.List.{concat}
use Rattle.edi_line.specs.inner.Lines.{lines_in}
use Rattle.edi_compare.specs.Bundle.{first_file, later_files}
use Rattle.edi_compare.proofs.bundle.file_len.Given as goal

-- the lines before `at` are of the first file, and it goes on
abbrev pub invariant-loop-at : goal.invariant-loop-at
invariant-loop-at l =
    (l.at ≤ length l.bytes)
    × (concat (first_file (lines_in l.bytes)) ≡ take l.at l.bytes ++ concat (first_file (lines_in (drop l.at l.bytes))))
    × (later_files (lines_in l.bytes) ≡ later_files (lines_in (drop l.at l.bytes)))

abbrev pub decreases-loop-at : goal.decreases-loop-at
decreases-loop-at l = length l.bytes - l.at
