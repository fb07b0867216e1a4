-- How many extra zones the records of a plan have.
use Rattle.std.specs.Prelude.{◌++◌, ℕ, List, [], ◌∷◌, codes, decimal, length}
use Rattle.std.specs.List.{sum_by}
use Rattle.edi_line.specs.Bytes.{line_feed}
use Rattle.edi_plan.specs.Plans.{PlanData}

-- how many zones the records of a plan have whose codes aren't known there
abbrev pub extra_count : PlanData → ℕ
extra_count p = sum_by (λ r. length r.extras) p.list

-- a number behind words, as a line
abbrev pub number_line : List ℕ → ℕ → List ℕ
number_line words count = words ++ codes ": " ++ decimal count ++ line_feed ∷ []

-- the line on these zones
abbrev pub extra_line : PlanData → List ℕ
extra_line p = number_line (codes "extra zones") (extra_count p)
