-- How records are marked that others became.
use Rattle.std.specs.Prelude.{ℕ, Bool}
use Rattle.std.specs.List.{list_any, range_with_len}
use Rattle.edi_report.specs.Lines.{went_to}
use Rattle.edi_report.specs.Reports.{Report}
use Rattle.edi_objects.specs.Differing.{moved_to}

-- one of the first so many records became this one, and had other ends
abbrev pub is_moved_onto : Report → ℕ → ℕ → Bool
is_moved_onto r count j = list_any (λ i. went_to j (moved_to r i)) (range_with_len 0 count)
