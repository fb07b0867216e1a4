-- What a report keeps while it is written.
use Rattle.std.specs.Prelude.{◌≡◌, ℕ, Bool, false, List, Option, None, Some, length, slice_index_or, ◌<◌}
use Rattle.edi_plan.specs.Plans.{IsPlace}
use Rattle.edi_report.specs.Lines.{is_reached}
use Rattle.edi_report.specs.Reports.{HasSites, Report}

-- the records that became others, and the entries for them
pub record IsFitting (r : Report) : Type 0 where
  pub first_sites : HasSites r.first
  pub second_sites : HasSites r.second
  pub all_unchanged : length r.unchanged ≡ length r.first.accepted.list
  pub all_became : length r.became ≡ length r.first.accepted.list
  pub within : (i j : ℕ) → slice_index_or r.became i None ≡ Some j → IsPlace r.second.accepted j

-- the places that records went to are marked, among the first n
pub record AreMarks (became : List (Option ℕ)) (n : ℕ) (marks : List Bool) : Type 0 where
  pub long : length marks ≡ n
  pub each : (j : ℕ) → j < n → slice_index_or marks j false ≡ is_reached became j
