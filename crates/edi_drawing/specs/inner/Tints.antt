-- Which records are touched, while that is found.
use Rattle.std.specs.Prelude.{◌≡◌, ◌<◌, ℕ, Bool, false, List, length, slice_index_or}
use Rattle.std.specs.List.{list_any}
use Rattle.edi_plan.specs.Plans.{PlanData}
use Rattle.edi_picture.specs.declared.mark.Mark.{Mark}
use Rattle.edi_drawing.specs.Tints.{is_touched, touches}

-- the records are marked that one of these links touches
pub record HaveTouched (marks : List Mark) (p : PlanData) (links : List ℕ) (touched : List Bool) : Type 0 where
  pub long : length touched ≡ length p.list
  pub each : (k : ℕ) → k < length touched
      → slice_index_or touched k false ≡ list_any (touches marks p k) links

-- the records are marked that are touched
abbrev pub AreTouched : List Mark → PlanData → List Bool → Type 0
AreTouched marks p touched = (k : ℕ) → slice_index_or touched k false ≡ is_touched marks p k
