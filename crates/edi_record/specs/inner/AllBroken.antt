-- How the list of all broken rules grows, record by record.
use Rattle.std.specs.Prelude.{◌≡◌, ℕ, ◌+◌, ◌≤◌, List, ◌∷◌, ◌++◌, length}
use Rattle.edi_line.specs.AllBroken.{AreAllBroken}
use Rattle.edi_line.specs.Bytes.{most_records}
use Rattle.edi_line.specs.ZoneData.{ZoneData}
use Rattle.edi_line.specs.Refusal.{BreaksTest}
use Rattle.edi_record.specs.inner.RecordRules.{record_tests}
use Rattle.edi_record.specs.declared.broken.BrokenGroups.{BrokenGroups}

-- the one of these groups with this number fails the test of the rule
pub record FailsIn (groups : List (List ZoneData)) (rule place : ℕ) : Type 0 where
  pub before : List (List ZoneData)
  pub group : List ZoneData
  pub after : List (List ZoneData)
  pub cut : groups ≡ before ++ group ∷ after
  pub place_is : place ≡ length before + 1
  pub breaks : BreaksTest (record_tests group) rule

-- these groups have come, with each rule that they break
pub record AreBrokenOf (groups : List (List ZoneData)) (b : BrokenGroups) : Type 0 where
  pub counted : b.place ≡ length groups
  pub list : AreAllBroken (FailsIn groups) b.list.items

-- so they have, if they aren't more than a file has
abbrev pub HoldsGroups : List (List ZoneData) → BrokenGroups → Type 0
HoldsGroups groups b = length groups ≤ most_records → AreBrokenOf groups b
