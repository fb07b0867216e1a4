-- The rules of a record, tested zone by zone.
use Rattle.std.specs.Prelude.{ℕ, Bool, ◌||◌, nat_le, nat_lt, List, length, codes, Option, Some, None}
use Rattle.std.specs.List.{list_any, before_first}
use Rattle.edi_line.specs.ZoneData.{ZoneData, has_code}
use Rattle.edi_record.specs.Records.{values, points_at}
use Rattle.edi_record.specs.inner.RecordRules.{count_until, repeats_code, some_no_pointer}
use Rattle.edi_record.specs.declared.group_rules.Stretch.{Stretch}
use Rattle.edi_record.specs.declared.group_rules.Stretch.TheVariants.{Closed, Opened, HasOne}

-- a zone that ends a stretch: it opens the next, or closes this one
abbrev pub closes_by : List ℕ → List ℕ → ZoneData → Bool
closes_by opens closes z = has_code opens z || has_code closes z

-- a code comes twice in one stretch, where so much of the open one has come and these zones are left
abbrev pub repeats_from : Stretch → List ℕ → List ℕ → List ℕ → List ZoneData → Bool
repeats_from Closed opens closes code left = repeats_code (has_code opens) (closes_by opens closes) code left
repeats_from Opened opens closes code left =
    nat_le 2 (count_until (closes_by opens closes) code left)
    || repeats_code (has_code opens) (closes_by opens closes) code left
repeats_from HasOne opens closes code left =
    nat_le 1 (count_until (closes_by opens closes) code left)
    || repeats_code (has_code opens) (closes_by opens closes) code left

-- what has come with the code, unless it comes twice then
abbrev pub stretch_with_one : Stretch → Option Stretch
stretch_with_one Closed = Some Closed
stretch_with_one Opened = Some HasOne
stretch_with_one HasOne = None

-- an FTP is no pointer; there are fewer than two; an SNS comes before any FTP, or twice for one
abbrev pub bad_ends : List ZoneData → Bool
bad_ends group =
    some_no_pointer (values (codes "FTP") group)
    || (nat_lt (length (values (codes "FTP") group)) 2
    || (list_any (has_code (codes "SNS")) (before_first points_at group)
    || repeats_code points_at points_at (codes "SNS") group))
