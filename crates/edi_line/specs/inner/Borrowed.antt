-- What a reader has of the zones, borrowed or owned.
use Rattle.std.specs.Prelude.{◌≡◌, ℕ, ◌+◌, false, List, ◌∷◌, ◌++◌, length, Option, Some, None, option_map, option_to_list, IfSome, Ok, Err}
use Rattle.std.specs.List.{AllByRecursion}
use Rattle.edi_line.specs.LineKinds.{starts, some_bears}
use Rattle.edi_line.specs.Spelling.{Reading}
use Rattle.edi_line.specs.Zones.{IsBorrowedUnlessContinued}
use Rattle.edi_line.specs.inner.Kinds.{kind_of}
use Rattle.edi_line.specs.declared.order.ZoneKind.{ZoneKind}
use Rattle.edi_line.specs.declared.order.ZoneKind.TheVariants.{Bom, Cse, Rty, Eom, Other, Next, Remark}
use Rattle.edi_line.specs.declared.reading.Reader.{Reader}
use Rattle.edi_line.specs.declared.zone.Zone.{Zone}
use Rattle.edi_line.specs.declared.zone_list.ZoneList.{ZoneList}
use Rattle.edi_line.specs.inner.ZoneLists.{done_in, open_in}

-- a zone that begins at this line may still be continued
pub record IsOpenAt (lines : List Reading) (line : ℕ) : Type 0 where
  pub front : List Reading
  pub head : Reading
  pub between : List Reading
  pub cut : lines ≡ front ++ head ∷ between
  pub numbered : line ≡ length front + 1
  pub nothing_else : some_bears starts between ≡ false

-- what it holds once these lines have come
pub record BorrowsLines (lines : List Reading) (r : Reader) : Type 0 where
  pub done : AllByRecursion (IsBorrowedUnlessContinued lines) (done_in r.zones)
  pub open_zone : IfSome (open_in r.zones) (λ z. IsBorrowedUnlessContinued lines z × IsOpenAt lines z.line)

abbrev pub begins_at : Option Zone → Option ℕ
begins_at zone = option_map (λ z. z.line) zone

-- the open zone is done, and no other is open
abbrev pub IsClosed : ZoneList → ZoneList → Type 0
IsClosed old new = (done_in new ≡ done_in old ++ option_to_list (open_in old)) × (open_in new ≡ None)

-- the open zone may have become longer
abbrev pub IsLengthened : ZoneList → ZoneList → Type 0
IsLengthened old new = (done_in new ≡ done_in old) × (begins_at (open_in new) ≡ begins_at (open_in old))

-- what a line of this kind leaves, but for the zone that it begins
abbrev pub Leaves : ZoneKind → Reader → Reader → Type 0
Leaves Next old new = IsLengthened old.zones new.zones
Leaves Remark old new = IsClosed old.zones new.zones
Leaves Bom old new = IsClosed old.zones new.zones
Leaves Cse old new = IsClosed old.zones new.zones
Leaves Rty old new = IsClosed old.zones new.zones
Leaves Eom old new = IsClosed old.zones new.zones
Leaves Other old new = IsClosed old.zones new.zones

abbrev pub LeavesAfter : Reading → Reader → Reader → Type 0
LeavesAfter (Ok (Some s)) old new = Leaves (kind_of s.code) old new
LeavesAfter (Ok None) old new = new.zones ≡ old.zones
LeavesAfter (Err rule) old new = new.zones ≡ old.zones
