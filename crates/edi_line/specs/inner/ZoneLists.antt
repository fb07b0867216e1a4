-- The zones that have begun, of which the last may be open.
use Rattle.std.specs.Prelude.{Bool, true, false, List, [], ◌∷◌, Option, Some, None, option_map}
use Rattle.edi_line.specs.ZoneData.{entry, entries}
use Rattle.edi_line.specs.Feeding.{Zoned}
use Rattle.edi_line.specs.declared.zone.Zone.{Zone}
use Rattle.edi_line.specs.declared.zone_list.ZoneList.{ZoneList}

abbrev pub all_but_last : {X : Type 0} → List X → List X
all_but_last [] = []
all_but_last (x ∷ []) = []
all_but_last (x ∷ (y ∷ ys)) = x ∷ all_but_last (y ∷ ys)

abbrev pub last_if_any : {X : Type 0} → List X → Option X
last_if_any [] = None
last_if_any (x ∷ []) = Some x
last_if_any (x ∷ (y ∷ ys)) = last_if_any (y ∷ ys)

-- those that are done, where the last is open or isn't
abbrev pub done_of : {X : Type 0} → Bool → List X → List X
done_of true xs = all_but_last xs
done_of false xs = xs

-- the one that is open
abbrev pub open_of : {X : Type 0} → Bool → List X → Option X
open_of true xs = last_if_any xs
open_of false xs = None

abbrev pub done_in : ZoneList → List Zone
done_in l = done_of l.is_open l.zones.items

abbrev pub open_in : ZoneList → Option Zone
open_in l = open_of l.is_open l.zones.items

abbrev pub zoned_list : ZoneList → Zoned
zoned_list l = record { done = entries (done_in l); open_zone = option_map entry (open_in l) }
