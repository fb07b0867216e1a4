-- Where a record of a name can stand.
use Rattle.std.specs.Prelude.{◌≡◌, ◌≢◌, ◌==◌, ◌&&◌, ℕ, ◌+◌, ◌++◌, ◌-◌, ◌*◌, ◌/◌, ◌%◌, ◌^◌, ◌<◌, ◌≤◌, ◌⊎◌, Bool, false, true, List, [], ◌∷◌, length, bit_and, nat_lt, Option, None, Some, slice_get, slice_index, slice_range, if◌then◌else◌}
use Rattle.std.specs.List.{fold}
use Rattle.edi_record.specs.Records.{is_link}
use Rattle.edi_record.specs.Shapes.{kind_code}
use Rattle.edi_record.specs.declared.name.Name.{Name}
use Rattle.edi_record.specs.declared.record.Kind.{Kind}
use Rattle.edi_record.specs.declared.record.Kind.TheVariants.{Pno, Par, Pfe, Fea, Lnk}
use Rattle.edi_record.specs.declared.record.Record.{Record}
use Rattle.edi_schema.specs.Classes.{is_name}
use Rattle.edi_plan.specs.PlanOf.{own_name}
use Rattle.edi_plan.specs.inner.Names.{is_tabled}
use Rattle.edi_plan.specs.inner.Slots.{tagged, slot_tag, slot_place, free_slot}
use Rattle.edi_plan.specs.declared.name_slots.NameHints.{NameHints}

-- three bytes of a text from a place on, each by its last four bits, as digits of a number
abbrev pub three_bytes : List ℕ → ℕ → ℕ
three_bytes text at =
    (slice_index text at % 16) * 100 + (slice_index text (at + 1) % 16) * 10 + slice_index text (at + 2) % 16

-- the number with the last four bits of a byte as its next digit
abbrev pub with_bits : ℕ → ℕ → ℕ
with_bits number byte = ((number * 10) % 2 ^ 64 + byte % 16) % 2 ^ 64

-- the last six bytes as digits of a number, or all where there are fewer
unfoldable pub last_bytes : List ℕ → ℕ
last_bytes text = if nat_lt (length text) 6 then fold with_bits 0 text else
    three_bytes text (length text - 6) * 1000 + three_bytes text (length text - 3)

-- the three bytes before these as digits of a number, or 0 where there are fewer
unfoldable pub front_bytes : List ℕ → ℕ
front_bytes text = if nat_lt (length text) 9 then 0 else three_bytes text (length text - 6 - 3)

abbrev pub kind_slot : Kind → ℕ
kind_slot Pno = 0
kind_slot Par = 2
kind_slot Pfe = 4
kind_slot Fea = 6
kind_slot Lnk = 6

-- the number of an identifier
unfoldable pub own_number : List ℕ → ℕ
own_number rid = (last_bytes rid + (front_bytes rid * 7919) % 2 ^ 64) % 2 ^ 64

-- the tag of an identifier with this number: a byte that its first byte and all bits of the number have a share in
unfoldable pub tag_from : List ℕ → ℕ → ℕ
tag_from rid own = ((own * 11400714819323198485) % 2 ^ 64 / 2 ^ 56 + slice_index rid 0) % 256

abbrev pub tag_of : List ℕ → ℕ
tag_of rid = tag_from rid (own_number rid)

-- a number that is half of so many slots greater
unfoldable pub farther : ℕ → ℕ → ℕ
farther slots number = (number + slots / 2) % 2 ^ 64

-- the numbers of a name, by which its slots are found: one of its own, and a farther one
unfoldable pub near_from : Kind → ℕ → ℕ
near_from kind own = ((own * 8) % 2 ^ 64 + kind_slot kind) % 2 ^ 64

abbrev pub near_number : Kind → List ℕ → ℕ
near_number kind rid = near_from kind (own_number rid)

abbrev pub far_number : ℕ → Kind → List ℕ → ℕ
far_number slots kind rid = farther slots (near_number kind rid)

-- where the slots of a number begin among so many
unfoldable pub start_of : ℕ → ℕ → ℕ
start_of slots number = bit_and number (slots - 8)

-- the slots of a number
abbrev pub slots_at : List ℕ → ℕ → List ℕ
slots_at slots number =
    slice_range slots (start_of (length slots) number) (start_of (length slots) number + 8)

-- the slots of a name: those of its own number, and then the others
abbrev pub slots_of : List ℕ → Kind → List ℕ → List ℕ
slots_of slots kind rid =
    slots_at slots (near_number kind rid) ++ slots_at slots (far_number (length slots) kind rid)

-- whether the record at a place has this name
abbrev pub is_named : Name → Option Record → Bool
is_named name None = false
is_named name (Some r) = is_name (own_name r) name

abbrev pub is_named_at : List Record → Name → ℕ → Bool
is_named_at list name place = is_named name (slice_get list place)

-- whether a slot has the tag of this name, and the place of a record of this name
abbrev pub is_held : List Record → Name → ℕ → Bool
is_held list name slot = (slot_tag slot == tag_of name.rid) && is_named_at list name (slot_place slot)

-- the place in the first of these slots that has one of this name
unfoldable pub first_held : List Record → Name → List ℕ → Option ℕ
first_held list name [] = None
first_held list name (slot ∷ slots) =
    if is_held list name slot then Some (slot_place slot) else first_held list name slots

-- a slot that has this isn't free, and has no place of this name
abbrev pub IsPassed : List Record → Name → ℕ → Type 0
IsPassed list name slot = (slot ≢ free_slot) × (is_held list name slot ≡ false)

-- so it is with each slot from one up to another
abbrev pub ArePassed : List Record → Name → List ℕ → ℕ → ℕ → Type 0
ArePassed list name slots from to =
    (at : ℕ) → from ≤ at → at < to → IsPassed list name (slice_index slots at)

-- one of the eight slots from here on has this tagged place, and those before it are passed
pub record StandsFrom (list : List Record) (name : Name) (slots : List ℕ) (start slot : ℕ) : Type 0 where
  pub at : ℕ
  pub past_start : start ≤ at
  pub in_window : at < start + 8
  pub within : at < length slots
  pub here : slice_index slots at ≡ slot
  pub before : ArePassed list name slots start at

-- and so it is with the slots of this number
abbrev pub StandsAt : List Record → Name → List ℕ → ℕ → ℕ → Type 0
StandsAt list name slots number slot = StandsFrom list name slots (start_of (length slots) number) slot

-- all slots of this number are passed
abbrev pub ArePassedAt : List Record → Name → List ℕ → ℕ → Type 0
ArePassedAt list name slots number =
    ArePassed list name slots (start_of (length slots) number) (start_of (length slots) number + 8)

-- one of the slots of a name has this place, and those before it are passed
abbrev pub StandsUnder : List Record → List ℕ → Kind → List ℕ → ℕ → Type 0
StandsUnder list slots kind rid place =
    let name : Name = record { rty = kind_code kind; rid = rid } in
    StandsAt list name slots (near_number kind rid) (tagged (tag_of rid) place)
    ⊎ (ArePassedAt list name slots (near_number kind rid)
    × StandsAt list name slots (far_number (length slots) kind rid) (tagged (tag_of rid) place))

-- the new slots are as many, and what isn't free among the old stays as it is
pub record KeepsPlaces (old new : List ℕ) : Type 0 where
  pub as_long : length new ≡ length old
  pub taken : (at : ℕ) → slice_index old at ≢ free_slot → slice_index new at ≡ slice_index old at

-- what stands in the slots of a name under this name
abbrev pub found : List Record → NameHints → Kind → List ℕ → Option ℕ
found list hints kind rid =
    first_held list (record { rty = kind_code kind; rid = rid }) (slots_of hints.slots.items kind rid)

-- each record is found by its name, but for links where these rise
abbrev pub HasTabled : Bool → List Record → NameHints → Type 0
HasTabled links_rise list hints = (k : ℕ) (r : Record) → slice_get list k ≡ Some r
    → is_tabled links_rise r.kind ≡ true → found list hints r.kind r.rid ≡ Some k

-- each record that is no link is found by its name
abbrev pub HasAll : List Record → NameHints → Type 0
HasAll list hints = (k : ℕ) (r : Record) → slice_get list k ≡ Some r
    → is_link r.kind ≡ false → found list hints r.kind r.rid ≡ Some k
