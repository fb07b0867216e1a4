-- What a slot for a name has.
use Rattle.std.specs.Prelude.{ℕ, ◌+◌, ◌*◌, ◌/◌, ◌%◌}

-- what the slot of a place has: the place, and the tag of its name above
abbrev pub tagged : ℕ → ℕ → ℕ
tagged tag place = tag * 16777216 + place

abbrev pub slot_tag : ℕ → ℕ
slot_tag slot = slot / 16777216

abbrev pub slot_place : ℕ → ℕ
slot_place slot = slot % 16777216

-- what a free slot has
abbrev pub free_slot : ℕ
free_slot = 4294967295
