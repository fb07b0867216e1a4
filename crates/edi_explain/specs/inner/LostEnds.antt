-- The names of the records of a sheet.
use Rattle.std.specs.Prelude.{◌≡◌, ◌↔◌, ℕ, List, Option, None, Any, Contains, codes, flat_map, option_to_list}
use Rattle.edi_line.specs.ZoneData.{ZoneData, first}
use Rattle.edi_record.specs.Records.{values}
use Rattle.edi_record.specs.Texts.{PointerText}
use Rattle.edi_record.specs.declared.name.Name.{Name}
use Rattle.edi_explain.specs.AstrayZones.{IsFirstLostEnd, IsNamedBy}

-- the identifiers of these records
abbrev pub identifiers : List (List ZoneData) → List (List ℕ)
identifiers groups = flat_map (λ group. option_to_list (first (values (codes "RID") group))) groups

-- what a pointer names
abbrev pub pointed_name : PointerText → Name
pointed_name p = record { rty = p.rty; rid = p.rid }

-- the names of these records, and no others
abbrev pub AreNamesOfGroups : List (List ZoneData) → List Name → Type 0
AreNamesOfGroups groups names = (p : PointerText) → Contains names (pointed_name p) ↔ Any (IsNamedBy p) groups

-- the first end of a record that names no node, arc, face or object of these, and that it counts nothing
abbrev pub IsLostEndOf : List (List ZoneData) → List ZoneData → ZoneData → Option ℕ → Type 0
IsLostEndOf groups group z count = IsFirstLostEnd groups group z × (count ≡ None)
