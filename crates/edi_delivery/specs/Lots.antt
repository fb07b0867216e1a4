-- The lots of a delivery.
use Rattle.std.specs.Prelude.{◌≡◌, ℕ, Bool, List, [], ◌∷◌, ◌++◌, map, filter, option_to_list, unwrap_or, codes}
use Rattle.std.specs.List.{AllZip}
use Rattle.std.specs.Str.{bytes_eq}
use Rattle.edi_line.specs.ZoneData.{ZoneData, first}
use Rattle.edi_record.specs.Records.{values}
use Rattle.edi_delivery.specs.NameParts.{file_name}
use Rattle.edi_delivery.specs.declared.file_name.Extension.TheVariants.{Scd, Dic, Gen, Geo, Qal, Vec}
use Rattle.edi_delivery.specs.declared.lot.Lot.{Lot}

-- the record has this type
abbrev pub has_type : List ℕ → List ZoneData → Bool
has_type code group = bytes_eq (unwrap_or (first (values (codes "RTY") group)) []) code

-- the record of the support
abbrev pub is_support : List ZoneData → Bool
is_support group = has_type (codes "GTS") group

-- a record of a lot
abbrev pub is_lot : List ZoneData → Bool
is_lot group = has_type (codes "GTL") group

-- a record states a lot: its name, and the own names of its files
pub record StatesLot (group : List ZoneData) (lot : Lot) : Type 0 where
  pub name : values (codes "LON") group ≡ lot.name ∷ []
  pub scd : values (codes "SCN") group ≡ lot.scd ∷ []
  pub dic : values (codes "DIN") group ≡ lot.dic ∷ []
  pub general : values (codes "GNN") group ≡ option_to_list lot.general
  pub geo : values (codes "GON") group ≡ option_to_list lot.geo
  pub quality : values (codes "QAN") group ≡ option_to_list lot.quality
  pub vecs : values (codes "GDN") group ≡ lot.vecs

-- the records state these lots, in their order
abbrev pub StatesLots : List (List ZoneData) → List Lot → Type 0
StatesLots groups lots = AllZip StatesLot (filter is_lot groups) lots

-- the names of all files of a lot: SCD, DIC, GEN, GEO, QAL, and the VEC files in their order
abbrev pub files_of : Lot → List (List ℕ)
files_of lot =
    file_name lot.name Scd lot.scd
    ∷ (file_name lot.name Dic lot.dic
    ∷ (map (file_name lot.name Gen) (option_to_list lot.general)
    ++ (map (file_name lot.name Geo) (option_to_list lot.geo)
    ++ (map (file_name lot.name Qal) (option_to_list lot.quality)
    ++ map (file_name lot.name Vec) lot.vecs))))
