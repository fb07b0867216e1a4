-- Known THF files.
use Rattle.std.specs.Prelude.{ℕ, List, [], ◌∷◌, ◌++◌, None, Some, codes}
use Rattle.edi_record.specs.declared.fault.RecordFault.TheVariants.{Broken}
use Rattle.edi_delivery.specs.DeliveryRefusal.{IsDeliveryRefusal}
use Rattle.edi_delivery.specs.declared.fault.DeliveryFault.TheVariants.{Record}
use Rattle.edi_delivery.specs.declared.lot.Lot.{Lot}

-- a file with a support, and these lines behind it
abbrev pub thf : List ℕ → List ℕ
thf lines = codes "BOMT 01:X\nRTYSA03:GTS\n" ++ (lines ++ codes "EOMT 00:\n")

-- the lines of a lot with this name, and these lines of its VEC files
abbrev pub lot_lines : List ℕ → List ℕ
lot_lines lines = codes "RTYSA03:GTL\nLONSA01:A\nSCNSA01:S\nDINSA01:D\n" ++ lines

-- what a lot with two VEC files and a coordinate system states
abbrev pub known_lot : Lot
known_lot = record {
  name = codes "A";
  scd = codes "S";
  dic = codes "D";
  general = None;
  geo = Some (codes "S");
  quality = None;
  vecs = codes "T2" ∷ codes "T1" ∷ [];
}

-- the file is refused by this rule at this record
abbrev pub IsRefusedBy : List ℕ → ℕ → ℕ → Type 0
IsRefusedBy bytes rule at = IsDeliveryRefusal bytes (Record (Broken rule at))
