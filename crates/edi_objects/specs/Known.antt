-- Known texts of what differs, object by object.
use Rattle.std.specs.Prelude.{◌++◌, ℕ, false, true, pos, List, [], ◌∷◌, Some, None, codes}
use Rattle.edi_record.specs.declared.record.Kind.TheVariants.{Fea, Pno}
use Rattle.edi_record.specs.declared.record.Value.TheVariants.{Bytes}
use Rattle.edi_schema.specs.Classes.{Classes}
use Rattle.edi_schema.specs.declared.role.Role.TheVariants.{Plain}
use Rattle.edi_plan.specs.declared.record.PlanRecord.{PlanRecord}
use Rattle.edi_report.specs.Reports.{Report, no_parts}
use Rattle.edi_report.specs.declared.sheet.LocatedSheet.{LocatedSheet}

-- a class of attributes and one of objects
abbrev pub two_classes : Classes
two_classes =
    (record { rty = codes "ATT"; rid = codes "IDU_id" }, record { role = Plain; letter = 65; is_number = false })
    ∷ (
      record { rty = codes "OBJ"; rid = codes "PARCELLE_id" },
      record { role = Plain; letter = 65; is_number = false },
    ) ∷ []

-- a parcel with this number
abbrev pub parcel : List ℕ → PlanRecord
parcel number = record {
  kind = Fea;
  class = 1;
  role = Plain;
  points = [];
  attributes = record { atp = 0; tex = None; value = Bytes number } ∷ [];
  extras = [];
  ends = [];
}

-- a node at this x, in millionths
abbrev pub node_over : ℕ → PlanRecord
node_over x = record {
  kind = Pno;
  class = 1;
  role = Plain;
  points = record { x = pos x; y = pos 0; z = None } ∷ [];
  attributes = [];
  extras = [];
  ends = [];
}

-- a sheet of a node and two parcels, with these lines
abbrev pub sheet_of : ℕ → List ℕ → List ℕ → LocatedSheet
sheet_of x one other = record {
  accepted = record { cse = None; list = node_over x ∷ parcel one ∷ parcel other ∷ [] };
  sites = record { line = 2; rid = codes "N1" }
      ∷ record { line = 6; rid = codes "O1" }
      ∷ record { line = 9; rid = codes "O2" } ∷ [];
}

-- The node moved, the first parcel got another number, and the second is gone for one that is new.
abbrev pub known_account : Report
known_account = record {
  first = sheet_of 10000000 (codes "A 12") (codes "A 13");
  second = sheet_of 10000003 (codes "A 14") (codes "A 15");
  unchanged = None ∷ None ∷ None ∷ [];
  became = Some 0 ∷ Some 1 ∷ None ∷ [];
  parts = record no_parts { points = true } ∷ record no_parts { attributes = true } ∷ no_parts ∷ [];
}

-- its text
abbrev pub known_account_text : List ℕ
known_account_text =
    codes "~ PARCELLE_id IDU_id A 12 (lines 6 and 6):\n"
    ++ codes "    IDU_id: A 12 -> A 14\n"
    ++ codes "- PARCELLE_id IDU_id A 13 (line 9)\n"
    ++ codes "+ PARCELLE_id IDU_id A 15 (line 9)\n"
    ++ codes "~ node 10;0 (lines 2 and 2): points (to 10.000003;0, by 0.000003)\n"
    ++ codes "PARCELLE_id: 1 only in A, 1 only in B, 1 changed\n"
    ++ codes "records: 1 only in A, 1 only in B, 2 changed\n"
