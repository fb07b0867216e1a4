-- A known text of what differs.
use Rattle.std.specs.Prelude.{◌≡◌, ◌++◌, ℕ, false, true, List, [], ◌∷◌, Some, None, codes}
use Rattle.std.proofs.Common.{Bor}
use Rattle.edi_record.specs.declared.record.Value.TheVariants.{Bytes}
use Rattle.edi_schema.specs.Classes.{Classes}
use Rattle.edi_schema.specs.declared.role.Role.TheVariants.{Plain}
use Rattle.edi_plan.specs.declared.record.PlanRecord.{PlanRecord}
use Rattle.edi_report.specs.Reports.{Report, no_parts}
use Rattle.edi_report.specs.declared.sheet.LocatedSheet.{LocatedSheet}
use Rattle.edi_objects.specs.Known.{parcel, two_classes}
use Rattle.edi_diff.specs.Forms.{text_of_form}
use Rattle.edi_diff.specs.declared.form.TextForm.TheVariants.{ObjectsNamedBy}

-- the classes of parcels and of their numbers, and one of attributes that refer to a register
abbrev pub three_classes : Classes
three_classes = two_classes ++ (
  record { rty = codes "ATT"; rid = codes "REF_id" },
  record { role = Plain; letter = 65; is_number = false },
) ∷ []

-- a parcel with this number, which the register has as 7
abbrev pub registered_parcel : List ℕ → PlanRecord
registered_parcel number = record (parcel number) {
  attributes = record { atp = 0; tex = None; value = Bytes number }
      ∷ record { atp = 2; tex = None; value = Bytes (codes "7") } ∷ [];
}

-- a sheet of it alone
abbrev pub registered_sheet : List ℕ → LocatedSheet
registered_sheet number = record {
  accepted = record { cse = None; list = registered_parcel number ∷ [] };
  sites = record { line = 2; rid = codes "O1" } ∷ [];
}

-- The parcel got another number.
abbrev pub registered_account : Report
registered_account = record {
  first = registered_sheet (codes "A 12");
  second = registered_sheet (codes "A 14");
  unchanged = None ∷ [];
  became = Some 0 ∷ [];
  parts = record no_parts { attributes = true } ∷ [];
}

-- its text, where the attribute that refers to the register names objects
abbrev pub registered_account_text : List ℕ
registered_account_text =
    codes "~ PARCELLE_id REF_id 7 (lines 2 and 2):\n"
    ++ codes "    IDU_id: A 12 -> A 14\n"
    ++ codes "PARCELLE_id: 0 only in A, 0 only in B, 1 changed\n"
    ++ codes "records: 0 only in A, 0 only in B, 1 changed\n"

-- the parcel is called by that attribute, which is given behind one that no class is, and not by its number
abbrev pub CallsObjectsAsGiven : Type 0
CallsObjectsAsGiven = (given : Bor (List ℕ)) → given.now ≡ codes "NOM_id,REF_id"
    → text_of_form three_classes (ObjectsNamedBy given) registered_account ≡ registered_account_text
