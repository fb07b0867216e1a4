-- The records that are written of a plan.
use Rattle.std.specs.Prelude.{◌≡◌, ℕ, ◌+◌, false, List, [], ◌∷◌, map, unwrap_or, codes, Option, IfSome}
use Rattle.std.specs.List.{AllByRecursion}
use Rattle.edi_line.specs.Printing.{IsOneLine}
use Rattle.edi_record.specs.CanonicalZones.{value_text}
use Rattle.edi_record.specs.RecordLayout.{Letters, IsName, IsLineName, IsRecord, IsLineRecord, FollowsRules}
use Rattle.edi_record.specs.declared.record.Record.{Record}
use Rattle.edi_record.specs.declared.record.Attribute.{Attribute}
use Rattle.edi_record.specs.LinkEnds.{EndData}
use Rattle.edi_record.specs.declared.name.Name.{Name}
use Rattle.edi_schema.specs.Classes.{Classes, letter_named, is_number_named, role_of, partner_of}
use Rattle.edi_schema.specs.Roles.{is_plain}
use Rattle.edi_plan.specs.Plans.{PlanData}
use Rattle.edi_plan.specs.declared.record.PlanRecord.{PlanRecord}
use Rattle.edi_plan.specs.declared.record.PlanAttribute.{PlanAttribute}
use Rattle.edi_plan.specs.declared.record.PlanEnd.{PlanEnd}
use Rattle.edi_write.specs.Layout.{class_name_of, name_in, number_in, identifier}

-- what the schema says of each name: the letter of its values, and whether they are numbers
abbrev pub letters : Classes → Letters
letters s =
    record { letter = λ n. unwrap_or (letter_named s n) 65; is_number = λ n. unwrap_or (is_number_named s n) false }

-- an attribute as it is written: the name of its class, and its value as a text
abbrev pub written_attribute : Classes → PlanAttribute → Attribute
written_attribute s a = record { atp = class_name_of s a.atp; tex = a.tex; atv = value_text a.value }

-- an end as it is written: the name of the record that it ends at, and its SNS
abbrev pub written_end : Classes → PlanData → PlanEnd → EndData
written_end s p e = record { lot = codes "CANON"; subset = codes "S"; target = name_in s p e.target; sns = e.sns }

-- a record of the plan as it is written, with this number
abbrev pub written_record : Classes → PlanData → ℕ → PlanRecord → Record
written_record s p number r = record {
  kind = r.kind;
  rid = identifier r.kind number;
  scp = class_name_of s r.class;
  points = r.points;
  ends = map (written_end s p) r.ends;
  attributes = map (written_attribute s) r.attributes;
  extras = r.extras;
}

-- the records as they are written, from a place on
abbrev pub written_from : Classes → PlanData → ℕ → List PlanRecord → List Record
written_from s p place [] = []
written_from s p place (r ∷ rs) = written_record s p (number_in s p place) r ∷ written_from s p (place + 1) rs

-- the records that are written of a plan
abbrev pub written_records : Classes → PlanData → List Record
written_records s p = written_from s p 0 p.list

-- each attribute's class is of type ATT
abbrev pub HasAttributeClasses : Classes → PlanData → Type 0
HasAttributeClasses s p =
    AllByRecursion (λ r. AllByRecursion (λ a. (class_name_of s a.atp).rty ≡ codes "ATT") r.attributes) p.list

-- a name can be printed: no semicolon, and one line
abbrev pub IsPrintableName : Name → Type 0
IsPrintableName name = IsName name × IsLineName name

-- where the name of a class of a kind can be printed, so can that of its partner
abbrev pub HasPrintableKinds : Classes → Type 0
HasPrintableKinds s =
    (class : ℕ) → is_plain (role_of s class) ≡ false → IsPrintableName (class_name_of s class)
    → IsPrintableName (class_name_of s (partner_of s class))

-- what records and their character set need to be printed and read again
pub record CanBePrinted (cse : Option (List ℕ)) (rs : List Record) : Type 0 where
  pub set : IfSome cse IsOneLine
  pub records : AllByRecursion IsRecord rs
  pub lines : AllByRecursion IsLineRecord rs
  pub rules : AllByRecursion FollowsRules rs
