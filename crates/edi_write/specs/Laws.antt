-- What is written can be read again.
use Rattle.std.specs.Prelude.{◌≡◌, ℕ, Bool, List, map, Some}
use Rattle.edi_line.specs.Refusal.{IsUnbroken}
use Rattle.edi_line.specs.LineRules.{BreaksLineRule, IsZonesOf}
use Rattle.edi_line.specs.ZoneData.{ZoneData}
use Rattle.edi_line.specs.Spelling.{Reading, AreReadings}
use Rattle.edi_line.specs.Zones.{IsZonesIn}
use Rattle.edi_record.specs.RecordRules.{BreaksRecordRule}
use Rattle.edi_record.specs.RecordLayout.{settled_record, HasPrintableLetters, IsRecord, IsLineRecord, FollowsRules}
use Rattle.edi_record.specs.RecordLayout as records
use Rattle.edi_record.specs.Records.{StatesSheet, SheetData}
use Rattle.edi_record.specs.Readable.{IsPrintableSheet}
use Rattle.edi_record.specs.declared.record.Record.{Record}
use Rattle.edi_schema.specs.Classes.{Classes, IsSchema, IsPaired}
use Rattle.edi_plan.specs.Agreeing.{Agrees}
use Rattle.edi_plan.specs.Joined.{IsJoined}
use Rattle.edi_plan.specs.PlanOf.{IsPlanOf, StatesPlanRecord, place_named}
use Rattle.edi_plan.specs.Plans.{PlanData, IsPlace, record_at}
use Rattle.edi_plan.specs.ReferenceRules.{BreaksReferenceRule}
use Rattle.edi_plan.specs.Whole.{IsWholePlan}
use Rattle.edi_rank.specs.Arranged.{arranged}
use Rattle.edi_rank.specs.Labelling.{Labelling, AreLabels}
use Rattle.edi_rank.specs.Same.{Carries, Same}
use Rattle.edi_write.specs.Layout.{layout, name_in, number_in}
use Rattle.edi_write.specs.Written.{letters, written_record, written_records, HasAttributeClasses, HasPrintableKinds, CanBePrinted}

-- The layout of a plan is that of the records that are written of it.
abbrev pub WrittenLayout : Type 0
WrittenLayout =
    (s : Classes) (p : PlanData) → IsSchema s → IsWholePlan p → Agrees s p
    → layout s p ≡ records.records_layout (letters s) p.cse (written_records s p)

-- The name that is written of a record names it among the records that are written.
abbrev pub WrittenIsNamed : Type 0
WrittenIsNamed =
    (s : Classes) (p : PlanData) → IsWholePlan p → (k : ℕ) → IsPlace p k
    → place_named (written_records s p) (name_in s p k) ≡ Some k

-- The plan of a sheet with the records that are written of a plan, as they are read, is that plan.
abbrev pub WrittenIsPlanOf : Type 0
WrittenIsPlanOf =
    (s : Classes) (p : PlanData) (sheet : SheetData) → IsSchema s → IsWholePlan p → Agrees s p
    → sheet.cse ≡ p.cse → sheet.list ≡ map (settled_record (letters s)) (written_records s p) → IsPlanOf s sheet p

-- The records that are written of a plan, as they are read, break no rule of references, where its links are joins and
-- each attribute's class is of type ATT.
abbrev pub WrittenPreservesReferences : Type 0
WrittenPreservesReferences =
    (s : Classes) (p : PlanData) → IsSchema s → IsWholePlan p → Agrees s p → IsJoined p → HasAttributeClasses s p
    → IsUnbroken (BreaksReferenceRule s (map (settled_record (letters s)) (written_records s p)))

-- Where a record that was read can be printed, so can what is written of it on a plan that a renaming carries it onto,
-- if the classes of the four kinds can.
abbrev pub WrittenRecordIsPrintable : Type 0
WrittenRecordIsPrintable =
    (s : Classes) (list : List Record) (r : Record) (p q : PlanData) (to : ℕ → ℕ) (turned : ℕ → Bool) (k : ℕ)
    → HasPrintableKinds s → IsRecord r → IsLineRecord r → FollowsRules r
    → StatesPlanRecord s list r (record_at p k) → Carries s to turned p q → IsWholePlan q → IsPlace p k
    → IsRecord (written_record s q (number_in s q (to k)) (record_at q (to k)))
    × IsLineRecord (written_record s q (number_in s q (to k)) (record_at q (to k)))
    × FollowsRules (written_record s q (number_in s q (to k)) (record_at q (to k)))

-- What is written of a plan can be printed, where the plan is the same as that of a sheet which can be printed, and the
-- classes of the four kinds can.
abbrev pub WrittenIsPrintable : Type 0
WrittenIsPrintable =
    (s : Classes) (sheet : SheetData) (p q : PlanData) → HasPrintableKinds s → IsPrintableSheet sheet
    → IsPlanOf s sheet p → Same s p q → IsWholePlan q
    → CanBePrinted q.cse (written_records s q)

-- Each attribute's class is of type ATT, where the plan is the same as the plan of a sheet that breaks no rule of
-- references.
abbrev pub WrittenHasAttributeClasses : Type 0
WrittenHasAttributeClasses =
    (s : Classes) (sheet : SheetData) (p q : PlanData) → IsUnbroken (BreaksReferenceRule s sheet.list)
    → IsPlanOf s sheet p → Same s p q → HasAttributeClasses s q

-- Each sheet that the zones of the layout state has the plan that was laid out, where the records that are written of
-- it can be printed.
abbrev pub LayoutHasPlan : Type 0
LayoutHasPlan =
    (s : Classes) (q : PlanData) (sheet : SheetData) (readings : List Reading) (zones : List ZoneData) → IsSchema s
    → HasPrintableLetters (letters s) → IsWholePlan q → Agrees s q
    → CanBePrinted q.cse (written_records s q) → AreReadings (layout s q) readings → IsZonesIn readings zones
    → StatesSheet zones sheet → IsPlanOf s sheet q

-- Such a sheet breaks no rule of references, where the plan's links are joins and each attribute's class is of type
-- ATT.
abbrev pub LayoutPreservesReferences : Type 0
LayoutPreservesReferences =
    (s : Classes) (q : PlanData) (sheet : SheetData) (readings : List Reading) (zones : List ZoneData) → IsSchema s
    → HasPrintableLetters (letters s) → IsWholePlan q → Agrees s q
    → CanBePrinted q.cse (written_records s q) → IsJoined q → HasAttributeClasses s q
    → AreReadings (layout s q) readings → IsZonesIn readings zones → StatesSheet zones sheet
    → IsUnbroken (BreaksReferenceRule s sheet.list)

-- The layout has zones, and breaks no rule of lines and of records, where the records that are written can be printed.
abbrev pub LayoutIsSound : Type 0
LayoutIsSound =
    (s : Classes) (q : PlanData) → IsSchema s → HasPrintableLetters (letters s) → IsWholePlan q → Agrees s q
    → CanBePrinted q.cse (written_records s q)
    → (zones : List ZoneData) × IsZonesOf (layout s q) zones × IsUnbroken (BreaksLineRule (layout s q))
    × IsUnbroken (BreaksRecordRule zones)

-- The letters of a schema can be printed.
abbrev pub SchemasHavePrintableLetters : Type 0
SchemasHavePrintableLetters = (s : Classes) → IsSchema s → HasPrintableLetters (letters s)

-- The names of the classes of the four kinds can be printed.
abbrev pub SchemasHavePrintableKinds : Type 0
SchemasHavePrintableKinds = (s : Classes) → IsSchema s → HasPrintableKinds s

-- The plan that labels make of a plan keeps what each plan keeps, and its joins.
abbrev pub ArrangedIsPlan : Type 0
ArrangedIsPlan =
    (s : Classes) (p : PlanData) (l : Labelling) → IsPaired s → IsWholePlan p → Agrees s p → IsJoined p → AreLabels s p l
    → IsWholePlan (arranged s l p) × Agrees s (arranged s l p) × IsJoined (arranged s l p)
