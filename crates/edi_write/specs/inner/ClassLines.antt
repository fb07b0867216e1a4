-- The zone of a class, printed once for the records of that class that follow one another.
use Rattle.std.specs.Prelude.{◌≡◌, ℕ, Some, codes}
use Rattle.edi_line.specs.Printing.{printed_zone, zone_headed}
use Rattle.edi_record.specs.CanonicalZones.{class_text}
use Rattle.edi_schema.specs.Classes.{Classes}
use Rattle.edi_write.specs.Layout.{class_name_of}
use Rattle.edi_write.specs.declared.class_line.ClassLine.{ClassLine}

-- it is that of its class, if it has one
abbrev pub IsLineOfItsClass : Classes → ClassLine → Type 0
IsLineOfItsClass s l =
    (class : ℕ) → l.class ≡ Some class
    → l.page.file.items ≡ printed_zone (zone_headed (codes "SCPCP") (class_text (class_name_of s class)))
