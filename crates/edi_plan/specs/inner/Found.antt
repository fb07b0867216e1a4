-- Where the names of records are looked up.
use Rattle.std.specs.Prelude.{List}
use Rattle.edi_record.specs.declared.record.Record.{Record}
use Rattle.edi_plan.specs.declared.name_places.NamePlaces.{NamePlaces}
use Rattle.edi_plan.specs.declared.name_places.NamePlaces.TheVariants.{Hinted, Tabled}
use Rattle.edi_plan.specs.inner.LinkNames.{LinksDiffer}
use Rattle.edi_plan.specs.inner.Names.{AreFirstPlaces, IsFirstRepeatedNameIfAny}
use Rattle.edi_plan.specs.inner.Hints.{HasAll}

-- the name of each record that is no link is found, and a name that two records have is noticed
abbrev pub FindsAll : List Record → NamePlaces → Type 0
FindsAll list (Hinted hints) = LinksDiffer list × HasAll list hints
FindsAll list (Tabled names) = AreFirstPlaces list names × IsFirstRepeatedNameIfAny list names.repeat
