-- Lines that are found, behind others.
use Rattle.std.specs.Prelude.{◌≡◌, ◌++◌, ℕ, List, Option, Some, None, MatchOption, string_bytes}
use Rattle.edi_manifest.specs.declared.line.ManifestLine.{ManifestLine}
use Rattle.edi_answers.specs.Effects.{Stream}
use Rattle.edi_deliveries.specs.Deliveries.{found_path}
use Rattle.edi_deliveries.specs.Found.{Finding, PlacedLot, placed}
use Rattle.edi_deliveries.specs.declared.parts.LotFile.{LotFile}
use Rattle.edi_deliveries.specs.declared.parts.LotFinder.{LotFinder}

-- what is added to a list of lines, of which this holds
abbrev pub AddsLines : List ManifestLine → List ManifestLine → (List ManifestLine → Type 0) → Type 0
AddsLines old new P = (found : List ManifestLine) × (new ≡ old ++ found) × P found

-- a finding is added to a list of lines, which the errors were told, and this is the status
abbrev pub AddsFound : Finding → List ManifestLine → List ManifestLine → Stream → ℕ → Type 0
AddsFound Found old new err s = AddsLines old new (λ found. Found found err s)

-- a lot, as the program borrows it
abbrev pub placed_of : {F : Type 0} → LotFinder F → PlacedLot
placed_of p = placed p.before.now p.names.now p.lot.now

-- a file of this name is there, at its path
pub record IsPartAt (at : PlacedLot) (name : List ℕ) (part : LotFile) : Type 0 where
  pub name_is : part.name ≡ name
  pub path : found_path at.before at.names name ≡ Some (string_bytes part.path)

-- or none is there
abbrev pub IsPartThere : PlacedLot → List ℕ → Option LotFile → Type 0
IsPartThere at name part = MatchOption part (found_path at.before at.names name ≡ None) (IsPartAt at name)
