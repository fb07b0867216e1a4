-- The headline.
--
-- For two sheets accepted under one schema, the canonical bytes are equal exactly if some renaming of identifiers, with
-- arc reversals that exchange end nodes and sides, carries one plan onto the other; each result is accepted, is the
-- same plan as its input and is its own canonical form; any other sheet is refused with the first broken rule and its
-- place.
--
-- `canon` says it of one sheet b and its result c by `IsFormOf`, and of a sheet that is refused by `IsRefusal`. What
-- the headline says of two sheets follows, since `StateSame` is an equivalence: `EqualExactlyIfSame` (specs/Laws) says
-- it.
use Rattle.std.specs.Prelude.{ℕ, List}
use Rattle.edi_schema.specs.Classes.{Classes}
use Rattle.edi_compare.specs.Canonical.{IsCanonical, IsOnlyForm}
use Rattle.edi_compare.specs.PlanOfFile.{StateSame}
use Rattle.edi_compare.specs.Rules.{IsAccepted}

-- The canonical file of a sheet: the sheet is accepted, and the file is canonical, states the plan of the sheet, and is
-- the only one.
pub record IsFormOf (s : Classes) (b c : List ℕ) : Type 0 where
  pub accepted : IsAccepted s b
  pub canonical : IsCanonical s c
  pub same : StateSame s b c
  pub only : IsOnlyForm s b c
