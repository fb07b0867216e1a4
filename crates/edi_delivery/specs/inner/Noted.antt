-- The lots that have come.
use Rattle.std.specs.Prelude.{◌≡◌, ℕ, Bool, List, [], ◌∷◌, map, flat_map}
use Rattle.std.specs.List.{list_any}
use Rattle.std.specs.Str.{str_to_ascii_lowercase}
use Rattle.edi_line.specs.Refusal.{Test, test}
use Rattle.edi_delivery.specs.NameParts.{is_same_name}
use Rattle.edi_delivery.specs.Lots.{files_of}
use Rattle.edi_delivery.specs.inner.Steps.{repeats_earlier}
use Rattle.edi_delivery.specs.declared.lot.Lot.{Lot}
use Rattle.edi_delivery.specs.declared.lots.LotsSoFar.{LotsSoFar}

abbrev pub lower_name : Lot → List ℕ
lower_name lot = str_to_ascii_lowercase lot.name

abbrev pub lower_files : List Lot → List (List ℕ)
lower_files lots = map str_to_ascii_lowercase (flat_map files_of lots)

-- the names that are noted are those of the lots, and those of their files
pub record HasNoted (s : LotsSoFar) : Type 0 where
  pub names : s.names.keys ≡ map lower_name s.lots.items
  pub files : s.files.keys ≡ lower_files s.lots.items

-- a lot has the name of one of these
abbrev pub repeats_name : List Lot → Lot → Bool
repeats_name lots lot = list_any (λ (earlier : Lot). is_same_name lot.name earlier.name) lots

-- a lot has a file twice, or one of these lots has it
abbrev pub repeats_file : List Lot → Lot → Bool
repeats_file lots lot = repeats_earlier (lower_files lots) (map str_to_ascii_lowercase (files_of lot))

-- the rules 709 and 710, of a lot behind these
abbrev pub take_tests : List Lot → Lot → List Test
take_tests lots lot = test 709 (repeats_name lots lot) ∷ test 710 (repeats_file lots lot) ∷ []
