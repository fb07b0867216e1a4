-- A delivery that was opened, as the program owns it.
use Rattle.std.specs.Prelude.{◌≡◌, ℕ, List, Result, Ok, Err, String, map, string_bytes}
use Rattle.std.specs.Path.{path_buf_bytes}
use Rattle.std.proofs.Common.{Bor}
use Rattle.edi_answers.specs.Effects.{Inputs}
use Rattle.edi_deliveries.specs.Deliveries.{IsOpened, LacksOneThf, LeadsToThf, Listings, Opened}
use Rattle.edi_deliveries.specs.declared.opening.OpenDelivery.{OpenDelivery}

-- what it is
abbrev pub opened_of : OpenDelivery → Opened
opened_of d = record {
  thf = string_bytes d.thf;
  lots = d.delivery;
  names = map string_bytes d.names.items;
  before = path_buf_bytes d.before;
}

-- it is that of the THF file of this path
abbrev pub OpensAt : Inputs → Listings → List ℕ → Opened → Type 0
OpensAt inputs listings thf d = (d.thf ≡ thf) × IsOpened inputs listings d

-- the path of the THF file to which a path leads, or what is wrong with the folder that it leads to
abbrev pub MatchThfPath : {Z : Type 0} → Listings → List ℕ → Result (String Z) (Bor (List ℕ)) → Type 0
MatchThfPath listings path (Ok thf) = LeadsToThf listings path (string_bytes thf)
MatchThfPath listings path (Err words) = (names : List (List ℕ)) × listings.lists path names
    × LacksOneThf names words.now
