-- The paths of a lot's files, as the program owns them, and what is found of THF files.
use Rattle.std.specs.Prelude.{◌≡◌, ℕ, List, [], ◌∷◌, Some, find, flat_map, map, option_map, option_to_list, string_bytes}
use Rattle.std.specs.List.{list_any}
use Rattle.std.specs.Str.{bytes_eq, str_to_ascii_lowercase}
use Rattle.indexmap.specs.IndexMap.{IndexMap, get}
use Rattle.indexmap.specs.IndexSet.{IndexSet}
use Rattle.std.proofs.Common.{Bor, Result, Ok, Err}
use Rattle.edi_delivery.specs.NameParts.{file_name}
use Rattle.edi_delivery.specs.declared.file_name.Extension.TheVariants.{Scd, Dic, Vec}
use Rattle.edi_delivery.specs.declared.lot.Lot.{Lot}
use Rattle.edi_words.specs.declared.words.ManyFiles.{ManyFiles}
use Rattle.edi_delivery.specs.DeliveryRefusal.{IsDeliveryRefusal}
use Rattle.edi_answers.specs.Effects.{Inputs}
use Rattle.edi_answers.specs.WholeInputs.{WholeInputFault, OfWholeInput}
use Rattle.edi_deliveries.specs.Deliveries.{LacksOneThf, found_path, thf_names}
use Rattle.edi_deliveries.specs.declared.thf.NoDelivery.{NoDelivery}
use Rattle.edi_deliveries.specs.declared.thf.NoDelivery.TheVariants.{Unread, Refused}
use Rattle.edi_deliveries.specs.declared.lot_files.LotPaths.{LotPaths}

-- a table finds by a name in lower case the first of these names that is equal to it in lower case
abbrev pub FindsFirst : {S : Type 0} → List (List ℕ) → IndexMap (List ℕ) (Bor (List ℕ)) S → Type 0
FindsFirst names table = (key : List ℕ)
    → option_map (λ (name : Bor (List ℕ)). name.now) (get bytes_eq table key)
    ≡ find (λ name. bytes_eq key (str_to_ascii_lowercase name)) names

-- a table has just these names
abbrev pub HasJustNames : {S : Type 0} → List (List ℕ) → IndexSet (Bor (List ℕ)) S → Type 0
HasJustNames names table = (name : List ℕ)
    → list_any (bytes_eq name) (map (λ (other : Bor (List ℕ)). other.now) table.keys) ≡ list_any (bytes_eq name) names

-- the paths of those of its VEC files that are there
abbrev pub vec_paths : List ℕ → List (List ℕ) → Lot → List (List ℕ)
vec_paths before names lot =
    flat_map (λ own. option_to_list (found_path before names (file_name lot.name Vec own))) lot.vecs

-- the paths of the classes and the dictionary, and those
pub record AreLotPaths (before : List ℕ) (names : List (List ℕ)) (lot : Lot) (paths : LotPaths) : Type 0 where
  pub scd : found_path before names (file_name lot.name Scd lot.scd) ≡ Some (string_bytes paths.scd)
  pub dic : found_path before names (file_name lot.name Dic lot.dic) ≡ Some (string_bytes paths.dic)
  pub vecs : map string_bytes paths.vecs.items ≡ vec_paths before names lot

-- files by these paths
pub record HavePaths (paths : LotPaths) (files : ManyFiles) : Type 0 where
  pub scd : files.scd.now ≡ string_bytes paths.scd
  pub dic : files.dic.now ≡ string_bytes paths.dic
  pub sheets : map (λ p. p.now) files.sheets.items ≡ map string_bytes paths.vecs.items

-- why a THF file states no lots
abbrev pub MatchThf : Inputs → List ℕ → NoDelivery → Type 0
MatchThf inputs thf (Unread e) = WholeInputFault inputs thf e
MatchThf inputs thf (Refused f) = OfWholeInput inputs thf (λ b. IsDeliveryRefusal b f)

-- the only THF file among names, or what is wrong with them
abbrev pub MatchChosen : List (List ℕ) → Result (Bor (List ℕ)) (Bor (List ℕ)) → Type 0
MatchChosen names (Ok name) = thf_names names ≡ name.now ∷ []
MatchChosen names (Err words) = LacksOneThf names words.now
