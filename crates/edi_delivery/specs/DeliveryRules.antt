-- The rules of a delivery.
use Rattle.std.specs.Prelude.{◌≡◌, ◌⊎◌, ℕ, ◌+◌, ◌≤◌, true, false, List, [], ◌∷◌, ◌++◌, length, codes, Any}
use Rattle.std.specs.List.{list_any, IsDistinct}
use Rattle.edi_line.specs.ZoneData.{ZoneData}
use Rattle.edi_record.specs.Records.{values}
use Rattle.edi_record.specs.RecordRules.{Counts}
use Rattle.edi_delivery.specs.NameParts.{is_name_part, is_same_name}
use Rattle.edi_delivery.specs.Lots.{is_support, is_lot, StatesLot, files_of}
use Rattle.edi_delivery.specs.declared.lot.Lot.{Lot}

-- the codes of the zones that name a file
abbrev pub file_codes : List (List ℕ)
file_codes = codes "SCN" ∷ codes "DIN" ∷ codes "GNN" ∷ codes "GON" ∷ codes "QAN" ∷ codes "GDN" ∷ []

-- the other lot has a file with the name of one of the first
abbrev pub ShareFile : Lot → Lot → Type 0
ShareFile one other = Any (λ file. Any (λ again. is_same_name again file ≡ true) (files_of other)) (files_of one)

-- over a record and those before it
module _ (before : List (List ZoneData)) (group : List ZoneData) where
  -- not exactly one zone with the code
  abbrev pub LacksOne : List ℕ → Type 0
  LacksOne code = (text : List ℕ) → ¬ (values code group ≡ text ∷ [])

  -- a zone with the code whose value isn't a name
  abbrev pub HasUnsafe : List ℕ → Type 0
  HasUnsafe code = Any (λ text. is_name_part text ≡ false) (values code group)

  -- two zones with the code, or more
  abbrev pub HasSeveral : List ℕ → Type 0
  HasSeveral code = 2 ≤ length (values code group)

  -- an earlier lot of which this holds
  abbrev pub HasEarlier : (Lot → Type 0) → Type 0
  HasEarlier P = Any (λ earlier. (lot : Lot) × (is_lot earlier ≡ true) × StatesLot earlier lot × P lot) before

  -- the rules of a lot
  pub data BreaksLotRule (rule : ℕ) : Type 0 where
    -- 702: not exactly one LON
    lacks_name : rule ≡ 702 → LacksOne (codes "LON") → BreaksLotRule rule
    -- 703: a LON that isn't a name
    unsafe_name : rule ≡ 703 → HasUnsafe (codes "LON") → BreaksLotRule rule
    -- 704: not exactly one SCN
    lacks_scd : rule ≡ 704 → LacksOne (codes "SCN") → BreaksLotRule rule
    -- 705: not exactly one DIN
    lacks_dic : rule ≡ 705 → LacksOne (codes "DIN") → BreaksLotRule rule
    -- 706: no GDN; a GDC that is repeated, not digits, or not the count of GDN
    lacks_vecs : rule ≡ 706 → values (codes "GDN") group ≡ [] → BreaksLotRule rule
    wrong_count : rule ≡ 706 → ¬ (Counts (values (codes "GDC") group) (length (values (codes "GDN") group)))
        → BreaksLotRule rule
    -- 707: several GNN, GON or QAN
    several : rule ≡ 707 → HasSeveral (codes "GNN") ⊎ (HasSeveral (codes "GON") ⊎ HasSeveral (codes "QAN"))
        → BreaksLotRule rule
    -- 708: the own name of a file isn't a name
    unsafe_file : rule ≡ 708 → Any HasUnsafe file_codes → BreaksLotRule rule
    -- 709: the name of an earlier lot
    same_lot : (lot : Lot) → rule ≡ 709 → StatesLot group lot
        → HasEarlier (λ earlier. is_same_name lot.name earlier.name ≡ true) → BreaksLotRule rule
    -- 710: the lot names a file twice, or one that an earlier lot names
    same_files : (lot : Lot) → rule ≡ 710 → StatesLot group lot
        → ¬ (IsDistinct is_same_name (files_of lot)) → BreaksLotRule rule
    shared_file : (lot : Lot) → rule ≡ 710 → StatesLot group lot
        → HasEarlier (λ earlier. ShareFile earlier lot) → BreaksLotRule rule

  -- 701: a record that is neither the support nor a lot; or a lot breaks a rule
  pub data BreaksBehind (rule : ℕ) : Type 0 where
    unknown : rule ≡ 701 → is_support group ≡ false → is_lot group ≡ false → BreaksBehind rule
    of_lot : is_lot group ≡ true → BreaksLotRule rule → BreaksBehind rule

-- the record at this place breaks the rule
pub record BreaksRuleAt (groups : List (List ZoneData)) (rule place : ℕ) : Type 0 where
  pub before : List (List ZoneData)
  pub group : List ZoneData
  pub after : List (List ZoneData)
  pub cut : groups ≡ before ++ group ∷ after
  pub place_is : place ≡ length before + 1
  pub breaks : BreaksBehind before group rule

-- 711: there is no lot, which is missed one past the last record
pub record LacksLots (groups : List (List ZoneData)) (rule place : ℕ) : Type 0 where
  pub rule_is : rule ≡ 711
  pub place_is : place ≡ length groups + 1
  pub lacks : list_any is_lot groups ≡ false

-- the records of a file break a rule of deliveries
abbrev pub BreaksDeliveryRule : List (List ZoneData) → ℕ → ℕ → Type 0
BreaksDeliveryRule groups rule place = BreaksRuleAt groups rule place ⊎ LacksLots groups rule place
