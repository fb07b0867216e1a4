-- Known files against the definitions.
use Rattle.std.proofs.Common.{◌≡◌, ℕ, ◌+◌, true, false, get_or, None, Some, List, [], ◌∷◌, ◌++◌, length, refl, sym, subst, inl, inr}
use Rattle.std.proofs.lemmas.Bool.{both_ways}
use Rattle.edi_line.specs.ZoneData.{ZoneData}
use Rattle.edi_line.specs.Feeding.{seen_in}
use Rattle.edi_line.specs.Zones.{groups_of}
use Rattle.edi_line.specs.inner.Refusal.{first_broken}
use Rattle.edi_line.specs.inner.Zones.{readings_of}
use Rattle.edi_line.proofs.KnownFiles.{first_fault, unbroken_as, zones_as}
use Rattle.edi_line.proofs.Rules.{no_cut_of_none}
use Rattle.edi_line.proofs.ZonesFound.{zones_of}
use Rattle.edi_delivery.specs.Lots.{is_support, is_lot, StatesLot, StatesLots}
use Rattle.edi_delivery.specs.DeliveryRules.{BreaksDeliveryRule}
use Rattle.edi_delivery.specs.DeliveryRefusal.{IsDeliveryOf}
use Rattle.edi_delivery.specs.Known.{IsRefusedBy}
use Rattle.edi_delivery.specs.inner.LotTests.{lot_tests}
use Rattle.edi_delivery.specs.inner.Noted.{take_tests}
use Rattle.edi_delivery.specs.inner.Taken.{AreTakenLots, IsLeastHere}
use Rattle.edi_delivery.specs.declared.lot.Lot.{Lot}
use Rattle.edi_delivery.proofs.Read.{support_taken, own_least, take_least, unknown_least, lot_taken, least_there, some_lot, lacks_least}

none_taken : AreTakenLots [] []
none_taken = record { states = tt; sound = λ rule place b. no_cut_of_none b.before b.group b.after b.cut }

-- no line breaks a rule
abbrev pub HasSoundLines : List ℕ → Type 0
HasSoundLines bytes = first_fault (seen_in []) 1 (readings_of bytes) ≡ None

-- the zones of a record, counted from 0
abbrev pub record_of : List ℕ → ℕ → List ZoneData
record_of bytes n = get_or (groups_of (zones_of bytes)) n []

-- a file with a support, which comes first
module _ (bytes : List ℕ) (lines : HasSoundLines bytes) (s : List ZoneData) (support : is_support s ≡ true) where
  after_support : AreTakenLots (s ∷ []) []
  after_support = support_taken [] s [] support none_taken

  refused : (before : List (List ZoneData)) (lots : List Lot) (g : List ZoneData) (after : List (List ZoneData)) (rule : ℕ) → groups_of (zones_of bytes) ≡ before ++ g ∷ after → AreTakenLots before lots
      → IsLeastHere before g rule → IsRefusedBy bytes rule (length before + 1)
  refused before lots g after rule groups taken least =
      (unbroken_as bytes lines, (zones_of bytes, zones_as bytes (zones_of bytes) lines refl, least_there (groups_of (zones_of bytes)) before after g lots rule (length before + 1) groups refl taken least))

  pub known_unknown : (g : List ZoneData) (after : List (List ZoneData)) → groups_of (zones_of bytes) ≡ s ∷ g ∷ after → is_support g ≡ false → is_lot g ≡ false → IsRefusedBy bytes 701 2
  known_unknown g after groups no_support no_lot = refused (s ∷ []) [] g after 701 groups after_support (unknown_least (s ∷ []) g [] after_support no_support no_lot)

  -- the second record, a lot, breaks a rule by itself
  pub known_own : (g : List ZoneData) (rule : ℕ) → groups_of (zones_of bytes) ≡ s ∷ g ∷ [] → is_lot g ≡ true → first_broken (lot_tests g) ≡ Some rule → IsRefusedBy bytes rule 2
  known_own g rule groups is broken = refused (s ∷ []) [] g [] rule groups after_support (own_least (s ∷ []) g [] after_support is rule broken)

  -- the second record, a lot, names a file twice
  pub known_twice : (g : List ZoneData) (lot : Lot) → groups_of (zones_of bytes) ≡ s ∷ g ∷ [] → is_lot g ≡ true → StatesLot g lot → first_broken (lot_tests g) ≡ None
      → first_broken (take_tests [] lot) ≡ Some 710 → IsRefusedBy bytes 710 2
  known_twice g lot groups is states own broken = refused (s ∷ []) [] g [] 710 groups after_support (take_least (s ∷ []) g [] after_support is lot states own 710 broken)

  module _ (g : List ZoneData) (lot : Lot) (is : is_lot g ≡ true) (states : StatesLot g lot) (own : first_broken (lot_tests g) ≡ None) (apart : first_broken (take_tests [] lot) ≡ None) where
    after_lot : AreTakenLots (s ∷ g ∷ []) (lot ∷ [])
    after_lot = lot_taken (s ∷ []) g [] after_support is lot states own (lot ∷ []) apart refl

    -- it states the one lot
    pub known_delivery : groups_of (zones_of bytes) ≡ s ∷ g ∷ [] → IsDeliveryOf bytes (lot ∷ [])
    known_delivery groups = record {
      lines = unbroken_as bytes lines;
      zones = zones_of bytes;
      of_file = zones_as bytes (zones_of bytes) lines refl;
      rules = λ rule place b. sound rule place (subst (λ gs. BreaksDeliveryRule gs rule place) groups b);
      states = subst (λ gs. StatesLots gs (lot ∷ [])) (sym groups) after_lot.states;
    }
      where
        sound : (rule place : ℕ) → ¬ (BreaksDeliveryRule (s ∷ g ∷ []) rule place)
        sound rule place (inl b) = after_lot.sound rule place b
        sound rule place (inr b) = both_ways _ b.lacks (some_lot (s ∷ g ∷ []) lot [] after_lot.states)

    -- the third record, a lot, has a name or a file of the second
    pub known_again : (h : List ZoneData) (other : Lot) (rule : ℕ) → groups_of (zones_of bytes) ≡ s ∷ g ∷ h ∷ [] → is_lot h ≡ true → StatesLot h other → first_broken (lot_tests h) ≡ None
        → first_broken (take_tests (lot ∷ []) other) ≡ Some rule → IsRefusedBy bytes rule 3
    known_again h other rule groups second said sound broken = refused (s ∷ g ∷ []) (lot ∷ []) h [] rule groups after_lot (take_least (s ∷ g ∷ []) h (lot ∷ []) after_lot second other said sound rule broken)

  -- there is no lot
  pub known_none : groups_of (zones_of bytes) ≡ s ∷ [] → IsRefusedBy bytes 711 2
  known_none groups =
      (unbroken_as bytes lines, (zones_of bytes, zones_as bytes (zones_of bytes) lines refl, lacks_least (groups_of (zones_of bytes)) (s ∷ []) [] 2 groups after_support refl refl))
