-- Files whose positions all have two coordinates.
use Rattle.std.proofs.Common.{◌≡◌, ◌∙◌, sym, ap, subst, ℕ, zero, suc, ◌+◌, ℤ, List, [], ◌∷◌, ◌++◌, append_assoc, length, Option, Some, None, Bool, true, false, Any, codes, cond, refl, arith, inl, inr}
use Rattle.std.specs.List.{AllByRecursion, AllZip}
use Rattle.edi_line.specs.ZoneData.{ZoneData, first}
use Rattle.edi_line.specs.LineRules.{IsZonesOf}
use Rattle.edi_line.specs.Refusal.{IsUnbroken}
use Rattle.edi_line.specs.Zones.{groups_of}
use Rattle.edi_record.specs.RecordRules.{IsOfKind}
use Rattle.edi_record.specs.Records.{States, has_points, values, SheetData}
use Rattle.edi_record.specs.Texts.{IsPosition}
use Rattle.edi_record.specs.declared.record.Point.{Point}
use Rattle.edi_record.specs.declared.record.Record.{Record}
use Rattle.edi_record.proofs.TextParts.{place_one}
use Rattle.edi_schema.specs.Classes.{Classes}
use Rattle.edi_profiles.specs.Laws.{IsFlatFile, IsFlatGroup}
use Rattle.edi_profiles.specs.Profiles.{BreaksRecords, HasPositions, IsFlatPosition, IsSheetBy, LacksPosition, RecordsHoldBy, three_coordinates, two_coordinates}
use Rattle.edi_profiles.proofs.Transfer.{zip_map}

-- ---- from two coordinates to three

pub more_positions : (group : List ZoneData) (r : Record) → HasPositions two_coordinates group r → HasPositions three_coordinates group r
more_positions group r all = zip_map IsFlatPosition IsPosition (cond (has_points r.kind) (values (codes "COR") group) []) r.points (λ text p flat. flat.0) all

pub more_sheets : (b : List ℕ) (sheet : SheetData) → IsSheetBy two_coordinates b sheet → IsSheetBy three_coordinates b sheet
more_sheets b sheet g = (g.0, g.1, g.2, zip_map (HasPositions two_coordinates) (HasPositions three_coordinates) (groups_of g.0) sheet.list more_positions g.3)

-- a text that is no position is none of two coordinates
pub fewer_lack : (zones : List ZoneData) (rule at : ℕ) → BreaksRecords three_coordinates zones rule at → BreaksRecords two_coordinates zones rule at
fewer_lack zones rule at (inl h) = inl h
fewer_lack zones rule at (inr (e, (before, group, after, cut, place, (kind, is, has, (k, text, within, there, lacks))))) =
    inr (e, (before, group, after, cut, place, (kind, is, has, (k, text, within, there, λ p flat. lacks p flat.0))))

-- ---- from three to two

-- of a position, either it has two coordinates, or none has this text
flat_or_none : (text : List ℕ) (p : Point) → IsPosition text p → (¬ ((q : Point) → ¬ (IsFlatPosition text q))) → p.z ≡ None
flat_or_none text p is some = go p.z refl
  where
    go : (z : Option ℤ) → p.z ≡ z → p.z ≡ None
    go None e = e
    go (Some m) e = absurd (some (λ q flat. clash (sym e ∙ (ap (λ (r : Point). r.z) (place_one text p q is flat.0) ∙ flat.1))))
      where
        clash : Some m ≡ None → ⊥
        clash e = cc

-- the texts are positions, and each has a position of two coordinates: so they are these
flatten : (texts : List (List ℕ)) (points : List Point) → AllZip IsPosition texts points → ((text : List ℕ) → Any (λ t. t ≡ text) texts → ¬ ((q : Point) → ¬ (IsFlatPosition text q))) → AllZip IsFlatPosition texts points
flatten [] [] all some = tt
flatten [] (p ∷ ps) all some = absurd all
flatten (t ∷ ts) [] all some = absurd all
flatten (t ∷ ts) (p ∷ ps) all some = (
  (all.0, flat_or_none t p all.0 (some t (0, t, omega arith, refl, refl))),
  flatten ts ps all.1 (λ text (k, x, within, there, is). some text (suc k, x, omega (arith, within), there, is)),
)

no_points : (points : List Point) → AllZip IsPosition [] points → AllZip IsFlatPosition [] points
no_points [] all = tt
no_points (p ∷ ps) all = absurd all

-- a record with points is of a type that has them
kind_is : (group : List ZoneData) (r : Record) → States group r → IsOfKind group r.kind
kind_is group r states = ap first states.type

module _ (group : List ZoneData) (r : Record) (states : States group r) (none : ¬ (LacksPosition two_coordinates group)) where
  pub flat_record : HasPositions three_coordinates group r → HasPositions two_coordinates group r
  flat_record all = go (has_points r.kind) refl all
    where
      go : (b : Bool) → has_points r.kind ≡ b → AllZip IsPosition (cond b (values (codes "COR") group) []) r.points → AllZip IsFlatPosition (cond (has_points r.kind) (values (codes "COR") group) []) r.points
      go true e all = rw e (flatten (values (codes "COR") group) r.points all
          (λ text (k, x, within, there, is) lacks. none (r.kind, kind_is group r states, e, (k, x, within, there, subst (λ t. (q : Point) → ¬ (IsFlatPosition t q)) (sym is) lacks))))
      go false e all = rw e (no_points r.points all)

-- ---- a file whose records hold by the rules of two coordinates

module _ (zones : List ZoneData) (unbroken : IsUnbroken (BreaksRecords two_coordinates zones)) where
  flat_records : (before groups : List (List ZoneData)) (list : List Record) → groups_of zones ≡ before ++ groups → AllZip States groups list
      → AllZip (HasPositions three_coordinates) groups list → AllZip (HasPositions two_coordinates) groups list
  flat_records before [] [] cut states all = tt
  flat_records before [] (r ∷ rs) cut states all = absurd all
  flat_records before (g ∷ gs) [] cut states all = absurd all
  flat_records before (g ∷ gs) (r ∷ rs) cut states all = (
    flat_record g r states.0 (λ lacks. unbroken 206 (length before + 1) (inr (refl, (before, g, gs, cut, refl, lacks)))) all.0,
    flat_records (before ++ g ∷ []) gs rs (cut ∙ sym (append_assoc before (g ∷ []) gs)) states.1 all.1,
  )

pub fewer_sheets : (s : Classes) (b : List ℕ) → RecordsHoldBy two_coordinates s b → (sheet : SheetData) → IsSheetBy three_coordinates b sheet → IsSheetBy two_coordinates b sheet
fewer_sheets s b held sheet g = (g.0, g.1, g.2, flat_records g.0 (held.1 g.0 g.1) [] (groups_of g.0) sheet.list refl g.2.records g.3)

-- ---- a file whose positions all have two coordinates

-- no text of a list lacks what each has
none_lacks : {X Y : Type 0} (R : X → Y → Type 0) (xs : List X) → AllByRecursion (λ x. (y : Y) × R x y) xs → Any (λ x. (y : Y) → ¬ (R x y)) xs → ⊥
none_lacks R [] all (k, x, within, there, lacks) = omega (arith, within)
none_lacks R (z ∷ zs) all (zero, x, within, there, lacks) = lacks all.0.0 (subst (λ w. R w all.0.0) there all.0.1)
none_lacks R (z ∷ zs) all (suc k, x, within, there, lacks) = none_lacks R zs all.1 (k, x, omega (arith, within), there, lacks)

flat_group_holds : (group : List ZoneData) → IsFlatGroup group → ¬ (LacksPosition two_coordinates group)
flat_group_holds group flat (kind, is, has, any) = none_lacks IsFlatPosition (values (codes "COR") group) (flat kind is has) any

group_in : (P : List ZoneData → Type 0) (before : List (List ZoneData)) (group : List ZoneData) (after : List (List ZoneData)) → AllByRecursion P (before ++ group ∷ after) → P group
group_in P [] group after all = all.0
group_in P (g ∷ before) group after all = group_in P before group after all.1

module _ (b : List ℕ) (flat : IsFlatFile b) where
  flat_at : (zones : List ZoneData) → IsZonesOf b zones → (before : List (List ZoneData)) (group : List ZoneData) (after : List (List ZoneData)) → groups_of zones ≡ before ++ group ∷ after → IsFlatGroup group
  flat_at zones z before group after cut = group_in IsFlatGroup before group after (subst (AllByRecursion IsFlatGroup) cut (flat zones z))

  pub fewer_break : (zones : List ZoneData) → IsZonesOf b zones → (rule at : ℕ) → BreaksRecords two_coordinates zones rule at → BreaksRecords three_coordinates zones rule at
  fewer_break zones z rule at (inl h) = inl h
  fewer_break zones z rule at (inr (e, (before, group, after, cut, place, lacks))) = absurd (flat_group_holds group (flat_at zones z before group after cut) lacks)

  flat_list : (groups : List (List ZoneData)) (list : List Record) → AllByRecursion IsFlatGroup groups → AllZip States groups list
      → AllZip (HasPositions three_coordinates) groups list → AllZip (HasPositions two_coordinates) groups list
  flat_list [] [] flats states all = tt
  flat_list [] (r ∷ rs) flats states all = absurd all
  flat_list (g ∷ gs) [] flats states all = absurd all
  flat_list (g ∷ gs) (r ∷ rs) flats states all =
      (flat_record g r states.0 (flat_group_holds g flats.0) all.0, flat_list gs rs flats.1 states.1 all.1)

  pub flat_sheets : (sheet : SheetData) → IsSheetBy three_coordinates b sheet → IsSheetBy two_coordinates b sheet
  flat_sheets sheet g = (g.0, g.1, g.2, flat_list (groups_of g.0) sheet.list (flat g.0 g.1) g.2.records g.3)
