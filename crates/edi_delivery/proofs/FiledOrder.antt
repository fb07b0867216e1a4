-- Lots in the order of their file.
use Rattle.std.proofs.Common.{◌≡◌, ℕ, List, [], ◌∷◌, ◌++◌, map, filter, flat_map, codes, refl, sym, ap, ◌∙◌, subst}
use Rattle.std.specs.List.{AllZip}
use Rattle.std.proofs.lemmas.List.{map-append}
use Rattle.std.proofs.lemmas.List.Elements.{filter-append}
use Rattle.edi_line.specs.ZoneData.{ZoneData, has_code}
use Rattle.edi_line.specs.LineRules.{IsZonesOf}
use Rattle.edi_line.specs.Zones.{groups_of}
use Rattle.edi_line.proofs.ZonesSaid.{zones_of_one}
use Rattle.edi_record.specs.Records.{values}
use Rattle.edi_delivery.specs.Lots.{is_lot, StatesLot, StatesLots}
use Rattle.edi_delivery.specs.DeliveryRefusal.{IsDeliveryOf}
use Rattle.edi_delivery.specs.Laws.{lot_zones}
use Rattle.edi_delivery.specs.declared.lot.Lot.{Lot}

values_append : (code : List ℕ) (xs ys : List ZoneData) → values code (xs ++ ys) ≡ values code xs ++ values code ys
values_append code xs ys = ap (map (λ z. z.value)) (filter-append (has_code code) xs ys) ∙ map-append (λ z. z.value) (filter (has_code code) xs) (filter (has_code code) ys)

names_of : (gs : List (List ZoneData)) (ls : List Lot) → AllZip StatesLot gs ls → map (λ (l : Lot). l.name) ls ≡ values (codes "LON") (flat_map (λ g. g) gs)
names_of [] [] h = refl
names_of [] (l ∷ ls) h = absurd h
names_of (g ∷ gs) [] h = absurd h
names_of (g ∷ gs) (l ∷ ls) h =
    sym (values_append (codes "LON") g (flat_map (λ x. x) gs) ∙ (ap (λ t. t ++ values (codes "LON") (flat_map (λ x. x) gs)) h.0.name ∙ ap (λ t. l.name ∷ t) (sym (names_of gs ls h.1))))

vecs_of : (gs : List (List ZoneData)) (ls : List Lot) → AllZip StatesLot gs ls → flat_map (λ (l : Lot). l.vecs) ls ≡ values (codes "GDN") (flat_map (λ g. g) gs)
vecs_of [] [] h = refl
vecs_of [] (l ∷ ls) h = absurd h
vecs_of (g ∷ gs) [] h = absurd h
vecs_of (g ∷ gs) (l ∷ ls) h =
    sym (values_append (codes "GDN") g (flat_map (λ x. x) gs) ∙ (ap (λ t. t ++ values (codes "GDN") (flat_map (λ x. x) gs)) h.0.vecs ∙ ap (λ t. l.vecs ++ t) (sym (vecs_of gs ls h.1))))

pub in_order : (bytes : List ℕ) (lots : List Lot) (zones : List ZoneData) → IsDeliveryOf bytes lots → IsZonesOf bytes zones
    → (map (λ (lot : Lot). lot.name) lots ≡ values (codes "LON") (lot_zones (groups_of zones))) × (flat_map (λ (lot : Lot). lot.vecs) lots ≡ values (codes "GDN") (lot_zones (groups_of zones)))
in_order bytes lots zones h of_file =
    let states : StatesLots (groups_of zones) lots = subst (λ zs. StatesLots (groups_of zs) lots) (zones_of_one bytes h.zones zones h.of_file of_file) h.states in
    (names_of (filter is_lot (groups_of zones)) lots states, vecs_of (filter is_lot (groups_of zones)) lots states)
