-- A file has one answer.
use Rattle.std.proofs.Common.{◌≡◌, ◌⊎◌, inl, inr, ℕ, ◌<◌, ◌≤◌, List, [], ◌∷◌, filter, refl, ap, ◌∙◌, subst, arith}
use Rattle.std.specs.List.{AllZip}
use Rattle.edi_line.specs.ZoneData.{ZoneData}
use Rattle.edi_line.specs.Refusal.{IsLeastBroken}
use Rattle.edi_line.specs.Zones.{groups_of}
use Rattle.edi_line.specs.declared.fault.LineFault.TheVariants as line
use Rattle.edi_line.proofs.ZonesSaid.{zones_of_one}
use Rattle.edi_record.specs.declared.fault.RecordFault.TheVariants as record_fault
use Rattle.edi_delivery.specs.Lots.{is_lot, StatesLot, StatesLots}
use Rattle.edi_delivery.specs.DeliveryRules.{BreaksDeliveryRule}
use Rattle.edi_delivery.specs.DeliveryRefusal.{IsDeliveryOf, IsDeliveryRefusal}
use Rattle.edi_delivery.specs.Laws.{WantsMemory}
use Rattle.edi_delivery.specs.declared.fault.DeliveryFault.{DeliveryFault}
use Rattle.edi_delivery.specs.declared.fault.DeliveryFault.TheVariants.{Line, Record}
use Rattle.edi_delivery.specs.declared.lot.Lot.{Lot}
use Rattle.edi_delivery.proofs.LotRules.{lot_one}

lots_one : (gs : List (List ZoneData)) (ls ms : List Lot) → AllZip StatesLot gs ls → AllZip StatesLot gs ms → ls ≡ ms
lots_one [] [] [] h k = refl
lots_one [] [] (m ∷ ms) h k = absurd k
lots_one [] (l ∷ ls) ms h k = absurd h
lots_one (g ∷ gs) [] ms h k = absurd h
lots_one (g ∷ gs) (l ∷ ls) [] h k = absurd k
lots_one (g ∷ gs) (l ∷ ls) (m ∷ ms) h k = ap (λ x. x ∷ ls) (lot_one g l m h.0 k.0) ∙ ap (λ xs. m ∷ xs) (lots_one gs ls ms h.1 k.1)

pub delivery_one : (bytes : List ℕ) (lots others : List Lot) → IsDeliveryOf bytes lots → IsDeliveryOf bytes others → lots ≡ others
delivery_one bytes lots others h k =
    let same : h.zones ≡ k.zones = zones_of_one bytes h.zones k.zones h.of_file k.of_file in
    lots_one (filter is_lot (groups_of k.zones)) lots others (subst (λ zs. StatesLots (groups_of zs) lots) same h.states) k.states

pub refused_none : (bytes : List ℕ) (lots : List Lot) (fault : DeliveryFault) → IsDeliveryOf bytes lots → IsDeliveryRefusal bytes fault → WantsMemory fault
refused_none bytes lots (Line (line.Memory e)) h k = tt
refused_none bytes lots (Line (line.Broken rule at)) h k = h.lines rule at k.is
refused_none bytes lots (Record (record_fault.Memory e)) h k = tt
refused_none bytes lots (Record (record_fault.Broken rule at)) h k =
    h.rules rule at (subst (λ zs. BreaksDeliveryRule (groups_of zs) rule at) (zones_of_one bytes k.1.0 h.zones k.1.1 h.of_file) k.1.2.is)

least_one : (broken : ℕ → ℕ → Type 0) (r p s q : ℕ) → IsLeastBroken broken r p → IsLeastBroken broken s q → (r ≡ s) × (p ≡ q)
least_one broken r p s q h k = go (h.least s q k.is) (k.least r p h.is)
  where
    go : (p < q) ⊎ ((p ≡ q) × (r ≤ s)) → (q < p) ⊎ ((q ≡ p) × (s ≤ r)) → (r ≡ s) × (p ≡ q)
    go (inl a) (inl b) = absurd (omega (arith, a, b))
    go (inl a) (inr b) = absurd (omega (arith, a, b.0))
    go (inr a) (inl b) = absurd (omega (arith, a.0, b))
    go (inr a) (inr b) = (omega (arith, a.1, b.1), a.0)

pub refusal_one : (bytes : List ℕ) (one other : DeliveryFault) → IsDeliveryRefusal bytes one → IsDeliveryRefusal bytes other → WantsMemory one ⊎ (WantsMemory other ⊎ (one ≡ other))
refusal_one bytes (Line (line.Memory e)) other h k = inl tt
refusal_one bytes (Record (record_fault.Memory e)) other h k = inl tt
refusal_one bytes (Line (line.Broken r p)) (Line (line.Memory e)) h k = inr (inl tt)
refusal_one bytes (Line (line.Broken r p)) (Line (line.Broken s q)) h k = let e = least_one _ r p s q h k in inr (inr (λ j. Line (line.Broken (e.0 j) (e.1 j))))
refusal_one bytes (Line (line.Broken r p)) (Record (record_fault.Memory e)) h k = inr (inl tt)
refusal_one bytes (Line (line.Broken r p)) (Record (record_fault.Broken s q)) h k = absurd (k.0 r p h.is)
refusal_one bytes (Record (record_fault.Broken r p)) (Line (line.Memory e)) h k = inr (inl tt)
refusal_one bytes (Record (record_fault.Broken r p)) (Line (line.Broken s q)) h k = absurd (h.0 s q k.is)
refusal_one bytes (Record (record_fault.Broken r p)) (Record (record_fault.Memory e)) h k = inr (inl tt)
refusal_one bytes (Record (record_fault.Broken r p)) (Record (record_fault.Broken s q)) h k =
    let here = subst (λ zs. IsLeastBroken (BreaksDeliveryRule (groups_of zs)) r p) (zones_of_one bytes h.1.0 k.1.0 h.1.1 k.1.1) h.1.2 in
    let e = least_one (BreaksDeliveryRule (groups_of k.1.0)) r p s q here k.1.2 in
    inr (inr (λ j. Record (record_fault.Broken (e.0 j) (e.1 j))))
