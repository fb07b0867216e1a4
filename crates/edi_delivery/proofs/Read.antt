-- Reading the records of a file one by one.
use Rattle.std.proofs.Common.{Result, Ok, Err, OnOk, ◌≡◌, ◌⊎◌, inl, inr, ℕ, ◌+◌, ◌-◌, ◌<◌, ◌≤◌, Bool, true, false, cond, List, [], ◌∷◌, ◌++◌, length, filter, take, drop, Some, None, unwrap_or, codes, refl, sym, ap, ◌∙◌, subst, arith}
use Rattle.std.specs.List.{list_any, AllZip}
use Rattle.std.specs.Str.{bytes_eq}
use Rattle.std.proofs.lemmas.Bool.{both_ways}
use Rattle.std.proofs.lemmas.Slice.Eq.{bytes_eq-Decides}
use Rattle.std.proofs.lemmas.List.{append-nil, append_assoc, take_all, length-append}
use Rattle.std.proofs.lemmas.List.Elements.{filter-append}
use Rattle.edi_line.specs.ZoneData.{ZoneData, first, entry, entries}
use Rattle.edi_line.specs.Refusal.{BreaksTest, IsUnbroken, IsLeastBroken}
use Rattle.edi_line.specs.Zones.{begins_group, before_end, groups_of}
use Rattle.edi_line.specs.declared.zone.Zone.{Zone}
use Rattle.edi_line.specs.inner.Refusal.{first_broken}
use Rattle.edi_line.proofs.FirstBroken.{IsLeast, none_broken, first_is_least}
use Rattle.edi_line.proofs.Rules.{AreApart, no_cut_of_none, two_cuts}
use Rattle.edi_record.specs.Records.{values, group_at}
use Rattle.edi_record.specs.RecordRefusal.{IsRecordRefusal}
use Rattle.edi_record.specs.declared.fault.RecordFault.{RecordFault}
use Rattle.edi_record.specs.declared.fault.RecordFault.TheVariants.{Broken}
use Rattle.edi_delivery.specs.Lots.{is_support, is_lot, StatesLot, StatesLots}
use Rattle.edi_delivery.specs.DeliveryRules.{BreaksLotRule, BreaksBehind, BreaksRuleAt, BreaksDeliveryRule}
use Rattle.edi_delivery.specs.DeliveryRules.BreaksBehind.{unknown, of_lot}
use Rattle.edi_delivery.specs.inner.LotTests.{lot_tests}
use Rattle.edi_delivery.specs.inner.Noted.{repeats_name, repeats_file, take_tests}
use Rattle.edi_delivery.specs.inner.Steps.{IfRule}
use Rattle.edi_delivery.specs.inner.Taken.{AreTakenLots, IsLeastHere, lot_fault_at}
use Rattle.edi_delivery.specs.declared.lot.Lot.{Lot}
use Rattle.edi_delivery.specs.declared.fault.LotFault.{LotFault}
use Rattle.edi_delivery.specs.declared.fault.LotFault.TheVariants.{Memory as LotMemory, Broken as LotBroken}
use Rattle.edi_delivery.proofs.LotRules.{Repeats, lot_rule, take_rule, test_of, lot_one}
use Rattle.edi_delivery.proofs.LotRules.Repeats.{name, file}

-- ---- one record more

pub push_states : (before : List (List ZoneData)) (group : List ZoneData) (lots : List Lot) (lot : Lot) → is_lot group ≡ true → StatesLots before lots → StatesLot group lot → StatesLots (before ++ group ∷ []) (lots ++ lot ∷ [])
push_states before group lots lot e h k =
    let more : filter is_lot (before ++ group ∷ []) ≡ filter is_lot before ++ group ∷ [] = filter-append is_lot before (group ∷ []) ∙ ap (λ t. filter is_lot before ++ t) (rw e refl) in
    subst (λ gs. AllZip StatesLot gs (lots ++ lot ∷ [])) (sym more) (push (filter is_lot before) lots h)
  where
    push : (gs : List (List ZoneData)) (ls : List Lot) → AllZip StatesLot gs ls → AllZip StatesLot (gs ++ group ∷ []) (ls ++ lot ∷ [])
    push [] [] h = (k, tt)
    push [] (l ∷ ls) h = absurd h
    push (g ∷ gs) [] h = absurd h
    push (g ∷ gs) (l ∷ ls) h = (h.0, push gs ls h.1)

same_states : (before : List (List ZoneData)) (group : List ZoneData) (lots : List Lot) → is_lot group ≡ false → StatesLots before lots → StatesLots (before ++ group ∷ []) lots
same_states before group lots e h =
    let same : filter is_lot (before ++ group ∷ []) ≡ filter is_lot before = filter-append is_lot before (group ∷ []) ∙ (ap (λ t. filter is_lot before ++ t) (rw e refl) ∙ append-nil (filter is_lot before)) in
    subst (λ gs. AllZip StatesLot gs lots) (sym same) h

push_sound : (before : List (List ZoneData)) (group : List ZoneData) → ((rule place : ℕ) → ¬ (BreaksRuleAt before rule place)) → ((rule : ℕ) → ¬ (BreaksBehind before group rule))
    → (rule place : ℕ) → ¬ (BreaksRuleAt (before ++ group ∷ []) rule place)
push_sound before group sound here rule place b = go (two_cuts before group [] b.before b.group b.after b.cut)
  where
    go : AreApart before group b.before b.group → ⊥
    go (inl (rest, same)) = sound rule place (record { before = b.before; group = b.group; after = rest; cut = same; place_is = b.place_is; breaks = b.breaks })
    go (inr (inl (same, at))) = here rule (subst (λ g. BreaksBehind before g rule) (sym at) (subst (λ gs. BreaksBehind gs b.group rule) (sym same) b.breaks))
    go (inr (inr short)) =
        let one = ap length b.cut in
        let left = length-append before (group ∷ []) in
        let right = length-append b.before (b.group ∷ b.after) in
        omega (arith, one, left, right, short)

no_support : (group : List ZoneData) → is_support group ≡ true → is_lot group ≡ false
no_support group e =
    let same : unwrap_or (first (values (codes "RTY") group)) [] ≡ codes "GTS" = (bytes_eq-Decides (unwrap_or (first (values (codes "RTY") group)) []) (codes "GTS")).0 e in
    ap (λ t. bytes_eq t (codes "GTL")) same

pub support_taken : (before : List (List ZoneData)) (group : List ZoneData) (lots : List Lot) → is_support group ≡ true → AreTakenLots before lots → AreTakenLots (before ++ group ∷ []) lots
support_taken before group lots e h = record {
  states = same_states before group lots (no_support group e) h.states;
  sound = push_sound before group h.sound here;
}
  where
    here : (rule : ℕ) → ¬ (BreaksBehind before group rule)
    here rule (unknown is support lot) = both_ways _ support e
    here rule (of_lot lot b) = both_ways _ (no_support group e) lot

module _ (before : List (List ZoneData)) (group : List ZoneData) (lots : List Lot) (h : AreTakenLots before lots) where
  pub unknown_least : is_support group ≡ false → is_lot group ≡ false → IsLeastHere before group 701
  unknown_least support lot = record { breaks = unknown refl support lot; least = least }
    where
      least : (r : ℕ) → BreaksBehind before group r → 701 ≤ r
      least r (unknown is s l) = omega (arith, is)
      least r (of_lot l b) = absurd (both_ways _ lot l)

  module _ (is : is_lot group ≡ true) where
    by_rule : (rule : ℕ) → BreaksBehind before group rule → BreaksLotRule before group rule
    by_rule rule (unknown e s l) = absurd (both_ways _ l is)
    by_rule rule (of_lot l b) = b

    below_709 : (rule : ℕ) → BreaksTest (lot_tests group) rule → rule ≤ 708
    below_709 rule (inl b) = omega (arith, b.0)
    below_709 rule (inr (inl b)) = omega (arith, b.0)
    below_709 rule (inr (inr (inl b))) = omega (arith, b.0)
    below_709 rule (inr (inr (inr (inl b)))) = omega (arith, b.0)
    below_709 rule (inr (inr (inr (inr (inl b))))) = omega (arith, b.0)
    below_709 rule (inr (inr (inr (inr (inr (inl b)))))) = omega (arith, b.0)
    below_709 rule (inr (inr (inr (inr (inr (inr (inl b))))))) = omega (arith, b.0)
    below_709 rule (inr (inr (inr (inr (inr (inr (inr b))))))) = absurd b

    pub own_least : (rule : ℕ) → first_broken (lot_tests group) ≡ Some rule → IsLeastHere before group rule
    own_least rule e =
        let found = first_is_least (lot_tests group) rule refl e in
        record { breaks = of_lot is (lot_rule before lots h.states group rule found.breaks); least = λ r b. least found r (test_of before lots h.states group r (by_rule r b)) }
      where
        least : IsLeast (lot_tests group) rule → (r : ℕ) → BreaksTest (lot_tests group) r ⊎ Repeats before lots h.states group r → rule ≤ r
        least found r (inl b) = found.least r b
        least found r (inr (name lot at s again)) = let few = below_709 rule found.breaks in omega (arith, few, at)
        least found r (inr (file lot at s again)) = let few = below_709 rule found.breaks in omega (arith, few, at)

    module _ (lot : Lot) (states : StatesLot group lot) (own : first_broken (lot_tests group) ≡ None) where
      repeats_test : (r : ℕ) → BreaksTest (lot_tests group) r ⊎ Repeats before lots h.states group r → BreaksTest (take_tests lots lot) r
      repeats_test r (inl b) = absurd (none_broken (lot_tests group) own r b)
      repeats_test r (inr (name l at s again)) = inl (sym at, subst (λ (m : Lot). repeats_name lots m ≡ true) (lot_one group l lot s states) again)
      repeats_test r (inr (file l at s again)) = inr (inl (sym at, subst (λ m. repeats_file lots m ≡ true) (lot_one group l lot s states) again))

      pub take_least : (rule : ℕ) → first_broken (take_tests lots lot) ≡ Some rule → IsLeastHere before group rule
      take_least rule e =
          let found = first_is_least (take_tests lots lot) rule refl e in
          record {
            breaks = of_lot is (take_rule before lots h.states group lot states rule found.breaks);
            least = λ r b. found.least r (repeats_test r (test_of before lots h.states group r (by_rule r b)));
          }

      pub lot_taken : (new : List Lot) → first_broken (take_tests lots lot) ≡ None → new ≡ lots ++ lot ∷ [] → AreTakenLots (before ++ group ∷ []) new
      lot_taken new e pushed = subst (AreTakenLots (before ++ group ∷ [])) (sym pushed) (record {
        states = push_states before group lots lot is h.states states;
        sound = push_sound before group h.sound (λ r b. none_broken (take_tests lots lot) e r (repeats_test r (test_of before lots h.states group r (by_rule r b))));
      })

-- ---- the records of a file

-- so many records have been read, which state these lots
pub record SoFar (zones rest : List ZoneData) (at : ℕ) (lots : List Lot) : Type 0 where
  pub done : List (List ZoneData)
  pub cut : groups_of zones ≡ done ++ groups_of rest
  pub counted : at ≡ length done
  pub taken : AreTakenLots done lots

pub none_read : (zones : List ZoneData) (lots : List Lot) → lots ≡ [] → SoFar zones zones 0 lots
none_read zones lots none = record {
  done = [];
  cut = refl;
  counted = refl;
  taken = subst (AreTakenLots []) (sym none) (record { states = tt; sound = λ rule place b. no_cut_of_none b.before b.group b.after b.cut });
}

abbrev behind : List Zone → List Zone
behind rest = take (length rest - 1) (drop 1 rest)

group_found : (rest : List Zone) (g : List ZoneData) → Some g ≡ group_at (entries rest) → groups_of (entries rest) ≡ g ∷ groups_of (entries (behind rest))
group_found [] g e = absurd cc
group_found (z ∷ zs) g e = go (begins_group (entry z)) refl e
  where
    go : (b : Bool) → begins_group (entry z) ≡ b → Some g ≡ cond b (Some (entry z ∷ before_end (entries zs))) None → groups_of (entries (z ∷ zs)) ≡ g ∷ groups_of (entries (behind (z ∷ zs)))
    go true b e =
        let same : g ≡ entry z ∷ before_end (entries zs) = cc in
        rw (b, same, take_all (length (z ∷ zs) - 1) zs (omega arith)) refl
    go false b e = absurd cc

group_lacks : (rest : List Zone) → 1 ≤ length rest → None ≡ group_at (entries rest) → groups_of (entries rest) ≡ groups_of (entries (behind rest))
group_lacks [] some e = absurd (omega arith)
group_lacks (z ∷ zs) some e = go (begins_group (entry z)) refl e
  where
    go : (b : Bool) → begins_group (entry z) ≡ b → None ≡ cond b (Some (entry z ∷ before_end (entries zs))) None → groups_of (entries (z ∷ zs)) ≡ groups_of (entries (take (length (z ∷ zs) - 1) zs))
    go true b e = absurd cc
    go false b e = rw (b, take_all (length (z ∷ zs) - 1) zs (omega arith)) refl

pub one_read : (zones : List ZoneData) (rest : List Zone) (at : ℕ) (lots new : List Lot) (g : List ZoneData) → SoFar zones (entries rest) at lots → Some g ≡ group_at (entries rest)
    → ((before : List (List ZoneData)) → AreTakenLots before lots → AreTakenLots (before ++ g ∷ []) new) → SoFar zones (entries (behind rest)) (at + 1) new
one_read zones rest at lots new g h here more = record {
  done = h.done ++ g ∷ [];
  cut = h.cut ∙ (ap (λ t. h.done ++ t) (group_found rest g here) ∙ sym (append_assoc h.done (g ∷ []) (groups_of (entries (behind rest)))));
  counted = omega (arith, h.counted, length-append h.done (g ∷ []));
  taken = more h.done h.taken;
}

pub none_more : (zones : List ZoneData) (rest : List Zone) (at : ℕ) (lots : List Lot) → 1 ≤ length rest → SoFar zones (entries rest) at lots → None ≡ group_at (entries rest) → SoFar zones (entries (behind rest)) at lots
none_more zones rest at lots some h here = record { done = h.done; cut = h.cut ∙ ap (λ t. h.done ++ t) (group_lacks rest some here); counted = h.counted; taken = h.taken }

-- ---- the least of the broken rules

pub least_there : (groups before after : List (List ZoneData)) (group : List ZoneData) (lots : List Lot) (rule place : ℕ) → groups ≡ before ++ group ∷ after → place ≡ length before + 1 → AreTakenLots before lots
    → IsLeastHere before group rule → IsLeastBroken (BreaksDeliveryRule groups) rule place
least_there groups before after group lots rule place cut place_is taken here = record {
  is = inl (record { before = before; group = group; after = after; cut = cut; place_is = place_is; breaks = here.breaks });
  least = least;
}
  where
    at_record : (r p : ℕ) (b : BreaksRuleAt groups r p) → AreApart before group b.before b.group → (place < p) ⊎ ((place ≡ p) × (rule ≤ r))
    at_record r p b (inl (rest, same)) =
        absurd (taken.sound r p (record { before = b.before; group = b.group; after = rest; cut = same; place_is = b.place_is; breaks = b.breaks }))
    at_record r p b (inr (inl (same, at))) =
        inr (omega (arith, place_is, b.place_is, ap length same), here.least r (subst (λ g. BreaksBehind before g r) (sym at) (subst (λ gs. BreaksBehind gs b.group r) (sym same) b.breaks)))
    at_record r p b (inr (inr short)) = inl (omega (arith, place_is, b.place_is, short))

    least : (r p : ℕ) → BreaksDeliveryRule groups r p → (place < p) ⊎ ((place ≡ p) × (rule ≤ r))
    least r p (inl b) = at_record r p b (two_cuts before group after b.before b.group b.after (sym cut ∙ b.cut))
    least r p (inr b) = inl (omega (arith, place_is, b.place_is, ap length cut, length-append before (group ∷ after)))

pub refused_there : (zones : List ZoneData) (rest : List Zone) (at : ℕ) (lots : List Lot) (g : List ZoneData) (fault : LotFault) (result : RecordFault) → SoFar zones (entries rest) at lots → Some g ≡ group_at (entries rest)
    → IfRule (λ rule. (before : List (List ZoneData)) → AreTakenLots before lots → IsLeastHere before g rule) fault → result ≡ lot_fault_at (at + 1) fault → IsRecordRefusal (BreaksDeliveryRule (groups_of zones)) result
refused_there zones rest at lots g (LotMemory e) result h here least is = subst (IsRecordRefusal (BreaksDeliveryRule (groups_of zones))) (sym is) tt
refused_there zones rest at lots g (LotBroken rule) result h here least is =
    subst (IsRecordRefusal (BreaksDeliveryRule (groups_of zones))) (sym is)
    (least_there (groups_of zones) h.done (groups_of (entries (behind rest))) g lots rule (at + 1) (h.cut ∙ ap (λ t. h.done ++ t) (group_found rest g here)) (omega (arith, h.counted)) h.taken (least h.done h.taken))

-- ---- the end

all_done : (zones : List ZoneData) (rest : List Zone) (at : ℕ) (lots : List Lot) → length rest < 1 → (h : SoFar zones (entries rest) at lots) → groups_of zones ≡ h.done
all_done zones [] at lots none h = h.cut ∙ append-nil h.done
all_done zones (z ∷ zs) at lots none h = absurd (omega arith)

pub no_lots : (groups : List (List ZoneData)) → StatesLots groups [] → list_any is_lot groups ≡ false
no_lots [] h = refl
no_lots (g ∷ gs) h = go (is_lot g) refl h (no_lots gs)
  where
    go : (b : Bool) → is_lot g ≡ b → AllZip StatesLot (cond b (g ∷ filter is_lot gs) (filter is_lot gs)) [] → (StatesLots gs [] → list_any is_lot gs ≡ false) → list_any is_lot (g ∷ gs) ≡ false
    go true e h more = absurd h
    go false e h more = rw e (more h)

pub some_lot : (groups : List (List ZoneData)) (l : Lot) (ls : List Lot) → StatesLots groups (l ∷ ls) → list_any is_lot groups ≡ true
some_lot [] l ls h = absurd h
some_lot (g ∷ gs) l ls h = go (is_lot g) refl h (some_lot gs l ls)
  where
    go : (b : Bool) → is_lot g ≡ b → AllZip StatesLot (cond b (g ∷ filter is_lot gs) (filter is_lot gs)) (l ∷ ls) → (StatesLots gs (l ∷ ls) → list_any is_lot gs ≡ true) → list_any is_lot (g ∷ gs) ≡ true
    go true e h more = rw e refl
    go false e h more = rw e (more h)

pub lacks_least : (groups done : List (List ZoneData)) (lots : List Lot) (place : ℕ) → groups ≡ done → AreTakenLots done lots → lots ≡ [] → place ≡ length done + 1 → IsLeastBroken (BreaksDeliveryRule groups) 711 place
lacks_least groups done lots place all taken empty place_is =
    let lacks : list_any is_lot groups ≡ false = ap (list_any is_lot) all ∙ no_lots done (subst (StatesLots done) empty taken.states) in
    record {
      is = inr (record { rule_is = refl; place_is = omega (arith, place_is, ap length all); lacks = lacks });
      least = least;
    }
  where
    least : (r p : ℕ) → BreaksDeliveryRule groups r p → (place < p) ⊎ ((place ≡ p) × (711 ≤ r))
    least r p (inl b) = absurd (taken.sound r p (record { before = b.before; group = b.group; after = b.after; cut = sym all ∙ b.cut; place_is = b.place_is; breaks = b.breaks }))
    least r p (inr b) = inr (omega (arith, b.place_is, place_is, ap length all), omega (arith, b.rule_is))

pub none_least : (zones : List ZoneData) (rest : List Zone) (at : ℕ) (lots : List Lot) → length rest < 1 → SoFar zones (entries rest) at lots → lots ≡ []
    → IsRecordRefusal (BreaksDeliveryRule (groups_of zones)) (Broken 711 (at + 1))
none_least zones rest at lots none h empty = lacks_least (groups_of zones) h.done lots (at + 1) (all_done zones rest at lots none h) h.taken empty (omega (arith, h.counted))

pub all_unbroken : (zones : List ZoneData) (rest : List Zone) (at : ℕ) (lots : List Lot) → length rest < 1 → SoFar zones (entries rest) at lots → 0 < length lots → IsUnbroken (BreaksDeliveryRule (groups_of zones))
all_unbroken zones rest at [] none h some rule place b = omega (arith, some)
all_unbroken zones rest at (l ∷ ls) none h some rule place (inl b) =
    h.taken.sound rule place (record { before = b.before; group = b.group; after = b.after; cut = sym (all_done zones rest at (l ∷ ls) none h) ∙ b.cut; place_is = b.place_is; breaks = b.breaks })
all_unbroken zones rest at (l ∷ ls) none h some rule place (inr b) =
    both_ways _ (ap (list_any is_lot) (sym (all_done zones rest at (l ∷ ls) none h)) ∙ b.lacks) (some_lot h.done l ls h.taken.states)

pub all_states : (zones : List ZoneData) (rest : List Zone) (at : ℕ) (lots : List Lot) → length rest < 1 → SoFar zones (entries rest) at lots → StatesLots (groups_of zones) lots
all_states zones rest at lots none h = subst (λ gs. StatesLots gs lots) (sym (all_done zones rest at lots none h)) h.taken.states

pub ok_taken : {T E : Type 0} (r : Result T E) (A B C : Type 0) → OnOk r A → OnOk r B → (A → B → C) → OnOk r C
ok_taken (Ok x) A B C a b to = to a b
ok_taken (Err e) A B C a b to = tt
