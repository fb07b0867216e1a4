-- What the rules keep of the lots of a file.
use Rattle.std.proofs.Common.{◌≡◌, ◌≢◌, inl, inr, ℕ, ◌+◌, Bool, true, false, not, ◌||◌, cond, List, [], ◌∷◌, ◌++◌, length, map, filter, flat_map, option_to_list, codes, refl, sym, ap, ◌∙◌, subst}
use Rattle.std.specs.List.{list_any, AllByRecursion, AllZip, IsDistinct}
use Rattle.std.specs.Str.{str_to_ascii_lowercase}
use Rattle.std.proofs.lemmas.List.{append_assoc, append-nil, map-append}
use Rattle.std.proofs.lemmas.List.Elements.{filter-append}
use Rattle.std.proofs.lemmas.Bool.{false_from_ne_true, or_parts}
use Rattle.edi_line.specs.ZoneData.{ZoneData}
use Rattle.edi_line.specs.Refusal.{BreaksTest}
use Rattle.edi_line.specs.Zones.{groups_of}
use Rattle.edi_line.proofs.EachElement.{each_of_both}
use Rattle.edi_line.proofs.Truths.{or_false}
use Rattle.edi_record.specs.Records.{values}
use Rattle.edi_delivery.specs.NameParts.{is_name_part, is_file_name, is_same_name, file_name}
use Rattle.edi_delivery.specs.Lots.{is_lot, StatesLot, StatesLots, files_of}
use Rattle.edi_delivery.specs.DeliveryRules.{BreaksLotRule, BreaksRuleAt}
use Rattle.edi_delivery.specs.DeliveryRules.BreaksBehind.{of_lot}
use Rattle.edi_delivery.specs.DeliveryRefusal.{IsDeliveryOf}
use Rattle.edi_delivery.specs.Laws.{HasSafeNames, IsDelivery}
use Rattle.edi_delivery.specs.inner.LotTests.{is_unsafe, miscounts, has_unsafe_file, lot_tests}
use Rattle.edi_delivery.specs.inner.Noted.{repeats_name, repeats_file, take_tests}
use Rattle.edi_delivery.specs.declared.file_name.Extension.{Extension}
use Rattle.edi_delivery.specs.declared.file_name.Extension.TheVariants.{Scd, Dic, Gen, Geo, Qal, Vec}
use Rattle.edi_delivery.specs.declared.lot.Lot.{Lot}
use Rattle.edi_delivery.proofs.LotRules.{lot_rule, take_rule}
use Rattle.edi_delivery.proofs.Read.{push_states, no_lots}
use Rattle.edi_delivery.proofs.Repeats.{any_map}
use Rattle.edi_delivery.proofs.SafeNames.{made_of_parts}
use Rattle.edi_delivery.proofs.SameFiles.{any_flat, bytes_turned, file_repeats, no_twins}

-- ---- lists

none_apart : (x : List ℕ) (ys : List (List ℕ)) → list_any (λ y. is_same_name y x) ys ≡ false → AllByRecursion (λ y. is_same_name x y ≡ false) ys
none_apart x [] e = tt
none_apart x (y ∷ ys) e = let p = or_parts _ _ e in (bytes_turned (str_to_ascii_lowercase x) (str_to_ascii_lowercase y) ∙ p.0, none_apart x ys p.1)

distinct_append : (xs ys : List (List ℕ)) → IsDistinct is_same_name xs → IsDistinct is_same_name ys → list_any (λ x. list_any (λ y. is_same_name y x) ys) xs ≡ false → IsDistinct is_same_name (xs ++ ys)
unfolding IsDistinct
distinct_append [] ys h k e = k
distinct_append (x ∷ xs) ys h k e =
    let p = or_parts _ _ e in
    (each_of_both (λ y. is_same_name x y ≡ false) xs ys h.0 (none_apart x ys p.0), distinct_append xs ys h.1 k p.1)

none_distinct : IsDistinct is_same_name []
unfolding IsDistinct
none_distinct = tt

one_distinct : (x : List ℕ) → IsDistinct is_same_name (x ∷ [])
unfolding IsDistinct
one_distinct x = (tt, tt)

any_same : {X : Type 0} (p q : X → Bool) → ((x : X) → p x ≡ q x) → (xs : List X) → list_any p xs ≡ list_any q xs
any_same p q same [] = refl
any_same p q same (x ∷ xs) = ap (λ b. b || list_any p xs) (same x) ∙ ap (λ b. q x || b) (any_same p q same xs)

-- ---- names of one lot

safe_name : (text : List ℕ) → is_unsafe text ≡ false → is_name_part text ≡ true
safe_name text e = go (is_name_part text) e
  where
    go : (b : Bool) → not b ≡ false → b ≡ true
    go true e = refl
    go false e = sym e

abbrev IsSafeFile : List ℕ → Type 0
IsSafeFile file = is_file_name file ≡ true

safe_files : (lot : List ℕ) (extension : Extension) (owns : List (List ℕ)) → is_name_part lot ≡ true → list_any is_unsafe owns ≡ false → AllByRecursion IsSafeFile (map (file_name lot extension) owns)
safe_files lot extension [] name e = tt
safe_files lot extension (own ∷ owns) name e =
    let p = or_parts _ _ e in
    (made_of_parts lot own extension name (safe_name own p.0), safe_files lot extension owns name p.1)

safe_lot : (group : List ZoneData) (lot : Lot) → StatesLot group lot → list_any is_unsafe (values (codes "LON") group) ≡ false → has_unsafe_file group ≡ false → HasSafeNames lot
safe_lot group lot h named safe =
    let name : is_name_part lot.name ≡ true = safe_name lot.name (or_parts _ _ (ap (list_any is_unsafe) (sym h.name) ∙ named)).0 in
    let scd = or_parts _ _ safe in
    let dic = or_parts _ _ scd.1 in
    let general = or_parts _ _ dic.1 in
    let geo = or_parts _ _ general.1 in
    let quality = or_parts _ _ geo.1 in
    let vecs = or_parts _ _ quality.1 in
    record {
      name = name;
      files = (
        (safe_files lot.name Scd (lot.scd ∷ []) name (ap (list_any is_unsafe) (sym h.scd) ∙ scd.0)).0,
        (
          (safe_files lot.name Dic (lot.dic ∷ []) name (ap (list_any is_unsafe) (sym h.dic) ∙ dic.0)).0,
          each_of_both IsSafeFile (map (file_name lot.name Gen) (option_to_list lot.general)) _ (safe_files lot.name Gen (option_to_list lot.general) name (ap (list_any is_unsafe) (sym h.general) ∙ general.0))
              (each_of_both IsSafeFile (map (file_name lot.name Geo) (option_to_list lot.geo)) _ (safe_files lot.name Geo (option_to_list lot.geo) name (ap (list_any is_unsafe) (sym h.geo) ∙ geo.0))
              (each_of_both IsSafeFile (map (file_name lot.name Qal) (option_to_list lot.quality)) _ (safe_files lot.name Qal (option_to_list lot.quality) name (ap (list_any is_unsafe) (sym h.quality) ∙ quality.0))
              (safe_files lot.name Vec lot.vecs name (ap (list_any is_unsafe) (sym h.vecs) ∙ vecs.0)))),
        ),
      );
    }

some_vecs : (counts vecs : List (List ℕ)) → miscounts counts vecs ≡ false → vecs ≢ []
some_vecs counts [] e same = let no : true ≡ false = e in absurd cc
some_vecs counts (v ∷ vs) e same = absurd cc

-- ---- the lots so far

-- what is kept of them
record Kept (lots : List Lot) : Type 0 where
  vecs : AllByRecursion (λ (lot : Lot). lot.vecs ≢ []) lots
  safe : AllByRecursion HasSafeNames lots
  lots_apart : IsDistinct is_same_name (map (λ (lot : Lot). lot.name) lots)
  files_apart : IsDistinct is_same_name (flat_map files_of lots)

flat_push : (lots : List Lot) (lot : Lot) → flat_map files_of (lots ++ lot ∷ []) ≡ flat_map files_of lots ++ files_of lot
flat_push [] lot = append-nil (files_of lot)
flat_push (l ∷ ls) lot = ap (λ t. files_of l ++ t) (flat_push ls lot) ∙ sym (append_assoc (files_of l) (flat_map files_of ls) (files_of lot))

module _ (before : List (List ZoneData)) (lots : List Lot) (states : StatesLots before lots) (group : List ZoneData) (lot : Lot) (is : StatesLot group lot) (unbroken : (rule : ℕ) → ¬ (BreaksLotRule before group rule)) where
  no_test : (rule : ℕ) (b : Bool) → (b ≡ true → BreaksTest (lot_tests group) rule) → b ≡ false
  no_test rule b to = false_from_ne_true b (λ e. unbroken rule (lot_rule before lots states group rule (to e)))

  no_repeat : (rule : ℕ) (b : Bool) → (b ≡ true → BreaksTest (take_tests lots lot) rule) → b ≡ false
  no_repeat rule b to = false_from_ne_true b (λ e. unbroken rule (take_rule before lots states group lot is rule (to e)))

  named : repeats_name lots lot ≡ false
  named = no_repeat 709 (repeats_name lots lot) (λ e. inl (refl, e))

  filed : repeats_file lots lot ≡ false
  filed = no_repeat 710 (repeats_file lots lot) (λ e. inr (inl (refl, e)))

  kept_more : Kept lots → Kept (lots ++ lot ∷ [])
  kept_more kept =
      let files = or_parts _ _ (sym (file_repeats lots lot) ∙ filed) in
      record {
        vecs = each_of_both (λ (l : Lot). l.vecs ≢ []) lots (lot ∷ []) kept.vecs (
          subst (λ vs. vs ≢ []) is.vecs (some_vecs (values (codes "GDC") group) (values (codes "GDN") group)
              (no_test 706 (miscounts (values (codes "GDC") group) (values (codes "GDN") group)) (λ e. inr (inr (inr (inr (inl (refl, e)))))))),
          tt,
        );
        safe = each_of_both HasSafeNames lots (lot ∷ []) kept.safe (
          safe_lot group lot is (no_test 703 (list_any is_unsafe (values (codes "LON") group)) (λ e. inr (inl (refl, e))))
              (no_test 708 (has_unsafe_file group) (λ e. inr (inr (inr (inr (inr (inr (inl (refl, e))))))))),
          tt,
        );
        lots_apart = subst (IsDistinct is_same_name) (sym (map-append (λ (l : Lot). l.name) lots (lot ∷ [])))
            (distinct_append (map (λ (l : Lot). l.name) lots) (lot.name ∷ []) kept.lots_apart (one_distinct lot.name)
            (any_map (λ x. list_any (λ y. is_same_name y x) (lot.name ∷ [])) (λ (l : Lot). l.name) lots
            ∙ (any_same _ _ (λ (l : Lot). or_false (is_same_name lot.name l.name)) lots ∙ named)));
        files_apart = subst (IsDistinct is_same_name) (sym (flat_push lots lot))
            (distinct_append (flat_map files_of lots) (files_of lot) kept.files_apart (no_twins lot files.1)
            (any_flat (λ x. list_any (λ y. is_same_name y x) (files_of lot)) files_of lots ∙ files.0));
      }

-- ---- the records of a file

abbrev IsSoundFrom : List (List ZoneData) → List (List ZoneData) → Type 0
IsSoundFrom before rest = (rule place : ℕ) → ¬ (BreaksRuleAt (before ++ rest) rule place)

walk : (before rest : List (List ZoneData)) (done todo : List Lot) → IsSoundFrom before rest → StatesLots before done → StatesLots rest todo → Kept done → Kept (done ++ todo)
walk before [] done [] sound states h kept = subst Kept (sym (append-nil done)) kept
walk before [] done (l ∷ ls) sound states h kept = absurd h
walk before (g ∷ gs) done todo sound states h kept = go (is_lot g) refl todo h (walk (before ++ g ∷ []) gs)
  where
    onward : IsSoundFrom (before ++ g ∷ []) gs
    onward rule place b = sound rule place (subst (λ xs. BreaksRuleAt xs rule place) (append_assoc before (g ∷ []) gs) b)

    here : is_lot g ≡ true → (rule : ℕ) → ¬ (BreaksLotRule before g rule)
    here e rule b = sound rule (length before + 1) (record { before = before; group = g; after = gs; cut = refl; place_is = refl; breaks = of_lot e b })

    go : (b : Bool) → is_lot g ≡ b → (todo : List Lot) → AllZip StatesLot (cond b (g ∷ filter is_lot gs) (filter is_lot gs)) todo
        → ((done todo : List Lot) → IsSoundFrom (before ++ g ∷ []) gs → StatesLots (before ++ g ∷ []) done → StatesLots gs todo → Kept done → Kept (done ++ todo)) → Kept (done ++ todo)
    go true e [] h more = absurd h
    go true e (l ∷ ls) h more =
        subst Kept (append_assoc done (l ∷ []) ls)
        (more (done ++ l ∷ []) ls onward (push_states before g done l e states h.0) h.1 (kept_more before done states g l h.0 (here e) kept))
    go false e todo h more =
        let same : filter is_lot (before ++ g ∷ []) ≡ filter is_lot before = filter-append is_lot before (g ∷ []) ∙ (ap (λ t. filter is_lot before ++ t) (rw e refl) ∙ append-nil (filter is_lot before)) in
        more done todo onward (subst (λ xs. AllZip StatesLot xs done) (sym same) states) h kept

pub is_delivery : (bytes : List ℕ) (lots : List Lot) → IsDeliveryOf bytes lots → IsDelivery lots
is_delivery bytes lots h =
    let kept = walk [] (groups_of h.zones) [] lots (λ rule place b. h.rules rule place (inl b)) tt h.states (record { vecs = tt; safe = tt; lots_apart = none_distinct; files_apart = none_distinct }) in
    record {
      some = λ none. h.rules 711 (length (groups_of h.zones) + 1) (inr (record { rule_is = refl; place_is = refl; lacks = no_lots (groups_of h.zones) (subst (StatesLots (groups_of h.zones)) none h.states) }));
      vecs = kept.vecs;
      safe = kept.safe;
      lots_apart = kept.lots_apart;
      files_apart = kept.files_apart;
    }
