-- The rules of one record, as tests and as they are said.
use Rattle.std.proofs.Common.{◌≡◌, ◌⊎◌, inl, inr, ℕ, Bool, true, false, not, ◌||◌, cond, List, [], ◌∷◌, length, filter, Option, Some, None, option_to_list, Any, codes, refl, sym, ap, ◌∙◌, subst, arith}
use Rattle.std.specs.List.{list_any, AllZip, IsDistinct}
use Rattle.std.proofs.lemmas.Bool.{both_ways, leb-true, le-leb, not-true, or_left, or_right}
use Rattle.std.proofs.lemmas.List.Folds.{Any-from_list_any, list_any-from_Any}
use Rattle.edi_line.specs.ZoneData.{ZoneData}
use Rattle.edi_line.specs.Refusal.{BreaksTest}
use Rattle.edi_line.proofs.EachElement.{any_cases, any_here, any_later}
use Rattle.edi_record.specs.Records.{values}
use Rattle.edi_record.specs.RecordRules.{Counts}
use Rattle.edi_record.specs.inner.RecordRules.{counts_right}
use Rattle.edi_record.proofs.Counted.{right_said, right_read}
use Rattle.edi_delivery.specs.NameParts.{is_name_part, is_same_name}
use Rattle.edi_delivery.specs.Lots.{is_lot, StatesLot, StatesLots, files_of}
use Rattle.edi_delivery.specs.DeliveryRules.{file_codes, ShareFile, HasUnsafe, HasSeveral, BreaksLotRule}
use Rattle.edi_delivery.specs.DeliveryRules.BreaksLotRule.{lacks_name, unsafe_name, lacks_scd, lacks_dic, lacks_vecs, wrong_count, several, unsafe_file, same_lot, same_files, shared_file}
use Rattle.edi_delivery.specs.inner.LotTests.{lacks_one, is_unsafe, miscounts, has_unsafe_file, lot_tests}
use Rattle.edi_delivery.specs.inner.Noted.{repeats_name, repeats_file, take_tests}
use Rattle.edi_delivery.specs.declared.lot.Lot.{Lot}
use Rattle.edi_delivery.proofs.SameFiles.{shares, has_twins, file_repeats, no_twins, twins}

by_or : (a b : Bool) (P Q : Type 0) → (a ≡ true → P) → (b ≡ true → Q) → (a || b) ≡ true → P ⊎ Q
by_or true b P Q f g e = inl (f refl)
by_or false b P Q f g e = inr (g e)

-- ---- one zone, and several

one_lacks : (texts : List (List ℕ)) → lacks_one texts ≡ true → (text : List ℕ) → ¬ (texts ≡ text ∷ [])
one_lacks [] e text same = absurd cc
one_lacks (x ∷ []) e text same = let no : false ≡ true = e in absurd cc
one_lacks (x ∷ y ∷ xs) e text same = absurd cc

lacks_test : (texts : List (List ℕ)) → ((text : List ℕ) → ¬ (texts ≡ text ∷ [])) → lacks_one texts ≡ true
lacks_test [] h = refl
lacks_test (x ∷ []) h = absurd (h x refl)
lacks_test (x ∷ y ∷ xs) h = refl

-- ---- names that aren't names

unsafe_said : (texts : List (List ℕ)) → list_any is_unsafe texts ≡ true → Any (λ text. is_name_part text ≡ false) texts
unsafe_said texts e = let a = Any-from_list_any is_unsafe texts e in (a.0, a.1, a.2, a.3, not-true _ a.4)

unsafe_test : (texts : List (List ℕ)) → Any (λ text. is_name_part text ≡ false) texts → list_any is_unsafe texts ≡ true
unsafe_test texts a = list_any-from_Any is_unsafe texts (a.0, a.1, a.2, a.3, ap not a.4)

module _ (before : List (List ZoneData)) (group : List ZoneData) where
  files_said : has_unsafe_file group ≡ true → Any (HasUnsafe before group) file_codes
  files_said e = let a = Any-from_list_any (λ code. list_any is_unsafe (values code group)) file_codes e in (a.0, a.1, a.2, a.3, unsafe_said (values a.1 group) a.4)

  files_test : Any (HasUnsafe before group) file_codes → has_unsafe_file group ≡ true
  files_test a = list_any-from_Any (λ code. list_any is_unsafe (values code group)) file_codes (a.0, a.1, a.2, a.3, unsafe_test (values a.1 group) a.4)

-- ---- counts

miscounts_said : (counts vecs : List (List ℕ)) → miscounts counts vecs ≡ true → (vecs ≡ []) ⊎ (¬ (Counts counts (length vecs)))
miscounts_said counts [] e = inl refl
miscounts_said counts (v ∷ vs) e = inr (λ h. both_ways _ (ap not (right_read counts (length (v ∷ vs)) h)) e)

none_test : (counts vecs : List (List ℕ)) → vecs ≡ [] → miscounts counts vecs ≡ true
none_test counts vecs e = rw e refl

wrong_test : (counts vecs : List (List ℕ)) → ¬ (Counts counts (length vecs)) → miscounts counts vecs ≡ true
wrong_test counts vecs h = or_right _ _ (go (counts_right counts (length vecs)) refl)
  where
    go : (b : Bool) → counts_right counts (length vecs) ≡ b → not b ≡ true
    go true e = absurd (h (right_said counts (length vecs) e))
    go false e = refl

-- ---- earlier lots

pub lot_one : (group : List ZoneData) (l m : Lot) → StatesLot group l → StatesLot group m → l ≡ m
lot_one group l m h k = λ j. record {
  name = heads _ _ (sym h.name ∙ k.name) j;
  scd = heads _ _ (sym h.scd ∙ k.scd) j;
  dic = heads _ _ (sym h.dic ∙ k.dic) j;
  general = lists _ _ (sym h.general ∙ k.general) j;
  geo = lists _ _ (sym h.geo ∙ k.geo) j;
  quality = lists _ _ (sym h.quality ∙ k.quality) j;
  vecs = (sym h.vecs ∙ k.vecs) j;
}
  where
    heads : (x y : List ℕ) → x ∷ [] ≡ y ∷ [] → x ≡ y
    heads x y e = cc

    lists : (x y : Option (List ℕ)) → option_to_list x ≡ option_to_list y → x ≡ y
    lists None None e = refl
    lists None (Some y) e = absurd cc
    lists (Some x) None e = absurd cc
    lists (Some x) (Some y) e = ap (λ t. Some t) (heads x y e)

no_any : {X : Type 0} (P : X → Type 0) → Any P [] → ⊥
no_any P a = omega (arith, a.2)

-- what an earlier record says of its lot
abbrev pub Says : (Lot → Type 0) → List ZoneData → Type 0
Says P g = (lot : Lot) × (is_lot g ≡ true) × StatesLot g lot × P lot

pub lots_from : (P : Lot → Type 0) (groups : List (List ZoneData)) (lots : List Lot) → StatesLots groups lots → Any (Says P) groups → Any P lots
lots_from P [] lots h a = absurd (no_any (Says P) a)
lots_from P (g ∷ gs) lots h a = go (is_lot g) refl lots h (any_cases (Says P) g gs a) (lots_from P gs)
  where
    go : (b : Bool) → is_lot g ≡ b → (lots : List Lot) → AllZip StatesLot (cond b (g ∷ filter is_lot gs) (filter is_lot gs)) lots → Says P g ⊎ Any (Says P) gs
        → ((ls : List Lot) → StatesLots gs ls → Any (Says P) gs → Any P ls) → Any P lots
    go true e [] h a more = absurd h
    go true e (l ∷ ls) h (inl says) more = any_here P l ls (subst P (lot_one g says.0 l says.2 h.0) says.3)
    go true e (l ∷ ls) h (inr a) more = any_later P l ls (more ls h.1 a)
    go false e lots h (inl says) more = absurd (both_ways _ e says.1)
    go false e lots h (inr a) more = more lots h a

pub groups_from : (P : Lot → Type 0) (groups : List (List ZoneData)) (lots : List Lot) → StatesLots groups lots → Any P lots → Any (Says P) groups
groups_from P [] [] h a = absurd (no_any P a)
groups_from P [] (l ∷ ls) h a = absurd h
groups_from P (g ∷ gs) lots h a = go (is_lot g) refl lots h a (groups_from P gs)
  where
    go : (b : Bool) → is_lot g ≡ b → (lots : List Lot) → AllZip StatesLot (cond b (g ∷ filter is_lot gs) (filter is_lot gs)) lots → Any P lots
        → ((ls : List Lot) → StatesLots gs ls → Any P ls → Any (Says P) gs) → Any (Says P) (g ∷ gs)
    go true e [] h a more = absurd (no_any P a)
    go true e (l ∷ ls) h a more = here (any_cases P l ls a)
      where
        here : P l ⊎ Any P ls → Any (Says P) (g ∷ gs)
        here (inl p) = any_here (Says P) g gs (l, e, h.0, p)
        here (inr a) = any_later (Says P) g gs (more ls h.1 a)
    go false e lots h a more = any_later (Says P) g gs (more lots h a)

-- ---- the same names

shares_said : (one other : Lot) → shares one other ≡ true → ShareFile one other
shares_said one other e =
    let a = Any-from_list_any (λ file. list_any (λ again. is_same_name again file) (files_of other)) (files_of one) e in
    (a.0, a.1, a.2, a.3, Any-from_list_any (λ again. is_same_name again a.1) (files_of other) a.4)

shares_test : (one other : Lot) → ShareFile one other → shares one other ≡ true
shares_test one other a =
    list_any-from_Any (λ file. list_any (λ again. is_same_name again file) (files_of other)) (files_of one)
    (a.0, a.1, a.2, a.3, list_any-from_Any (λ again. is_same_name again a.1) (files_of other) a.4)

module _ (before : List (List ZoneData)) (lots : List Lot) (states : StatesLots before lots) (group : List ZoneData) where
  -- ---- what the tests find is a broken rule

  pub lot_rule : (rule : ℕ) → BreaksTest (lot_tests group) rule → BreaksLotRule before group rule
  lot_rule rule (inl h) = lacks_name (sym h.0) (one_lacks (values (codes "LON") group) h.1)
  lot_rule rule (inr (inl h)) = unsafe_name (sym h.0) (unsafe_said (values (codes "LON") group) h.1)
  lot_rule rule (inr (inr (inl h))) = lacks_scd (sym h.0) (one_lacks (values (codes "SCN") group) h.1)
  lot_rule rule (inr (inr (inr (inl h)))) = lacks_dic (sym h.0) (one_lacks (values (codes "DIN") group) h.1)
  lot_rule rule (inr (inr (inr (inr (inl h))))) = wrong (miscounts_said (values (codes "GDC") group) (values (codes "GDN") group) h.1)
    where
      wrong : (values (codes "GDN") group ≡ []) ⊎ (¬ (Counts (values (codes "GDC") group) (length (values (codes "GDN") group)))) → BreaksLotRule before group rule
      wrong (inl e) = lacks_vecs (sym h.0) e
      wrong (inr n) = wrong_count (sym h.0) n
  lot_rule rule (inr (inr (inr (inr (inr (inl h)))))) =
      several (sym h.0) (by_or _ _ (HasSeveral before group (codes "GNN")) (HasSeveral before group (codes "GON") ⊎ HasSeveral before group (codes "QAN")) (leb-true _ _)
      (by_or _ _ (HasSeveral before group (codes "GON")) (HasSeveral before group (codes "QAN")) (leb-true _ _) (leb-true _ _)) h.1)
  lot_rule rule (inr (inr (inr (inr (inr (inr (inl h))))))) = unsafe_file (sym h.0) (files_said before group h.1)
  lot_rule rule (inr (inr (inr (inr (inr (inr (inr h))))))) = absurd h

  pub take_rule : (lot : Lot) → StatesLot group lot → (rule : ℕ) → BreaksTest (take_tests lots lot) rule → BreaksLotRule before group rule
  take_rule lot is rule (inl h) =
      same_lot lot (sym h.0) is (groups_from (λ (earlier : Lot). is_same_name lot.name earlier.name ≡ true) before lots states (Any-from_list_any (λ (earlier : Lot). is_same_name lot.name earlier.name) lots h.1))
  take_rule lot is rule (inr (inl h)) = again (by_or _ _ (list_any (λ (l : Lot). shares l lot) lots ≡ true) (has_twins lot ≡ true) (λ e. e) (λ e. e) (sym (file_repeats lots lot) ∙ h.1))
    where
      again : (list_any (λ (l : Lot). shares l lot) lots ≡ true) ⊎ (has_twins lot ≡ true) → BreaksLotRule before group rule
      again (inl e) =
          let a = Any-from_list_any (λ (l : Lot). shares l lot) lots e in
          shared_file lot (sym h.0) is (groups_from (λ earlier. ShareFile earlier lot) before lots states (a.0, a.1, a.2, a.3, shares_said a.1 lot a.4))
      again (inr e) = same_files lot (sym h.0) is (twins lot e)
  take_rule lot is rule (inr (inr h)) = absurd h

  -- ---- and a broken rule is one that they find

  -- 709 or 710, by the lot that the record states
  pub data Repeats (rule : ℕ) : Type 0 where
    name : (lot : Lot) → rule ≡ 709 → StatesLot group lot → repeats_name lots lot ≡ true → Repeats rule
    file : (lot : Lot) → rule ≡ 710 → StatesLot group lot → repeats_file lots lot ≡ true → Repeats rule

  twins_test : (lot : Lot) → ¬ (IsDistinct is_same_name (files_of lot)) → has_twins lot ≡ true
  twins_test lot h = go (has_twins lot) refl
    where
      go : (b : Bool) → has_twins lot ≡ b → b ≡ true
      go true e = refl
      go false e = absurd (h (no_twins lot e))

  pub test_of : (rule : ℕ) → BreaksLotRule before group rule → BreaksTest (lot_tests group) rule ⊎ Repeats rule
  test_of rule (lacks_name e h) = inl (inl (sym e, lacks_test (values (codes "LON") group) h))
  test_of rule (unsafe_name e h) = inl (inr (inl (sym e, unsafe_test (values (codes "LON") group) h)))
  test_of rule (lacks_scd e h) = inl (inr (inr (inl (sym e, lacks_test (values (codes "SCN") group) h))))
  test_of rule (lacks_dic e h) = inl (inr (inr (inr (inl (sym e, lacks_test (values (codes "DIN") group) h)))))
  test_of rule (lacks_vecs e h) = inl (inr (inr (inr (inr (inl (sym e, none_test (values (codes "GDC") group) (values (codes "GDN") group) h))))))
  test_of rule (wrong_count e h) = inl (inr (inr (inr (inr (inl (sym e, wrong_test (values (codes "GDC") group) (values (codes "GDN") group) h))))))
  test_of rule (several e (inl h)) = inl (inr (inr (inr (inr (inr (inl (sym e, or_left _ _ (le-leb _ _ h))))))))
  test_of rule (several e (inr (inl h))) = inl (inr (inr (inr (inr (inr (inl (sym e, or_right _ _ (or_left _ _ (le-leb _ _ h)))))))))
  test_of rule (several e (inr (inr h))) = inl (inr (inr (inr (inr (inr (inl (sym e, or_right _ _ (or_right _ _ (le-leb _ _ h)))))))))
  test_of rule (unsafe_file e h) = inl (inr (inr (inr (inr (inr (inr (inl (sym e, files_test before group h))))))))
  test_of rule (same_lot lot e is h) =
      inr (name lot e is (list_any-from_Any (λ (earlier : Lot). is_same_name lot.name earlier.name) lots (lots_from (λ (earlier : Lot). is_same_name lot.name earlier.name ≡ true) before lots states h)))
  test_of rule (same_files lot e is h) = inr (file lot e is (file_repeats lots lot ∙ or_right _ _ (twins_test lot h)))
  test_of rule (shared_file lot e is h) =
      let a = lots_from (λ earlier. ShareFile earlier lot) before lots states h in
      inr (file lot e is (file_repeats lots lot ∙ or_left _ _ (list_any-from_Any (λ (l : Lot). shares l lot) lots (a.0, a.1, a.2, a.3, shares_test a.1 lot a.4))))
