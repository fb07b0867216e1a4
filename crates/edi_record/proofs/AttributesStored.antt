-- Zones that go to the attributes that are kept.
use Rattle.std.proofs.Common.{◌≡◌, ℕ, ◌+◌, Bool, true, false, cond, ◌&&◌, ◌||◌, leb, List, [], ◌∷◌, ◌++◌, map, Option, Some, None, IfSome, is_some, option_to_list, codes, refl, sym, ap, ◌∙◌, subst, arith}
use Rattle.std.specs.List.{list_any}
use Rattle.std.proofs.lemmas.Bool.{or_left, or_right}
use Rattle.std.proofs.lemmas.Bool.Decides.{nat_tests}
use Rattle.std.proofs.lemmas.List.{append-nil}
use Rattle.std.proofs.lemmas.Slice.Eq.{bytes_eq-Decides}
use Rattle.edi_line.specs.ZoneData.{ZoneData, has_code}
use Rattle.edi_line.specs.inner.ZoneLists.{done_of, open_of}
use Rattle.edi_line.proofs.ZoneLists.{all_zones}
use Rattle.edi_line.proofs.Truths.{none_is}
use Rattle.edi_record.specs.inner.Texts.{pointer}
use Rattle.edi_record.specs.Texts.{PointerText}
use Rattle.edi_record.specs.Records.{opens, closes}
use Rattle.edi_record.specs.inner.Records.{set_after, value_after, attributes, zones_placed}
use Rattle.edi_record.specs.inner.RecordRules.{count_until, has_bad_attribute}
use Rattle.edi_record.specs.inner.Stored.{is_stray, set_with, attribute_of, attributes_with, closed_with, repeats_with, StoresAttributes, KeptAttributes}
use Rattle.edi_record.specs.declared.record.Attribute.{Attribute}
use Rattle.edi_record.proofs.AttributesRead.{set_stops, set_found, set_goes_on, set_none, value_stops, value_found, value_goes_on, value_none, attributes_end, attributes_skip, class_read, no_class, one_missing}
use Rattle.edi_record.proofs.Loops.{stray_opens, stray_here, stray_closes, stray_skips, stray_end}
use Rattle.edi_record.proofs.Parts.{bad_class, good_attributes}

abbrev pub ends_set : ZoneData → Bool
ends_set z = opens z || closes z

abbrev sets_left : List ZoneData → ℕ
sets_left zs = count_until ends_set (codes "TEX") zs

-- ---- codes

pub code_is : (z : ZoneData) (code : List ℕ) → has_code code z ≡ true → z.code ≡ code
code_is z code e = (bytes_eq-Decides z.code code).0 e

pub set_only : (z : ZoneData) → has_code (codes "TEX") z ≡ true → (opens z ≡ false) × (closes z ≡ false)
set_only z e = let same = code_is z (codes "TEX") e in (rw same refl, rw same refl)

pub value_only : (z : ZoneData) → closes z ≡ true → (opens z ≡ false) × (has_code (codes "TEX") z ≡ false)
value_only z e = let same = code_is z (codes "ATV") e in (rw same refl, rw same refl)

-- ---- lists

pub some_joined : {X : Type 0} (xs ys : List X) (more : List (Option X)) → map Some xs ++ (map Some ys ++ more) ≡ map Some (xs ++ ys) ++ more
some_joined [] ys more = refl
some_joined (x ∷ xs) ys more = ap (λ t. Some x ∷ t) (some_joined xs ys more)

-- ---- an open attribute that is closed

abbrev pub HasNoValue : Option Attribute → Type 0
HasNoValue o = IfSome o (λ opened. opened.atv ≡ [])

no_value : (o : Option Attribute) → HasNoValue o → option_to_list o ≡ closed_with [] o
no_value None h = refl
no_value (Some a) h = ap (λ v. attribute_of a a.tex v ∷ []) h

-- the list is what comes of it where the open attribute gets no value
pub as_closed : (is_open : Bool) (list : List Attribute) → HasNoValue (open_of is_open list) → list ≡ done_of is_open list ++ closed_with [] (open_of is_open list)
as_closed is_open list h = all_zones is_open list ∙ ap (λ l. done_of is_open list ++ l) (no_value (open_of is_open list) h)

-- where the zones have no character set for it, and this value
closes_open : (zs : List ZoneData) (v : List ℕ) (o : Option Attribute) → None ≡ set_after zs → v ≡ value_after zs → attributes_with o zs ≡ map Some (closed_with v o) ++ attributes zs
closes_open zs v None set value = refl
closes_open zs v (Some a) set value = rw (← value) (by_set a.tex)
  where
    by_set : (s : Option (List ℕ)) → Some (attribute_of a (set_with s zs) v) ∷ attributes zs ≡ Some (attribute_of a s v) ∷ attributes zs
    by_set (Some text) = refl
    by_set None = ap (λ s. Some (attribute_of a s v) ∷ attributes zs) (sym set)

closed_in : (zs group : List ZoneData) (v : List ℕ) (o : Option Attribute) (done new : List Attribute) → None ≡ set_after zs → v ≡ value_after zs → attributes group ≡ map Some done ++ attributes_with o zs
    → new ≡ done ++ closed_with v o → attributes group ≡ map Some new ++ attributes zs
closed_in zs group v o done new set value made pushed =
    made ∙ ap (λ t. map Some done ++ t) (closes_open zs v o set value) ∙ some_joined done (closed_with v o) (attributes zs) ∙ ap (λ t. map Some t ++ attributes zs) (sym pushed)

-- nothing comes of a stretch that ends at once
repeats_over : (zs : List ZoneData) (o : Option Attribute) → sets_left zs ≡ 0 → repeats_with o zs ≡ repeats_with None zs
repeats_over zs None none = refl
repeats_over zs (Some a) none = rw none (by_set (is_some a.tex))
  where
    by_set : (b : Bool) → (leb (cond b 1 2) 0 || repeats_with None zs) ≡ repeats_with None zs
    by_set true = refl
    by_set false = refl

no_sets : (z : ZoneData) (zs : List ZoneData) → ends_set z ≡ true → sets_left (z ∷ zs) ≡ 0
no_sets z zs e = rw e refl

skips_repeat : (z : ZoneData) (zs : List ZoneData) → opens z ≡ false → repeats_with None (z ∷ zs) ≡ repeats_with None zs
skips_repeat z zs e = rw e refl

-- ---- the class of the next attribute

abbrev pub opened_by : PointerText → Attribute
opened_by class = record { atp = record { rty = class.rty; rid = class.rid }; tex = None; atv = [] }

pub class_taken : (old new : KeptAttributes) (class : PointerText) (z : ZoneData) (left group : List ZoneData) (text : List ℕ) → opens z ≡ true → z.value ≡ text → Some class ≡ pointer text
    → new.is_broken ≡ old.is_broken → new.opened ≡ Some (opened_by class) → new.done ≡ old.done ++ closed_with [] old.opened
    → StoresAttributes old (z ∷ left) group → StoresAttributes new left group
class_taken old new class z left group text e same read same_broken opened done h = record {
  broken = λ b. h.broken (sym same_broken ∙ b);
  made = λ b.
      closed_in (z ∷ left) group [] old.opened old.done new.done (set_stops z left (or_left _ _ e)) (value_stops z left e) (h.made (sym same_broken ∙ b)) done
      ∙ ap (λ t. map Some new.done ++ t) (class_read z left text class e (sym same) read)
      ∙ ap (λ o. map Some new.done ++ attributes_with o left) (sym opened);
  stray = λ b. h.stray (sym same_broken ∙ b) ∙ stray_opens (is_some old.opened) z left e ∙ ap (λ o. list_any is_stray (zones_placed (is_some o) left)) (sym opened);
  repeated = λ b.
      h.repeated (sym same_broken ∙ b) ∙ repeats_over (z ∷ left) old.opened (no_sets z left (or_left _ _ e)) ∙ here ∙ ap (λ o. repeats_with o left) (sym opened);
  valueless = subst HasNoValue (sym opened) refl;
}
  where
    here : repeats_with None (z ∷ left) ≡ (leb 2 (sets_left left) || repeats_with None left)
    here = rw e refl

-- whatever was kept, the rule is broken
pub stays_broken : (old new : KeptAttributes) (zs left group : List ZoneData) → new.is_broken ≡ true → HasNoValue new.opened → (old.is_broken ≡ false → has_bad_attribute group ≡ true) → StoresAttributes old zs group → StoresAttributes new left group
stays_broken old new zs left group broken valueless found h = record {
  broken = λ b. by_old old.is_broken refl;
  made = λ b. let wrong : true ≡ false = sym broken ∙ b in absurd (cc);
  stray = λ b. let wrong : true ≡ false = sym broken ∙ b in absurd (cc);
  repeated = λ b. let wrong : true ≡ false = sym broken ∙ b in absurd (cc);
  valueless = valueless;
}
  where
    by_old : (b : Bool) → old.is_broken ≡ b → has_bad_attribute group ≡ true
    by_old true e = h.broken e
    by_old false e = found e

pub no_class_taken : (old new : KeptAttributes) (done : List Attribute) (z : ZoneData) (left group : List ZoneData) (text : List ℕ) → opens z ≡ true → z.value ≡ text → None ≡ pointer text
    → new.is_broken ≡ true → new.opened ≡ old.opened → done ≡ old.done ++ closed_with [] old.opened → StoresAttributes old (z ∷ left) group → StoresAttributes new left group
no_class_taken old new done z left group text e same read broken opened pushed h = stays_broken old new (z ∷ left) left group broken (subst HasNoValue (sym opened) h.valueless) (λ b. bad_class group (one_missing (attributes group) (attributes (z ∷ left)) (attributes left) done
    (closed_in (z ∷ left) group [] old.opened old.done done (set_stops z left (or_left _ _ e)) (value_stops z left e) (h.made b) pushed)
    (no_class z left text e (sym same) read))) h

-- ---- a character set

-- of a zone that no attribute takes
pub attributes_pass : (a : KeptAttributes) (z : ZoneData) (left group : List ZoneData) → opens z ≡ false → closes z ≡ false → (is_some a.opened && has_code (codes "TEX") z) ≡ false → StoresAttributes a (z ∷ left) group → StoresAttributes a left group
attributes_pass a z left group not_class not_value no_set h = record {
  broken = h.broken;
  made = λ b. h.made b ∙ ap (λ t. map Some a.done ++ t) (past a.opened no_set);
  stray = λ b. h.stray b ∙ stray_skips (is_some a.opened) z left not_class not_value;
  repeated = λ b. h.repeated b ∙ past_repeat a.opened no_set;
  valueless = h.valueless;
}
  where
    past_set : (s : Option (List ℕ)) → has_code (codes "TEX") z ≡ false → set_with s (z ∷ left) ≡ set_with s left
    past_set (Some text) t = refl
    past_set None t = sym (set_goes_on z left (rw (not_class, not_value) refl) t)

    past : (o : Option Attribute) → (is_some o && has_code (codes "TEX") z) ≡ false → attributes_with o (z ∷ left) ≡ attributes_with o left
    past None t = attributes_skip z left not_class
    past (Some a) t =
        ap (λ s. Some (attribute_of a s (value_after (z ∷ left))) ∷ attributes (z ∷ left)) (past_set a.tex t)
        ∙ ap (λ v. Some (attribute_of a (set_with a.tex left) v) ∷ attributes (z ∷ left)) (sym (value_goes_on z left not_class not_value))
        ∙ ap (λ t. Some (attribute_of a (set_with a.tex left) (value_after left)) ∷ t) (attributes_skip z left not_class)

    past_repeat : (o : Option Attribute) → (is_some o && has_code (codes "TEX") z) ≡ false → repeats_with o (z ∷ left) ≡ repeats_with o left
    past_repeat None t = skips_repeat z left not_class
    past_repeat (Some a) t = rw (not_class, not_value, t) refl

pub one_more : (n : ℕ) → leb 2 (1 + n) ≡ leb 1 n
one_more n = grind (arith, nat_tests)

sets_more : (z : ZoneData) (left : List ZoneData) → has_code (codes "TEX") z ≡ true → sets_left (z ∷ left) ≡ 1 + sets_left left
sets_more z left e = rw ((set_only z e).0, (set_only z e).1, e) refl

pub set_taken : (old new : KeptAttributes) (o n : Attribute) (z : ZoneData) (left group : List ZoneData) → has_code (codes "TEX") z ≡ true → old.opened ≡ Some o → is_some o.tex ≡ false
    → new.is_broken ≡ old.is_broken → new.done ≡ old.done → new.opened ≡ Some n → n ≡ attribute_of o (Some z.value) o.atv
    → StoresAttributes old (z ∷ left) group → StoresAttributes new left group
set_taken old new o n z left group e was no_set same_broken same_done is made h = record {
  broken = λ b. h.broken (sym same_broken ∙ b);
  made = λ b.
      h.made (sym same_broken ∙ b) ∙ ap (λ t. map Some old.done ++ attributes_with t (z ∷ left)) was ∙ ap (λ t. map Some old.done ++ t) (here ∙ sym there)
      ∙ ap (λ t. map Some t ++ attributes_with (Some n) left) (sym same_done) ∙ ap (λ t. map Some new.done ++ attributes_with t left) (sym is);
  stray = λ b.
      h.stray (sym same_broken ∙ b) ∙ ap (λ t. list_any is_stray (zones_placed (is_some t) (z ∷ left))) was ∙ stray_skips true z left (set_only z e).0 (set_only z e).1
      ∙ ap (λ t. list_any is_stray (zones_placed (is_some t) left)) (sym is);
  repeated = λ b. h.repeated (sym same_broken ∙ b) ∙ ap (λ t. repeats_with t (z ∷ left)) was ∙ once ∙ ap (λ t. repeats_with t left) (sym is);
  valueless = subst HasNoValue (sym is) (ap (λ (a : Attribute). a.atv) made ∙ subst HasNoValue was h.valueless);
}
  where
    here : attributes_with (Some o) (z ∷ left) ≡ Some (attribute_of o (Some z.value) (value_after left)) ∷ attributes left
    here =
        ap (λ s. Some (attribute_of o (set_with s (z ∷ left)) (value_after (z ∷ left))) ∷ attributes (z ∷ left)) (none_is o.tex no_set)
        ∙ rw (← set_found z left (rw ((set_only z e).0, (set_only z e).1) refl) e, ← value_goes_on z left (set_only z e).0 (set_only z e).1, attributes_skip z left (set_only z e).0) refl

    there : attributes_with (Some n) left ≡ Some (attribute_of o (Some z.value) (value_after left)) ∷ attributes left
    there = ap (λ a. attributes_with (Some a) left) made

    once : repeats_with (Some o) (z ∷ left) ≡ repeats_with (Some n) left
    once = rw (made, no_set, sets_more z left e, skips_repeat z left (set_only z e).0, one_more (sets_left left)) refl

-- the second character set of an attribute
pub second_set_taken : (old new : KeptAttributes) (o : Attribute) (z : ZoneData) (left group : List ZoneData) → has_code (codes "TEX") z ≡ true → old.opened ≡ Some o → is_some o.tex ≡ true
    → new.is_broken ≡ true → new.opened ≡ Some o → StoresAttributes old (z ∷ left) group → StoresAttributes new left group
second_set_taken old new o z left group e was set broken opened h = stays_broken old new (z ∷ left) left group broken (subst HasNoValue (was ∙ sym opened) h.valueless) (λ b. or_right _ _ (or_right _ _
    (h.repeated b ∙ ap (λ t. repeats_with t (z ∷ left)) was ∙ or_left _ _ twice))) h
  where
    twice : leb (cond (is_some o.tex) 1 2) (sets_left (z ∷ left)) ≡ true
    twice = rw (set, sets_more z left e) (grind (arith, nat_tests))

-- ---- a value

pub value_taken : (old new : KeptAttributes) (z : ZoneData) (left group : List ZoneData) (text : List ℕ) → closes z ≡ true → z.value ≡ text → is_some old.opened ≡ true
    → new.is_broken ≡ old.is_broken → new.opened ≡ None → new.done ≡ old.done ++ closed_with text old.opened
    → StoresAttributes old (z ∷ left) group → StoresAttributes new left group
value_taken old new z left group text e same was same_broken is done h = record {
  broken = λ b. h.broken (sym same_broken ∙ b);
  made = λ b.
      closed_in (z ∷ left) group text old.opened old.done new.done (set_stops z left (or_right _ _ e)) (sym same ∙ value_found z left (value_only z e).0 e) (h.made (sym same_broken ∙ b)) done
      ∙ ap (λ t. map Some new.done ++ t) (attributes_skip z left (value_only z e).0) ∙ ap (λ t. map Some new.done ++ attributes_with t left) (sym is);
  stray = λ b. h.stray (sym same_broken ∙ b) ∙ stray_closes (is_some old.opened) z left (value_only z e).0 e was ∙ ap (λ t. list_any is_stray (zones_placed (is_some t) left)) (sym is);
  repeated = λ b.
      h.repeated (sym same_broken ∙ b) ∙ repeats_over (z ∷ left) old.opened (no_sets z left (or_right _ _ e)) ∙ skips_repeat z left (value_only z e).0 ∙ ap (λ t. repeats_with t left) (sym is);
  valueless = subst HasNoValue (sym is) tt;
}

pub stray_taken : (old new : KeptAttributes) (z : ZoneData) (left group : List ZoneData) → closes z ≡ true → is_some old.opened ≡ false → new.is_broken ≡ true → new.opened ≡ None → StoresAttributes old (z ∷ left) group → StoresAttributes new left group
stray_taken old new z left group e was broken opened h = stays_broken old new (z ∷ left) left group broken (subst HasNoValue (sym opened) tt) (λ b. or_right _ _ (or_left _ _ (h.stray b ∙ stray_here (is_some old.opened) z left e was))) h

-- ---- all zones have come

pub attributes_come : (a : KeptAttributes) (done : List Attribute) (group : List ZoneData) → a.is_broken ≡ false → done ≡ a.done ++ closed_with [] a.opened → StoresAttributes a [] group → attributes group ≡ map Some done
attributes_come a done group b closed h = closed_in [] group [] a.opened a.done done set_none value_none (h.made b) closed ∙ ap (λ t. map Some done ++ t) attributes_end ∙ append-nil (map Some done)

pub attributes_sound : (a : KeptAttributes) (done : List Attribute) (group : List ZoneData) → a.is_broken ≡ false → done ≡ a.done ++ closed_with [] a.opened → StoresAttributes a [] group → has_bad_attribute group ≡ false
attributes_sound a done group b closed h =
    good_attributes group done (list_any is_stray (zones_placed false group)) (repeats_with None group) (attributes_come a done group b closed h) refl (h.stray b ∙ stray_end (is_some a.opened)) refl (h.repeated b ∙ repeats_over [] a.opened refl)
