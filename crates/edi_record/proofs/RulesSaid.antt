-- The rules of records as sentences, and as the tests that reading makes.
use Rattle.std.proofs.Common.{◌≡◌, ◌≢◌, ◌⊎◌, ◌≤◌, ℕ, ◌+◌, Bool, true, false, ◌&&◌, ◌||◌, not, cond, eqb, ltb, leb, List, [], ◌∷◌, ◌++◌, length, Option, Some, None, is_none, is_some, codes, bytes_eq, refl, sym, ap, ◌∙◌, subst, inl, inr, arith, Any}
use Rattle.std.specs.Prelude.{option_and_then}
use Rattle.std.specs.List.{list_any, before_first}
use Rattle.std.proofs.lemmas.Bool.{both_ways, and_parts, and_from, or_cases, or_left, or_right, or_from, not-true, false_from_ne_true, le-leb, leb-true, lt-ltb, ltb-true, eqb-true, eq-eqb}
use Rattle.std.proofs.lemmas.List.{append_assoc, append-nil}
use Rattle.std.proofs.lemmas.List.Folds.{Any-from_list_any, list_any-from_Any}
use Rattle.std.proofs.lemmas.Slice.Eq.{bytes_eq-Decides}
use Rattle.edi_line.specs.ZoneData.{ZoneData, has_code, first}
use Rattle.edi_line.specs.Refusal.{BreaksTest, IsUnbroken, IsLeastBroken}
use Rattle.edi_record.specs.Records.{values, has_points, is_link, IsSince, opens, closes, points_at, IsExtraAt, States}
use Rattle.edi_record.specs.RecordRefusal.{IsRecordRefusal}
use Rattle.edi_record.specs.RecordRules.{just_one, is_identifier, has_no_identifier, IsOfKind, IsNoPointer, LacksKind, LacksClass, HasBadAttribute, CountsWrong, HasWrongCount, HasBadPoint, HasBadEnd, HasUnknownPointer, BreaksGroupRule, BreaksRecordRule}
use Rattle.edi_record.specs.RecordRules.HasBadAttribute.{no_pointer as no_class_pointer, stray_value, second_set}
use Rattle.edi_record.specs.RecordRules.HasWrongCount.{of_attributes, of_points, of_ends}
use Rattle.edi_record.specs.RecordRules.HasBadPoint.{no_position, of_node, of_arc}
use Rattle.edi_record.specs.RecordRules.HasBadEnd.{no_pointer as no_end_pointer, few as few_ends, stray_sense, second_sense}
use Rattle.edi_record.specs.RecordRules.BreaksGroupRule.{lacks_kind, lacks_identifier, lacks_class, bad_attribute, wrong_count, bad_point, bad_end, unknown_pointer}
use Rattle.edi_record.specs.Texts.{PointerText, IsPosition}
use Rattle.edi_record.specs.inner.RecordRules.{kind_named, kind_in, in_kind, is_node, is_arc_kind, has_no_kind, has_no_class, some_no_pointer, count_until, repeats_code, has_bad_attribute, counts_wrong, has_wrong_count, has_bad_point, is_unknown_pointer, has_unknown_pointer, record_tests, FailsTest}
use Rattle.edi_record.specs.inner.Records.{Placed, zones_placed, is_open_after}
use Rattle.edi_record.specs.inner.Texts.{pointer, point_in}
use Rattle.edi_record.specs.declared.fault.RecordFault.{RecordFault}
use Rattle.edi_record.specs.declared.fault.RecordFault.TheVariants as fault
use Rattle.edi_record.specs.declared.record.Kind.{Kind}
use Rattle.edi_record.specs.declared.record.Kind.TheVariants.{Pno, Par, Pfe, Fea, Lnk}
use Rattle.edi_record.specs.declared.record.Point.{Point}
use Rattle.edi_record.proofs.Counted.{right_said, right_read}
use Rattle.edi_record.proofs.InStretches.{before_yes, before_no}
use Rattle.edi_record.specs.declared.record.Record.{Record}
use Rattle.edi_record.proofs.Passes.{has_kind, has_identifier, has_class}
use Rattle.edi_record.proofs.Parts.{code_named}
use Rattle.edi_record.proofs.StatesSaid.{states_read, Open, SaysOpen, open_none, open_more, extra_test, test_extra}
use Rattle.edi_record.proofs.TextParts.{pointer_is, place_is}
use Rattle.edi_record.proofs.KindCodes.{link_is, kind_again}

-- ---- lists of which some element fails

any_said : {X : Type 0} (p : X → Bool) (P : X → Type 0) → ((x : X) → p x ≡ true → P x) → (xs : List X) → list_any p xs ≡ true → Any P xs
any_said p P to xs e = let a = Any-from_list_any p xs e in (a.0, a.1, a.2, a.3, to a.1 a.4)

any_read : {X : Type 0} (p : X → Bool) (P : X → Type 0) → ((x : X) → P x → p x ≡ true) → (xs : List X) → Any P xs → list_any p xs ≡ true
any_read p P from xs a = list_any-from_Any p xs (a.0, a.1, a.2, a.3, from a.1 a.4)

no_pointer_said : (text : List ℕ) → is_none (pointer text) ≡ true → IsNoPointer text
no_pointer_said text e p h = let f : false ≡ true = sym (ap is_none ((pointer_is text p).1 h)) ∙ e in absurd cc

no_pointer_read : (text : List ℕ) → IsNoPointer text → is_none (pointer text) ≡ true
no_pointer_read text n = go (pointer text) refl
  where
    go : (o : Option PointerText) → pointer text ≡ o → is_none o ≡ true
    go None e = refl
    go (Some p) e = absurd (n p ((pointer_is text p).0 e))

no_place_said : (text : List ℕ) → is_none (point_in text) ≡ true → (p : Point) → ¬ (IsPosition text p)
no_place_said text e p h = let f : false ≡ true = sym (ap is_none ((place_is text p).1 h)) ∙ e in absurd cc

no_place_read : (text : List ℕ) → ((p : Point) → ¬ (IsPosition text p)) → is_none (point_in text) ≡ true
no_place_read text n = go (point_in text) refl
  where
    go : (o : Option Point) → point_in text ≡ o → is_none o ≡ true
    go None e = refl
    go (Some p) e = absurd (n p ((place_is text p).0 e))

-- ---- kinds

pub kind_said : (g : List ZoneData) (kind : Kind) → kind_in g ≡ Some kind → IsOfKind g kind
kind_said g kind e = go (first (values (codes "RTY") g)) refl e
  where
    go : (o : Option (List ℕ)) → first (values (codes "RTY") g) ≡ o → option_and_then kind_named o ≡ Some kind → IsOfKind g kind
    go None q e = absurd cc
    go (Some v) q e = q ∙ ap (λ t. Some t) (code_named v kind e)

pub kind_read : (g : List ZoneData) (kind : Kind) → IsOfKind g kind → kind_in g ≡ Some kind
kind_read g kind h = ap (option_and_then kind_named) h ∙ kind_again kind

in_kind_of : (test : Kind → Bool) (g : List ZoneData) (kind : Kind) → kind_in g ≡ Some kind → in_kind test g ≡ test kind
in_kind_of test g kind k = rw k refl

in_no_kind : (test : Kind → Bool) (g : List ZoneData) → kind_in g ≡ None → in_kind test g ≡ false
in_no_kind test g k = rw k refl

in_kind_said : (test : Kind → Bool) (g : List ZoneData) → in_kind test g ≡ true → (kind : Kind) × IsOfKind g kind × (test kind ≡ true)
in_kind_said test g e = go (kind_in g) refl
  where
    go : (o : Option Kind) → kind_in g ≡ o → (kind : Kind) × IsOfKind g kind × (test kind ≡ true)
    go None k = let f : false ≡ true = sym (in_no_kind test g k) ∙ e in absurd cc
    go (Some kind) k = (kind, kind_said g kind k, sym (in_kind_of test g kind k) ∙ e)

in_kind_read : (test : Kind → Bool) (g : List ZoneData) (kind : Kind) → IsOfKind g kind → test kind ≡ true → in_kind test g ≡ true
in_kind_read test g kind h t = in_kind_of test g kind (kind_read g kind h) ∙ t

node_kind : (kind : Kind) → is_node kind ≡ true → kind ≡ Pno
node_kind Pno e = refl
node_kind Par e = absurd cc
node_kind Pfe e = absurd cc
node_kind Fea e = absurd cc
node_kind Lnk e = absurd cc

arc_kind : (kind : Kind) → is_arc_kind kind ≡ true → kind ≡ Par
arc_kind Par e = refl
arc_kind Pno e = absurd cc
arc_kind Pfe e = absurd cc
arc_kind Fea e = absurd cc
arc_kind Lnk e = absurd cc

node_said : (g : List ZoneData) → in_kind is_node g ≡ true → IsOfKind g Pno
node_said g e = let k = in_kind_said is_node g e in subst (IsOfKind g) (node_kind k.0 k.2) k.1

arc_said : (g : List ZoneData) → in_kind is_arc_kind g ≡ true → IsOfKind g Par
arc_said g e = let k = in_kind_said is_arc_kind g e in subst (IsOfKind g) (arc_kind k.0 k.2) k.1

link_said : (g : List ZoneData) → in_kind is_link g ≡ true → IsOfKind g Lnk
link_said g e = let k = in_kind_said is_link g e in subst (IsOfKind g) (link_is k.0 k.2) k.1

-- ---- 201 and 203

said_201 : (g : List ZoneData) → has_no_kind g ≡ true → LacksKind g
said_201 g e kind h = let f : false ≡ true = sym (ap is_none (kind_read g kind h)) ∙ e in absurd cc

read_201 : (g : List ZoneData) → LacksKind g → has_no_kind g ≡ true
read_201 g lacks = go (kind_in g) refl
  where
    go : (o : Option Kind) → kind_in g ≡ o → is_none o ≡ true
    go None k = refl
    go (Some kind) k = absurd (lacks kind (kind_said g kind k))

abbrev is_pointer_text : List ℕ → Bool
is_pointer_text text = is_some (pointer text)

said_203 : (g : List ZoneData) → has_no_class g ≡ true → LacksClass g
said_203 g e text one p h =
    let found : has_no_class g ≡ false = ap (λ vs. not (just_one is_pointer_text vs)) one ∙ ap (λ o. not (is_some o)) ((pointer_is text p).1 h) in
    both_ways _ found e

read_203 : (g : List ZoneData) → LacksClass g → has_no_class g ≡ true
read_203 g lacks = go (values (codes "SCP") g) refl
  where
    by : (text : List ℕ) → values (codes "SCP") g ≡ text ∷ [] → (o : Option PointerText) → pointer text ≡ o → not (is_some o) ≡ true
    by text q None e = refl
    by text q (Some p) e = absurd (lacks text q p ((pointer_is text p).0 e))

    go : (vs : List (List ℕ)) → values (codes "SCP") g ≡ vs → not (just_one is_pointer_text vs) ≡ true
    go [] q = refl
    go (text ∷ []) q = by text q (pointer text) refl
    go (text ∷ other ∷ vs) q = refl

-- ---- zones, with whether an attribute is open in front of them

module _ (test : Placed → Bool) (T : List ZoneData → ZoneData → Type 0) where
  abbrev Finds : List ZoneData → Type 0
  Finds whole = (front : List ZoneData) × (z : ZoneData) × (behind : List ZoneData) × (whole ≡ front ++ z ∷ behind) × T front z

  abbrev at_zone : Bool → ZoneData → Bool
  at_zone b z = test (record { open_before = b; zone = z })

  any_here : (b : Bool) (z : ZoneData) (zs : List ZoneData) → at_zone b z ≡ true → list_any test (zones_placed b (z ∷ zs)) ≡ true
  unfolding zones_placed
  any_here b z zs e = or_left _ _ e

  any_later : (b : Bool) (z : ZoneData) (zs : List ZoneData) → list_any test (zones_placed (is_open_after b z) zs) ≡ true → list_any test (zones_placed b (z ∷ zs)) ≡ true
  unfolding zones_placed
  any_later b z zs e = or_right _ _ e

  any_split : (b : Bool) (z : ZoneData) (zs : List ZoneData) → list_any test (zones_placed b (z ∷ zs)) ≡ true → (at_zone b z ≡ true) ⊎ (list_any test (zones_placed (is_open_after b z) zs) ≡ true)
  unfolding zones_placed
  any_split b z zs e = or_cases _ _ e

  any_none : (b : Bool) → list_any test (zones_placed b []) ≡ true → ⊥
  unfolding zones_placed
  any_none b e = let f : false ≡ true = e in cc

  placed_said : ((b : Bool) (front : List ZoneData) (z : ZoneData) → SaysOpen b front → at_zone b z ≡ true → T front z)
      → (whole : List ZoneData) (b : Bool) (front zs : List ZoneData) → whole ≡ front ++ zs → SaysOpen b front → list_any test (zones_placed b zs) ≡ true → Finds whole
  placed_said to whole b front [] cut says e = absurd (any_none b e)
  placed_said to whole b front (z ∷ zs) cut says e =
      go (λ h. placed_said to whole (is_open_after b z) (front ++ z ∷ []) zs (cut ∙ sym (append_assoc front (z ∷ []) zs)) (open_more b front z says) h) (any_split b z zs e)
    where
      go : (list_any test (zones_placed (is_open_after b z) zs) ≡ true → Finds whole) → (at_zone b z ≡ true) ⊎ (list_any test (zones_placed (is_open_after b z) zs) ≡ true) → Finds whole
      go more (inl h) = (front, z, zs, cut, to b front z says h)
      go more (inr h) = more h

  placed_read : ((b : Bool) (front : List ZoneData) (z : ZoneData) → SaysOpen b front → T front z → at_zone b z ≡ true)
      → (b : Bool) (front before : List ZoneData) (z : ZoneData) (behind : List ZoneData) → SaysOpen b front → T (front ++ before) z → list_any test (zones_placed b (before ++ z ∷ behind)) ≡ true
  placed_read from b front [] z behind says t = any_here b z behind (from b front z says (subst (λ f. T f z) (append-nil front) t))
  placed_read from b front (x ∷ before) z behind says t =
      any_later b x (before ++ z ∷ behind)
      (placed_read from (is_open_after b x) (front ++ x ∷ []) before z behind (open_more b front x says) (subst (λ f. T f z) (sym (append_assoc front (x ∷ []) before)) t))

-- ---- a code that comes twice in one stretch

abbrev InStretch : (ZoneData → Bool) → List ℕ → List ZoneData → Type 0
InStretch ends code zs = (since : List ZoneData) × (z : ZoneData) × (behind : List ZoneData) × (zs ≡ since ++ z ∷ behind) × (has_code code z ≡ true) × (list_any ends since ≡ false)

abbrev TwiceIn : (ZoneData → Bool) → List ℕ → List ZoneData → Type 0
TwiceIn ends code zs =
    (since : List ZoneData) × (z : ZoneData) × (behind : List ZoneData) × (zs ≡ since ++ z ∷ behind) × (has_code code z ≡ true) × (list_any ends since ≡ false) × (list_any (has_code code) since ≡ true)

one_in : (ends : ZoneData → Bool) (code : List ℕ) (zs : List ZoneData) → 1 ≤ count_until ends code zs → InStretch ends code zs
one_in ends code [] some = absurd (omega (arith, some))
one_in ends code (x ∷ zs) some = go (ends x) refl (has_code code x) refl some (λ h. one_in ends code zs h)
  where
    go : (e : Bool) → ends x ≡ e → (c : Bool) → has_code code x ≡ c → 1 ≤ cond e 0 (cond c (1 + count_until ends code zs) (count_until ends code zs)) → (1 ≤ count_until ends code zs → InStretch ends code zs)
        → InStretch ends code (x ∷ zs)
    go true p c q some more = absurd (omega (arith, some))
    go false p true q some more = ([], x, zs, refl, q, refl)
    go false p false q some more = let h = more some in (x ∷ h.0, h.1, h.2, ap (λ l. x ∷ l) h.3, h.4, rw (p, h.5) refl)

two_in : (ends : ZoneData → Bool) (code : List ℕ) (zs : List ZoneData) → 2 ≤ count_until ends code zs → TwiceIn ends code zs
two_in ends code [] some = absurd (omega (arith, some))
two_in ends code (x ∷ zs) some = go (ends x) refl (has_code code x) refl some (λ h. two_in ends code zs h)
  where
    go : (e : Bool) → ends x ≡ e → (c : Bool) → has_code code x ≡ c → 2 ≤ cond e 0 (cond c (1 + count_until ends code zs) (count_until ends code zs)) → (2 ≤ count_until ends code zs → TwiceIn ends code zs)
        → TwiceIn ends code (x ∷ zs)
    go true p c q some more = absurd (omega (arith, some))
    go false p true q some more = let h = one_in ends code zs (omega (arith, some)) in (x ∷ h.0, h.1, h.2, ap (λ l. x ∷ l) h.3, h.4, rw (p, h.5) refl, or_left _ _ q)
    go false p false q some more = let h = more some in (x ∷ h.0, h.1, h.2, ap (λ l. x ∷ l) h.3, h.4, rw (p, h.5) refl, or_right _ _ h.6)

count_one : (ends : ZoneData → Bool) (code : List ℕ) (since : List ZoneData) (z : ZoneData) (behind : List ZoneData) → list_any ends since ≡ false → has_code code z ≡ true → ends z ≡ false
    → 1 ≤ count_until ends code (since ++ z ∷ behind)
count_one ends code [] z behind none is apart = rw (apart, is) (omega arith)
count_one ends code (x ∷ since) z behind none is apart = go (ends x) refl (has_code code x) refl (list_any ends since) refl none (λ h. count_one ends code since z behind h is apart)
  where
    n : ℕ
    n = count_until ends code (since ++ z ∷ behind)

    go : (e : Bool) → ends x ≡ e → (c : Bool) → has_code code x ≡ c → (o : Bool) → list_any ends since ≡ o → (e || o) ≡ false → (list_any ends since ≡ false → 1 ≤ n) → 1 ≤ cond e 0 (cond c (1 + n) n)
    go true p c q o r none more = absurd cc
    go false p true q o r none more = omega arith
    go false p false q o r none more = more (r ∙ none)

count_two : (ends : ZoneData → Bool) (code : List ℕ) (since : List ZoneData) (z : ZoneData) (behind : List ZoneData) → list_any ends since ≡ false → list_any (has_code code) since ≡ true → has_code code z ≡ true → ends z ≡ false
    → 2 ≤ count_until ends code (since ++ z ∷ behind)
count_two ends code [] z behind none some is apart = let f : false ≡ true = some in absurd cc
count_two ends code (x ∷ since) z behind none some is apart =
    go (ends x) refl (has_code code x) refl (list_any ends since) refl none some
    (λ h. count_one ends code since z behind h is apart) (λ h k. count_two ends code since z behind h k is apart)
  where
    n : ℕ
    n = count_until ends code (since ++ z ∷ behind)

    go : (e : Bool) → ends x ≡ e → (c : Bool) → has_code code x ≡ c → (o : Bool) → list_any ends since ≡ o → (e || o) ≡ false → (c || list_any (has_code code) since) ≡ true
        → (list_any ends since ≡ false → 1 ≤ n) → (list_any ends since ≡ false → list_any (has_code code) since ≡ true → 2 ≤ n) → 2 ≤ cond e 0 (cond c (1 + n) n)
    go true p c q o r none some one two = absurd cc
    go false p true q o r none some one two = omega (arith, one (r ∙ none))
    go false p false q o r none some one two = two (r ∙ none) some

-- where the code comes twice behind one zone that begins a stretch
abbrev ComesTwice : (ZoneData → Bool) → (ZoneData → Bool) → List ℕ → List ZoneData → Type 0
ComesTwice begins ends code whole =
    (front since : List ZoneData) × (z : ZoneData) × (behind : List ZoneData) × (whole ≡ front ++ z ∷ behind) × (has_code code z ≡ true) × IsSince begins ends front since × (list_any (has_code code) since ≡ true)

repeats_said : (begins ends : ZoneData → Bool) (code : List ℕ) (whole before zs : List ZoneData) → whole ≡ before ++ zs → repeats_code begins ends code zs ≡ true → ComesTwice begins ends code whole
repeats_said begins ends code whole before [] cut e = let f : false ≡ true = e in absurd cc
repeats_said begins ends code whole before (x ∷ zs) cut e =
    go (or_cases _ _ e) (λ h. repeats_said begins ends code whole (before ++ x ∷ []) zs (cut ∙ sym (append_assoc before (x ∷ []) zs)) h)
  where
    go : ((begins x && leb 2 (count_until ends code zs)) ≡ true) ⊎ (repeats_code begins ends code zs ≡ true) → (repeats_code begins ends code zs ≡ true → ComesTwice begins ends code whole) → ComesTwice begins ends code whole
    go (inl h) more =
        let p = and_parts _ _ h in
        let t = two_in ends code zs (leb-true 2 _ p.1) in
        let since = t.0 in (
          before ++ x ∷ since,
          since,
          t.1,
          t.2,
          cut ∙ ap (λ l. before ++ x ∷ l) t.3 ∙ sym (append_assoc before (x ∷ since) (t.1 ∷ t.2)),
          t.4,
          record { before = before; head = x; cut = refl; begun = p.0; goes_on = t.5 },
          t.6,
        )
    go (inr h) more = more h

repeats_read : (begins ends : ZoneData → Bool) (code : List ℕ) (before : List ZoneData) (head : ZoneData) (since : List ZoneData) (z : ZoneData) (behind : List ZoneData)
    → begins head ≡ true → list_any ends since ≡ false → list_any (has_code code) since ≡ true → has_code code z ≡ true → ends z ≡ false → repeats_code begins ends code (before ++ head ∷ (since ++ z ∷ behind)) ≡ true
repeats_read begins ends code [] head since z behind b none some is apart =
    or_left _ _ (and_from _ _ b (le-leb 2 (count_until ends code (since ++ z ∷ behind)) (count_two ends code since z behind none some is apart)))
repeats_read begins ends code (x ∷ before) head since z behind b none some is apart = or_right _ _ (repeats_read begins ends code before head since z behind b none some is apart)

twice_read : (begins ends : ZoneData → Bool) (code : List ℕ) (whole front since : List ZoneData) (z : ZoneData) (behind : List ZoneData) → whole ≡ front ++ z ∷ behind → has_code code z ≡ true → ends z ≡ false
    → IsSince begins ends front since → list_any (has_code code) since ≡ true → repeats_code begins ends code whole ≡ true
twice_read begins ends code whole front since z behind cut is apart s some =
    ap (repeats_code begins ends code) (cut ∙ ap (λ l. l ++ z ∷ behind) s.cut ∙ append_assoc s.before (s.head ∷ since) (z ∷ behind))
    ∙ repeats_read begins ends code s.before s.head since z behind s.begun s.goes_on some is apart

-- ---- 204

-- a zone has one code
code_apart : (a b : List ℕ) (z : ZoneData) → bytes_eq a b ≡ false → has_code a z ≡ true → has_code b z ≡ false
code_apart a b z apart is = ap (λ c. bytes_eq c b) ((bytes_eq-Decides z.code a).0 is) ∙ apart

abbrev is_stray_value : Placed → Bool
is_stray_value p = closes p.zone && not p.open_before

abbrev StrayValue : List ZoneData → ZoneData → Type 0
StrayValue front z = (closes z ≡ true) × ¬ (Open front)

stray_said : (b : Bool) (front : List ZoneData) (z : ZoneData) → SaysOpen b front → (closes z && not b) ≡ true → StrayValue front z
stray_said b front z says e = let p = and_parts _ _ e in (p.0, λ h. both_ways _ (not-true _ p.1) (says.1 h))

stray_read : (b : Bool) (front : List ZoneData) (z : ZoneData) → SaysOpen b front → StrayValue front z → (closes z && not b) ≡ true
stray_read b front z says h = and_from _ _ h.0 (ap not (false_from_ne_true b (λ e. h.1 (says.0 e))))

said_204 : (g : List ZoneData) → has_bad_attribute g ≡ true → HasBadAttribute g
said_204 g e = go (or_cases _ _ e)
  where
    behind_first : (list_any is_stray_value (zones_placed false g) ≡ true) ⊎ (repeats_code opens (λ z. opens z || closes z) (codes "TEX") g ≡ true) → HasBadAttribute g
    behind_first (inl h) =
        let f = placed_said is_stray_value StrayValue stray_said g false [] g refl open_none h in
        stray_value f.0 f.1 (f.2, f.3) f.4.0 (λ since o. f.4.1 (since, o))
    behind_first (inr h) =
        let f = repeats_said opens (λ z. opens z || closes z) (codes "TEX") g [] g refl h in
        second_set f.0 f.1 f.2 (f.3, f.4) f.5 f.6 f.7

    go : (some_no_pointer (values (codes "ATP") g) ≡ true) ⊎ ((list_any is_stray_value (zones_placed false g) || repeats_code opens (λ z. opens z || closes z) (codes "TEX") g) ≡ true) → HasBadAttribute g
    go (inl h) = no_class_pointer (any_said (λ text. is_none (pointer text)) IsNoPointer no_pointer_said (values (codes "ATP") g) h)
    go (inr h) = behind_first (or_cases _ _ h)

read_204 : (g : List ZoneData) → HasBadAttribute g → has_bad_attribute g ≡ true
read_204 g (no_class_pointer h) = or_left _ _ (any_read (λ text. is_none (pointer text)) IsNoPointer no_pointer_read (values (codes "ATP") g) h)
read_204 g (stray_value front z at is none) =
    or_right _ _ (or_left _ _ (ap (λ l. list_any is_stray_value (zones_placed false l)) at.1
    ∙ placed_read is_stray_value StrayValue stray_read false [] front z at.0 open_none (is, λ h. none h.0 h.1)))
read_204 g (second_set front since z at is opened some) =
    let apart : (opens z || closes z) ≡ false = or_from _ _ (code_apart (codes "TEX") (codes "ATP") z refl is) (code_apart (codes "TEX") (codes "ATV") z refl is) in
    or_right _ _ (or_right _ _ (twice_read opens (λ z. opens z || closes z) (codes "TEX") g front since z at.0 at.1 is apart opened some))

-- ---- 205

wrong_said : (g : List ZoneData) (a b : List ℕ) → counts_wrong a b g ≡ true → CountsWrong g a b
wrong_said g a b e h = both_ways _ (ap not (right_read (values a g) (length (values b g)) h)) e

wrong_read : (g : List ZoneData) (a b : List ℕ) → CountsWrong g a b → counts_wrong a b g ≡ true
wrong_read g a b w = ap not (false_from_ne_true _ (λ e. w (right_said (values a g) (length (values b g)) e)))

said_205 : (g : List ZoneData) → has_wrong_count g ≡ true → HasWrongCount g
said_205 g e = go (or_cases _ _ e)
  where
    behind_first : ((in_kind is_arc_kind g && counts_wrong (codes "PTC") (codes "COR") g) ≡ true) ⊎ ((in_kind is_link g && counts_wrong (codes "FTC") (codes "FTP") g) ≡ true) → HasWrongCount g
    behind_first (inl h) = let p = and_parts _ _ h in of_points (arc_said g p.0) (wrong_said g (codes "PTC") (codes "COR") p.1)
    behind_first (inr h) = let p = and_parts _ _ h in of_ends (link_said g p.0) (wrong_said g (codes "FTC") (codes "FTP") p.1)

    go : (counts_wrong (codes "ATC") (codes "ATP") g ≡ true)
        ⊎ (((in_kind is_arc_kind g && counts_wrong (codes "PTC") (codes "COR") g) || (in_kind is_link g && counts_wrong (codes "FTC") (codes "FTP") g)) ≡ true) → HasWrongCount g
    go (inl h) = of_attributes (wrong_said g (codes "ATC") (codes "ATP") h)
    go (inr h) = behind_first (or_cases _ _ h)

read_205 : (g : List ZoneData) → HasWrongCount g → has_wrong_count g ≡ true
read_205 g (of_attributes h) = or_left _ _ (wrong_read g (codes "ATC") (codes "ATP") h)
read_205 g (of_points k h) = or_right _ _ (or_left _ _ (and_from _ _ (in_kind_read is_arc_kind g Par k refl) (wrong_read g (codes "PTC") (codes "COR") h)))
read_205 g (of_ends k h) = or_right _ _ (or_right _ _ (and_from _ _ (in_kind_read is_link g Lnk k refl) (wrong_read g (codes "FTC") (codes "FTP") h)))

-- ---- 206

said_206 : (g : List ZoneData) → has_bad_point g ≡ true → HasBadPoint g
said_206 g e = go (or_cases _ _ e)
  where
    behind_first : ((in_kind is_node g && not (eqb (length (values (codes "COR") g)) 1)) ≡ true) ⊎ ((in_kind is_arc_kind g && ltb (length (values (codes "COR") g)) 2) ≡ true) → HasBadPoint g
    behind_first (inl h) = let p = and_parts _ _ h in of_node (node_said g p.0) (λ one. both_ways _ (not-true _ p.1) (eq-eqb _ _ one))
    behind_first (inr h) = let p = and_parts _ _ h in of_arc (arc_said g p.0) (ltb-true _ _ p.1)

    go : ((in_kind has_points g && list_any (λ text. is_none (point_in text)) (values (codes "COR") g)) ≡ true)
        ⊎ (((in_kind is_node g && not (eqb (length (values (codes "COR") g)) 1)) || (in_kind is_arc_kind g && ltb (length (values (codes "COR") g)) 2)) ≡ true) → HasBadPoint g
    go (inl h) =
        let p = and_parts _ _ h in
        let k = in_kind_said has_points g p.0 in
        no_position k.0 k.1 k.2 (any_said (λ text. is_none (point_in text)) (λ text. (p : Point) → ¬ (IsPosition text p)) no_place_said (values (codes "COR") g) p.1)
    go (inr h) = behind_first (or_cases _ _ h)

read_206 : (g : List ZoneData) → HasBadPoint g → has_bad_point g ≡ true
read_206 g (no_position kind k has h) =
    or_left _ _ (and_from _ _ (in_kind_read has_points g kind k has) (any_read (λ text. is_none (point_in text)) (λ text. (p : Point) → ¬ (IsPosition text p)) no_place_read (values (codes "COR") g) h))
read_206 g (of_node k other) =
    or_right _ _ (or_left _ _ (and_from _ _ (in_kind_read is_node g Pno k refl) (ap not (false_from_ne_true _ (λ e. other (eqb-true (length (values (codes "COR") g)) 1 e))))))
read_206 g (of_arc k few) = or_right _ _ (or_right _ _ (and_from _ _ (in_kind_read is_arc_kind g Par k refl) (lt-ltb (length (values (codes "COR") g)) 2 few)))

-- ---- 207

abbrev FindsFirst : (ZoneData → Bool) → (ZoneData → Bool) → List ZoneData → Type 0
FindsFirst p q zs = (front : List ZoneData) × (z : ZoneData) × (behind : List ZoneData) × (zs ≡ front ++ z ∷ behind) × (p z ≡ true) × (list_any q front ≡ false)

first_said : (p q : ZoneData → Bool) (zs : List ZoneData) → list_any p (before_first q zs) ≡ true → FindsFirst p q zs
first_said p q [] e = let f : false ≡ true = e in absurd cc
first_said p q (x ∷ zs) e = go (q x) refl (λ h. first_said p q zs h)
  where
    along : (p x ≡ true) ⊎ (list_any p (before_first q zs) ≡ true) → q x ≡ false → (list_any p (before_first q zs) ≡ true → FindsFirst p q zs) → FindsFirst p q (x ∷ zs)
    along (inl h) apart more = ([], x, zs, refl, h, refl)
    along (inr h) apart more = let f = more h in (x ∷ f.0, f.1, f.2, ap (λ l. x ∷ l) f.3, f.4, rw (apart, f.5) refl)

    go : (b : Bool) → q x ≡ b → (list_any p (before_first q zs) ≡ true → FindsFirst p q zs) → FindsFirst p q (x ∷ zs)
    go true t more = let f : false ≡ true = sym (ap (list_any p) (before_yes q x zs t)) ∙ e in absurd cc
    go false t more = along (or_cases _ _ (sym (ap (list_any p) (before_no q x zs t)) ∙ e)) t more

first_read : (p q : ZoneData → Bool) (front : List ZoneData) (z : ZoneData) (behind : List ZoneData) → p z ≡ true → q z ≡ false → list_any q front ≡ false → list_any p (before_first q (front ++ z ∷ behind)) ≡ true
first_read p q [] z behind is apart none = ap (list_any p) (before_no q z behind apart) ∙ or_left _ _ is
first_read p q (x ∷ front) z behind is apart none = go (q x) refl (list_any q front) refl none (λ h. first_read p q front z behind is apart h)
  where
    go : (a : Bool) → q x ≡ a → (b : Bool) → list_any q front ≡ b → (a || b) ≡ false → (list_any q front ≡ false → list_any p (before_first q (front ++ z ∷ behind)) ≡ true)
        → list_any p (before_first q (x ∷ (front ++ z ∷ behind))) ≡ true
    go true s b t none more = absurd cc
    go false s b t none more = ap (list_any p) (before_no q x (front ++ z ∷ behind) s) ∙ or_right _ _ (more (t ∙ none))

abbrev bad_ends : List ZoneData → Bool
bad_ends g = some_no_pointer (values (codes "FTP") g)
    || (ltb (length (values (codes "FTP") g)) 2
    || (list_any (has_code (codes "SNS")) (before_first points_at g)
    || repeats_code points_at points_at (codes "SNS") g))

said_207 : (g : List ZoneData) → bad_ends g ≡ true → HasBadEnd g
said_207 g e = go (or_cases _ _ e)
  where
    third : (list_any (has_code (codes "SNS")) (before_first points_at g) ≡ true) ⊎ (repeats_code points_at points_at (codes "SNS") g ≡ true) → HasBadEnd g
    third (inl h) = let f = first_said (has_code (codes "SNS")) points_at g h in stray_sense f.0 f.1 (f.2, f.3) f.4 f.5
    third (inr h) = let f = repeats_said points_at points_at (codes "SNS") g [] g refl h in second_sense f.0 f.1 f.2 (f.3, f.4) f.5 f.6 f.7

    second : (ltb (length (values (codes "FTP") g)) 2 ≡ true) ⊎ ((list_any (has_code (codes "SNS")) (before_first points_at g) || repeats_code points_at points_at (codes "SNS") g) ≡ true) → HasBadEnd g
    second (inl h) = few_ends (ltb-true _ _ h)
    second (inr h) = third (or_cases _ _ h)

    go : (some_no_pointer (values (codes "FTP") g) ≡ true)
        ⊎ ((ltb (length (values (codes "FTP") g)) 2 || (list_any (has_code (codes "SNS")) (before_first points_at g) || repeats_code points_at points_at (codes "SNS") g)) ≡ true) → HasBadEnd g
    go (inl h) = no_end_pointer (any_said (λ text. is_none (pointer text)) IsNoPointer no_pointer_said (values (codes "FTP") g) h)
    go (inr h) = second (or_cases _ _ h)

read_207 : (g : List ZoneData) → HasBadEnd g → bad_ends g ≡ true
read_207 g (no_end_pointer h) = or_left _ _ (any_read (λ text. is_none (pointer text)) IsNoPointer no_pointer_read (values (codes "FTP") g) h)
read_207 g (few_ends h) = or_right _ _ (or_left _ _ (lt-ltb (length (values (codes "FTP") g)) 2 h))
read_207 g (stray_sense front z at is none) =
    or_right _ _ (or_right _ _ (or_left _ _ (ap (λ l. list_any (has_code (codes "SNS")) (before_first points_at l)) at.1
    ∙ first_read (has_code (codes "SNS")) points_at front z at.0 is (code_apart (codes "SNS") (codes "FTP") z refl is) none)))
read_207 g (second_sense front since z at is s some) =
    or_right (some_no_pointer (values (codes "FTP") g)) _ (or_right (ltb (length (values (codes "FTP") g)) 2) _ (or_right (list_any (has_code (codes "SNS")) (before_first points_at g)) _ (twice_read points_at points_at (codes "SNS") g front since z at.0 at.1 is (code_apart (codes "SNS") (codes "FTP") z refl is) s some)))

-- ---- 208

abbrev UnknownPointer : Kind → List ZoneData → ZoneData → Type 0
UnknownPointer kind front z = IsExtraAt kind front z × (z.format ≡ 80) × (z.value ≢ [])

some_value : (v : List ℕ) → ltb 0 (length v) ≡ true → v ≢ []
some_value v e none = let f : false ≡ true = sym (ap (λ t. ltb 0 (length t)) none) ∙ e in cc

value_some : (v : List ℕ) → v ≢ [] → ltb 0 (length v) ≡ true
value_some [] other = absurd (other refl)
value_some (x ∷ v) other = lt-ltb 0 (length (x ∷ v)) (omega arith)

unknown_said : (kind : Kind) (b : Bool) (front : List ZoneData) (z : ZoneData) → SaysOpen b front → is_unknown_pointer kind (record { open_before = b; zone = z }) ≡ true → UnknownPointer kind front z
unknown_said kind b front z says e =
    let p = and_parts _ _ e in
    let q = and_parts _ _ p.1 in
    (extra_test kind b front z says p.0, eqb-true z.format 80 q.0, some_value z.value q.1)

unknown_read : (kind : Kind) (b : Bool) (front : List ZoneData) (z : ZoneData) → SaysOpen b front → UnknownPointer kind front z → is_unknown_pointer kind (record { open_before = b; zone = z }) ≡ true
unknown_read kind b front z says h = and_from _ _ (test_extra kind b front z says h.0) (and_from _ _ (eq-eqb z.format 80 h.1) (value_some z.value h.2))

said_208 : (g : List ZoneData) → has_unknown_pointer g ≡ true → HasUnknownPointer g
said_208 g e =
    let k = in_kind_said (λ kind. list_any (is_unknown_pointer kind) (zones_placed false g)) g e in
    let f = placed_said (is_unknown_pointer k.0) (UnknownPointer k.0) (unknown_said k.0) g false [] g refl open_none k.2 in
    record { kind = k.0; is_kind = k.1; front = f.0; zone = f.1; is_in = (f.2, f.3); extra = f.4.0; format = f.4.1; some = f.4.2 }

read_208 : (g : List ZoneData) → HasUnknownPointer g → has_unknown_pointer g ≡ true
read_208 g h =
    in_kind_read (λ kind. list_any (is_unknown_pointer kind) (zones_placed false g)) g h.kind h.is_kind
    (ap (λ l. list_any (is_unknown_pointer h.kind) (zones_placed false l)) h.is_in.1
    ∙ placed_read (is_unknown_pointer h.kind) (UnknownPointer h.kind) (unknown_read h.kind) false [] h.front h.zone h.is_in.0 open_none (h.extra, h.format, h.some))

-- ---- all rules of a group

pub rule_said : (g : List ZoneData) (rule : ℕ) → BreaksTest (record_tests g) rule → BreaksGroupRule g rule
rule_said g rule (inl h) = lacks_kind (sym h.0) (said_201 g h.1)
rule_said g rule (inr (inl h)) = lacks_identifier (sym h.0) h.1
rule_said g rule (inr (inr (inl h))) = lacks_class (sym h.0) (said_203 g h.1)
rule_said g rule (inr (inr (inr (inl h)))) = bad_attribute (sym h.0) (said_204 g h.1)
rule_said g rule (inr (inr (inr (inr (inl h))))) = wrong_count (sym h.0) (said_205 g h.1)
rule_said g rule (inr (inr (inr (inr (inr (inl h)))))) = bad_point (sym h.0) (said_206 g h.1)
rule_said g rule (inr (inr (inr (inr (inr (inr (inl h))))))) = let p = and_parts _ _ h.1 in bad_end (sym h.0) (link_said g p.0) (said_207 g p.1)
rule_said g rule (inr (inr (inr (inr (inr (inr (inr (inl h)))))))) = unknown_pointer (sym h.0) (said_208 g h.1)
rule_said g rule (inr (inr (inr (inr (inr (inr (inr (inr h)))))))) = absurd h

pub rule_read : (g : List ZoneData) (rule : ℕ) → BreaksGroupRule g rule → BreaksTest (record_tests g) rule
rule_read g rule (lacks_kind e h) = inl (sym e, read_201 g h)
rule_read g rule (lacks_identifier e h) = inr (inl (sym e, h))
rule_read g rule (lacks_class e h) = inr (inr (inl (sym e, read_203 g h)))
rule_read g rule (bad_attribute e h) = inr (inr (inr (inl (sym e, read_204 g h))))
rule_read g rule (wrong_count e h) = inr (inr (inr (inr (inl (sym e, read_205 g h)))))
rule_read g rule (bad_point e h) = inr (inr (inr (inr (inr (inl (sym e, read_206 g h))))))
rule_read g rule (bad_end e k h) = inr (inr (inr (inr (inr (inr (inl (sym e, and_from _ _ (in_kind_read is_link g Lnk k refl) (read_207 g h))))))))
rule_read g rule (unknown_pointer e h) = inr (inr (inr (inr (inr (inr (inr (inl (sym e, read_208 g h))))))))

-- ---- the rules of a file

pub record_rule_said : (zones : List ZoneData) (rule place : ℕ) → FailsTest zones rule place → BreaksRecordRule zones rule place
record_rule_said zones rule place h = record { before = h.before; group = h.group; after = h.after; cut = h.cut; place_is = h.place_is; breaks = rule_said h.group rule h.breaks }

pub record_rule_read : (zones : List ZoneData) (rule place : ℕ) → BreaksRecordRule zones rule place → FailsTest zones rule place
record_rule_read zones rule place h = record { before = h.before; group = h.group; after = h.after; cut = h.cut; place_is = h.place_is; breaks = rule_read h.group rule h.breaks }

pub records_unbroken : (zones : List ZoneData) → IsUnbroken (FailsTest zones) → IsUnbroken (BreaksRecordRule zones)
records_unbroken zones h rule place broken = h rule place (record_rule_read zones rule place broken)

pub records_pass : (zones : List ZoneData) → IsUnbroken (BreaksRecordRule zones) → IsUnbroken (FailsTest zones)
records_pass zones h rule place broken = h rule place (record_rule_said zones rule place broken)

pub record_least : (zones : List ZoneData) (rule place : ℕ) → IsLeastBroken (FailsTest zones) rule place → IsLeastBroken (BreaksRecordRule zones) rule place
record_least zones rule place h = record { is = record_rule_said zones rule place h.is; least = λ r p broken. h.least r p (record_rule_read zones r p broken) }

pub refusal_said : (zones : List ZoneData) (f : RecordFault) → IsRecordRefusal (FailsTest zones) f → IsRecordRefusal (BreaksRecordRule zones) f
refusal_said zones (fault.Memory e) h = tt
refusal_said zones (fault.Broken rule at) h = record_least zones rule at h

-- ---- what a group that states a record can't break

pub stated_kind : (g : List ZoneData) (r : Record) → States g r → ¬ (LacksKind g)
stated_kind g r h lacks = both_ways _ (has_kind g r (states_read g r h)) (read_201 g lacks)

pub stated_identifier : (g : List ZoneData) (r : Record) → States g r → is_identifier r.rid ≡ true → has_no_identifier g ≡ false
stated_identifier g r h good = has_identifier g r (states_read g r h) good

pub stated_class : (g : List ZoneData) (r : Record) → States g r → ¬ (LacksClass g)
stated_class g r h lacks = both_ways _ (has_class g r (states_read g r h)) (read_203 g lacks)
