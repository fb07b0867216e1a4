-- The list of all rules that records break, record by record.
use Rattle.std.proofs.Common.{◌≡◌, ℕ, ◌+◌, ◌<◌, ◌≤◌, Bool, List, [], ◌∷◌, ◌++◌, length, refl, sym, ap, ◌∙◌, subst, inl, inr, arith, length-append}
use Rattle.std.proofs.lemmas.List.{append_assoc, length_push}
use Rattle.edi_line.specs.AllBroken.{AreAllBroken}
use Rattle.edi_line.specs.ZoneData.{ZoneData}
use Rattle.edi_line.specs.Refusal.{Test, test, BreaksTest}
use Rattle.edi_line.specs.Zones.{groups_of}
use Rattle.edi_line.specs.inner.AllBroken.{with_broken}
use Rattle.edi_line.specs.declared.broken.BrokenRule.{BrokenRule}
use Rattle.edi_line.proofs.AllBroken.{all_same, all_none, Also, all_with, Put, four_put}
use Rattle.edi_line.proofs.Rules.{AreApart, two_cuts, no_cut_of_none}
use Rattle.edi_record.specs.RecordRules.{BreaksRecordRule}
use Rattle.edi_record.specs.inner.AllBroken.{FailsIn, HoldsGroups}
use Rattle.edi_record.specs.inner.RecordRules.{record_tests}
use Rattle.edi_record.specs.declared.broken.BrokenGroups.{BrokenGroups}
use Rattle.edi_record.proofs.RulesSaid.{rule_said, rule_read}

-- ---- eight rules

-- the rules 201 to 208
abbrev eight_tests : Bool → Bool → Bool → Bool → Bool → Bool → Bool → Bool → List Test
eight_tests a b c d e f g h = test 201 a ∷ test 202 b ∷ test 203 c ∷ test 204 d ∷ test 205 e ∷ test 206 f ∷ test 207 g ∷ test 208 h ∷ []

pub eight_put : (at : ℕ) (a b c d e f g h : Bool) (l0 l1 l2 l3 l4 l5 l6 l7 l8 : List BrokenRule)
    → Put l0 201 at a l1 → Put l1 202 at b l2 → Put l2 203 at c l3 → Put l3 204 at d l4 → Put l4 205 at e l5 → Put l5 206 at f l6 → Put l6 207 at g l7 → Put l7 208 at h l8
    → l8 ≡ with_broken l0 at (eight_tests a b c d e f g h)
eight_put at a b c d e f g h l0 l1 l2 l3 l4 l5 l6 l7 l8 p1 p2 p3 p4 p5 p6 p7 p8 =
    four_put 205 206 207 208 at e f g h l4 l5 l6 l7 l8 p5 p6 p7 p8
    ∙ ap (λ x. with_broken x at (test 205 e ∷ test 206 f ∷ test 207 g ∷ test 208 h ∷ [])) (four_put 201 202 203 204 at a b c d l0 l1 l2 l3 l4 p1 p2 p3 p4)

-- ---- one record more

abbrev AlsoGroup : List (List ZoneData) → List ZoneData → ℕ → ℕ → Type 0
AlsoGroup done group = Also (FailsIn done) (length done + 1) (record_tests group)

group_said : (done : List (List ZoneData)) (group : List ZoneData) (r p : ℕ) → AlsoGroup done group r p → FailsIn (done ++ group ∷ []) r p
group_said done group r p (inl h) = record {
  before = h.before;
  group = h.group;
  after = h.after ++ group ∷ [];
  cut = ap (λ l. l ++ group ∷ []) h.cut ∙ append_assoc h.before (h.group ∷ h.after) (group ∷ []);
  place_is = h.place_is;
  breaks = h.breaks;
}
group_said done group r p (inr h) = record { before = done; group = group; after = []; cut = refl; place_is = h.0; breaks = h.1 }

group_read : (done : List (List ZoneData)) (group : List ZoneData) (r p : ℕ) → FailsIn (done ++ group ∷ []) r p → AlsoGroup done group r p
group_read done group r p h = along (two_cuts done group [] h.before h.group h.after h.cut)
  where
    along : AreApart done group h.before h.group → AlsoGroup done group r p
    along (inl (zs, e)) = inl (record { before = h.before; group = h.group; after = zs; cut = e; place_is = h.place_is; breaks = h.breaks })
    along (inr (inl (same, at))) = inr (h.place_is ∙ ap (λ l. length l + 1) (sym same), subst (λ g. BreaksTest (record_tests g) r) (sym at) h.breaks)
    along (inr (inr short)) =
        let long = ap length h.cut in
        let left = length_push done group in
        let right = length-append h.before (h.group ∷ h.after) in
        absurd (omega arith)

-- what is broken in these records is broken before the next
within : (done : List (List ZoneData)) (r p : ℕ) → FailsIn done r p → p < length done + 1
within done r p h =
    let long = ap length h.cut in
    let parts = length-append h.before (h.group ∷ h.after) in
    omega (arith, h.place_is)

pub none_held : (b : BrokenGroups) → b.place ≡ 0 → b.list.items ≡ [] → HoldsGroups [] b
none_held b place list few = record {
  counted = place;
  list = subst (AreAllBroken (FailsIn [])) (sym list) (all_none (FailsIn []) (λ r p h. no_cut_of_none h.before h.group h.after h.cut));
}

pub one_held : (done : List (List ZoneData)) (group : List ZoneData) (old new : BrokenGroups) → (old.place ≤ 9999999 → new.place ≡ old.place + 1) → new.list.items ≡ with_broken old.list.items new.place (record_tests group)
    → HoldsGroups done old → HoldsGroups (done ++ group ∷ []) new
one_held done group old new place grown h few =
    let long = length_push done group in
    let held = h (omega (arith, few, long)) in
    let next = place (omega (arith, held.counted, few, long)) in
    let counted : new.place ≡ length done + 1 = omega (arith, next, held.counted) in
    record {
      counted = omega (arith, counted, long);
      list = subst (AreAllBroken (FailsIn (done ++ group ∷ []))) (sym (grown ∙ ap (λ n. with_broken old.list.items n (record_tests group)) counted))
          (all_same (AlsoGroup done group) (FailsIn (done ++ group ∷ [])) _ (group_said done group) (group_read done group)
          (all_with (record_tests group) (FailsIn done) old.list.items (length done + 1) refl held.list (λ r p broken. inl (within done r p broken))));
    }

-- ---- all records

all_said : (zones : List ZoneData) (list : List BrokenRule) → AreAllBroken (FailsIn (groups_of zones)) list → AreAllBroken (BreaksRecordRule zones) list
all_said zones list h = all_same (FailsIn (groups_of zones)) (BreaksRecordRule zones) list
    (λ r p f. record { before = f.before; group = f.group; after = f.after; cut = f.cut; place_is = f.place_is; breaks = rule_said f.group r f.breaks })
    (λ r p f. record { before = f.before; group = f.group; after = f.after; cut = f.cut; place_is = f.place_is; breaks = rule_read f.group r f.breaks })
    h

pub all_records : (zones : List ZoneData) (b : BrokenGroups) → HoldsGroups (groups_of zones) b → length (groups_of zones) ≤ 9999999 → AreAllBroken (BreaksRecordRule zones) b.list.items
all_records zones b h few = all_said zones b.list.items (h few).list
