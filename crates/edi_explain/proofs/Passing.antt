-- Zones that pass tests, at places of a record.
use Rattle.std.proofs.Common.{◌≡◌, ◌∙◌, ◌↔◌, ◌+◌, ◌-◌, ◌<◌, ℕ, suc, Bool, true, false, not, List, length, take, drop, get_or, slice_get, Option, Some, None, is_some, MatchOption, IsTrue, refl, sym, ap, subst, arith}
use Rattle.std.specs.Bool.{MatchBool}
use Rattle.std.proofs.lemmas.List.{length-map, length-drop, take-map, drop-map, take_all, get_or-map}
use Rattle.std.proofs.lemmas.Option.{slice_get_read}
use Rattle.edi_line.specs.ZoneData.{ZoneData, entry, entries}
use Rattle.edi_line.specs.declared.zone.Zone.{Zone}
use Rattle.edi_record.specs.RecordRules.{IsNoPointer}
use Rattle.edi_record.specs.Texts.{IsCount, IsPointer, IsPosition, PointerText, shown}
use Rattle.edi_record.specs.declared.pointer.Pointer.{Pointer}
use Rattle.edi_record.specs.declared.record.Point.{Point}
use Rattle.edi_explain.specs.BreakingZones.{IsBreakingZoneOf, IsFirstPassing, Passes, PassesAt, test_of}
use Rattle.edi_explain.specs.declared.breaking.ZoneTest.{ZoneTest}

-- ---- texts

pub no_pointer_is : (text : List ℕ) (r : Option Pointer) (t : Bool) → is_some r ≡ not t
    → MatchOption r ((p : PointerText) → ¬ (IsPointer text p)) (λ p. IsPointer text (shown p)) → IsTrue t ↔ IsNoPointer text
no_pointer_is text None true e h = (λ i. h, λ n. refl)
no_pointer_is text None false e h = absurd cc
no_pointer_is text (Some p) true e h = absurd cc
no_pointer_is text (Some p) false e h = (λ i. absurd cc, λ n. absurd (n (shown p) h))

pub no_position_is : (text : List ℕ) (t : Bool) → MatchBool t ((p : Point) × IsPosition text p) ((p : Point) → ¬ (IsPosition text p))
    → IsTrue (not t) ↔ ((p : Point) → ¬ (IsPosition text p))
no_position_is text true h = (λ i. absurd cc, λ n. absurd (n h.0 h.1))
no_position_is text false h = (λ i. h, λ n. refl)

pub position_is : (text : List ℕ) (t : Bool) → MatchBool t ((p : Point) × IsPosition text p) ((p : Point) → ¬ (IsPosition text p))
    → IsTrue t ↔ ((p : Point) × IsPosition text p)
position_is text true h = (λ i. h, λ p. refl)
position_is text false h = (λ i. absurd cc, λ p. absurd (h p.0 p.1))

pub other_count_is : (text : List ℕ) (n : ℕ) (t : Bool) → IsTrue t ↔ IsCount text n → IsTrue (not t) ↔ ¬ (IsCount text n)
other_count_is text n true h = (λ i. absurd cc, λ no. absurd (no (h.0 refl)))
other_count_is text n false h = (λ i k. let f : false ≡ true = h.1 k in cc, λ no. refl)

-- ---- places

module _ (zs : List Zone) (place : ℕ) (z : Zone) (less : place < length zs) (is : z ≡ get_or zs place z) where
  pub zone_there : slice_get (entries zs) place ≡ Some (entry z)
  zone_there =
      slice_get_read (entries zs) (length zs) place (entry z) (sym (length-map zs entry)) less
      (ap entry is ∙ sym (get_or-map entry zs place z (entry z) less))

pub same_entry : (a b : ZoneData) → Some a ≡ Some b → a ≡ b
same_entry a b e = cc

module _ (zs : List Zone) (place : ℕ) (z : Zone) (test : ZoneTest) (less : place < length zs) (is : z ≡ get_or zs place z) where
  front_is : entries (take place zs) ≡ take place (entries zs)
  front_is = sym (take-map entry place zs)

  behind_is : entries (take (length zs - (place + 1)) (drop (place + 1) zs)) ≡ drop (suc place) (entries zs)
  behind_is =
      ap entries (take_all (length zs - (place + 1)) (drop (place + 1) zs) (omega (arith, length-drop (place + 1) zs)))
      ∙ sym (drop-map entry (place + 1) zs) ∙ ap (λ n. drop n (entries zs)) next
    where
      next : place + 1 ≡ suc place
      next = omega arith

  abbrev PassesThere : Type 0
  PassesThere = Passes (entries zs) (entries (take place zs)) (entry z) (entries (take (length zs - (place + 1)) (drop (place + 1) zs))) test

  pub passes_there : PassesThere → PassesAt test (entries zs) place
  passes_there h = (
    entry z,
    zone_there zs place z less is,
    subst (λ b. Passes (entries zs) (take place (entries zs)) (entry z) b test) behind_is
        (subst (λ f. Passes (entries zs) f (entry z) (entries (take (length zs - (place + 1)) (drop (place + 1) zs))) test) front_is h),
  )

  pub there_passes : PassesAt test (entries zs) place → PassesThere
  there_passes h =
      let same = same_entry h.0 (entry z) (sym h.1 ∙ zone_there zs place z less is) in
      subst (λ f. Passes (entries zs) f (entry z) (entries (take (length zs - (place + 1)) (drop (place + 1) zs))) test) (sym front_is)
      (subst (λ b. Passes (entries zs) (take place (entries zs)) (entry z) b test) (sym behind_is)
      (subst (λ x. Passes (entries zs) (take place (entries zs)) x (drop (suc place) (entries zs)) test) same h.2))

-- ---- records

same_test : (a b : ZoneTest) → Some a ≡ Some b → a ≡ b
same_test a b e = cc

pub no_zone_found : (group : List ZoneData) (rule : ℕ) (test : ZoneTest) → test_of rule ≡ Some test → ((z : ZoneData) → ¬ (IsFirstPassing test group z))
    → (z : ZoneData) (count : Option ℕ) → ¬ (IsBreakingZoneOf group rule z count)
no_zone_found group rule test t h z count k = h z (subst (λ x. IsFirstPassing x group z) (same_test k.0 test (sym k.1 ∙ t)) k.2)
