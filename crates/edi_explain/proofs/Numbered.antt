-- The records of a file by their numbers.
use Rattle.std.proofs.Common.{◌≡◌, ◌-◌, ◌≤◌, ◌∙◌, ℕ, suc, zero, List, [], ◌∷◌, Option, Some, None, ap, sym, arith, refl, slice_get}
use Rattle.std.specs.Option.{SomeIff}
use Rattle.std.proofs.lemmas.Option.{same_Some}
use Rattle.edi_line.specs.ZoneData.{ZoneData}
use Rattle.edi_line.specs.Zones.{groups_of}
use Rattle.edi_explain.specs.Refusals.{IsSiteAtIfAny}
use Rattle.edi_explain.specs.Sites.{IsSiteIfAny}
use Rattle.edi_explain.specs.declared.site.RecordSite.{RecordSite}
use Rattle.edi_explain.specs.inner.Found.{group_numbered, number_from_one}
use Rattle.edi_explain.specs.inner.Sites.{IsGroupSite}

-- a place from a number
pub numbered_back : (n : ℕ) (o : Option ℕ) → SomeIff o (1 ≤ n) (n - 1) → number_from_one o ≡ n
numbered_back n (Some k) h = omega (arith, h.0, h.1)
numbered_back zero None h = refl
numbered_back (suc n) None h = absurd (h (omega arith))

-- the place of a group that has a number
pub numbered_group : (groups : List (List ZoneData)) (number : ℕ) (group : List ZoneData) → Some group ≡ group_numbered groups number
    → (place : ℕ) × (number ≡ suc place) × (slice_get groups place ≡ Some group)
numbered_group groups zero group e = absurd cc
numbered_group groups (suc place) group e = (place, refl, sym e)

-- no group has the number
pub none_numbered : (groups : List (List ZoneData)) (number place : ℕ) (group : List ZoneData) → None ≡ group_numbered groups number
    → number ≡ suc place → slice_get groups place ≡ Some group → ⊥
none_numbered groups number place group e n there =
    let f : ◌≡◌ {A = Option (List ZoneData)} None (Some group) = e ∙ (ap (group_numbered groups) n ∙ there) in cc

module _ (zones : List ZoneData) (number : ℕ) where
  pub no_site : None ≡ group_numbered (groups_of zones) number → IsSiteIfAny zones number None
  no_site e = λ site d. none_numbered (groups_of zones) number d.place d.group e d.number_is d.there

  pub its_site : (group : List ZoneData) (found : Option RecordSite) → Some group ≡ group_numbered (groups_of zones) number → IsGroupSite group found → IsSiteIfAny zones number found
  its_site group (Some site) e h =
      let at = numbered_group (groups_of zones) number group e in
      record { place = at.0; group = group; number_is = at.1; there = at.2; has_site = h }
  its_site group None e h = λ site d.
      let f : ◌≡◌ {A = Option (List ZoneData)} (Some group) (Some d.group) = e ∙ (ap (group_numbered (groups_of zones)) d.number_is ∙ d.there) in
      let same = same_Some group d.group f in
      let g : d.has_site.head ∷ d.has_site.rest ≡ [] = sym d.has_site.is ∙ (sym same ∙ h) in cc

-- the earlier record, by its place
pub site_of_earlier : (zones : List ZoneData) (earlier : Option ℕ) (found : Option RecordSite) → IsSiteIfAny zones (number_from_one earlier) found → IsSiteAtIfAny zones earlier found
site_of_earlier zones (Some place) found h = h
site_of_earlier zones None None h = refl
site_of_earlier zones None (Some site) h = absurd (omega (arith, h.number_is))
