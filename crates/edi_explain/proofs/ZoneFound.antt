-- The zone of a record by the record's number in its file.
use Rattle.std.proofs.Common.{◌≡◌, ◌≢◌, ◌∙◌, inl, inr, ℕ, suc, List, Option, Some, None, arith, codes, option_and_then, refl, slice_get, sym, ap, subst, unwrap_or}
use Rattle.std.proofs.lemmas.Option.{same_Some}
use Rattle.edi_line.specs.ZoneData.{ZoneData, first}
use Rattle.edi_line.specs.Zones.{groups_of}
use Rattle.edi_record.specs.Records.{values}
use Rattle.edi_schema.specs.Classes.{Classes}
use Rattle.edi_explain.specs.AstrayZones.{IsAstray, IsFirstAstray, IsFirstLostEnd, IsZoneOfRecord, IsZoneOfSheet, first_end_at}
use Rattle.edi_explain.specs.BreakingZones.{IsBreakingZone, IsBreakingZoneOf}
use Rattle.edi_explain.specs.ZoneLines.{IsZoneLine}
use Rattle.edi_explain.specs.inner.LostEnds.{IsLostEndOf}
use Rattle.edi_explain.specs.inner.Found.{group_numbered, number_from_one}
use Rattle.edi_explain.proofs.Numbered.{none_numbered, numbered_group}

abbrev ends_in : List ZoneData → Option (List ℕ)
ends_in group = first (values (codes "FTP") group)

module _ (zones : List ZoneData) (place : ℕ) (g : Option (List ZoneData)) (end : Option (List ℕ)) (is : end ≡ option_and_then ends_in g) where
  pub end_of_earlier : (earlier : Option ℕ) (e : ℕ) → earlier ≡ Some e → g ≡ group_numbered (groups_of zones) (number_from_one earlier)
      → end ≡ first_end_at zones (unwrap_or earlier place)
  end_of_earlier (Some k) e there h = is ∙ ap (option_and_then ends_in) h
  end_of_earlier None e there h = absurd cc

  pub end_of_own : (earlier : Option ℕ) → earlier ≡ None → g ≡ group_numbered (groups_of zones) (suc place)
      → end ≡ first_end_at zones (unwrap_or earlier place)
  end_of_own (Some k) none h = absurd cc
  end_of_own None none h = is ∙ ap (option_and_then ends_in) h

-- a line on a zone of which something else holds as well
pub line_as : (P Q : ZoneData → Option ℕ → Type 0) (name : List ℕ) (rule : ℕ) (lines : List ℕ)
    → ((z : ZoneData) (count : Option ℕ) → P z count → Q z count) → ((z : ZoneData) (count : Option ℕ) → Q z count → P z count)
    → IsZoneLine P name rule lines → IsZoneLine Q name rule lines
line_as P Q name rule lines f g (inl h) = inl (h.0, h.1, h.2, f h.0 h.1 h.3, h.4, h.5)
line_as P Q name rule lines f g (inr h) = inr (λ z count q. h.0 z count (g z count q), h.1)

module _ (zones : List ZoneData) (rule number : ℕ) (group : List ZoneData) (e : Some group ≡ group_numbered (groups_of zones) number) where
  own : (place : ℕ) (other : List ZoneData) → number ≡ suc place → slice_get (groups_of zones) place ≡ Some other → other ≡ group
  own place other n there = sym (same_Some group other (e ∙ (ap (group_numbered (groups_of zones)) n ∙ there)))

  pub row_zone : (z : ZoneData) (count : Option ℕ) → IsBreakingZoneOf group rule z count → IsBreakingZone zones rule number z count
  row_zone z count h = let at = numbered_group (groups_of zones) number group e in (at.0, group, at.1, at.2, h)

  pub zone_row : (z : ZoneData) (count : Option ℕ) → IsBreakingZone zones rule number z count → IsBreakingZoneOf group rule z count
  zone_row z count k = subst (λ g. IsBreakingZoneOf g rule z count) (own k.0 k.1 k.2 k.3) k.4

  module _ (not : rule ≢ 305) (s : Classes) (earlier : Option ℕ) (end : Option (List ℕ)) (ends : (place : ℕ) → number ≡ suc place → end ≡ first_end_at zones (unwrap_or earlier place)) where
    pub sheet_zone : (z : ZoneData) (count : Option ℕ) → IsZoneOfRecord s group end rule z count → IsZoneOfSheet s zones earlier rule number z count
    sheet_zone z count (inl h) = inl (row_zone z count h)
    sheet_zone z count (inr h) =
        let at = numbered_group (groups_of zones) number group e in
        inr (inl ((at.0, group, at.1, at.2, subst (λ x. IsFirstAstray s x rule group z) (ends at.0 at.1) h.0), h.1))

    pub zone_sheet : (z : ZoneData) (count : Option ℕ) → IsZoneOfSheet s zones earlier rule number z count → IsZoneOfRecord s group end rule z count
    zone_sheet z count (inl k) = inl (zone_row z count k)
    zone_sheet z count (inr (inr k)) = absurd (not k.0.0)
    zone_sheet z count (inr (inl k)) =
        let d = k.0 in
        inr (subst (λ x. IsFirstAstray s x rule group z) (sym (ends d.0 d.2)) (subst (λ g. IsFirstAstray s (first_end_at zones (unwrap_or earlier d.0)) rule g z) (own d.0 d.1 d.2 d.3) d.4), k.1)

-- the end with which a record breaks 305, of which it alone has a zone
module _ (zones : List ZoneData) (number : ℕ) (group : List ZoneData) (e : Some group ≡ group_numbered (groups_of zones) number) (s : Classes) (earlier : Option ℕ) where
  pub lost_zone : (z : ZoneData) (count : Option ℕ) → IsLostEndOf (groups_of zones) group z count → IsZoneOfSheet s zones earlier 305 number z count
  lost_zone z count h = let at = numbered_group (groups_of zones) number group e in inr (inr ((refl, at.0, group, at.1, at.2, h.0), h.1))

  pub zone_lost : (z : ZoneData) (count : Option ℕ) → IsZoneOfSheet s zones earlier 305 number z count → IsLostEndOf (groups_of zones) group z count
  zone_lost z count (inl k) = let f : None ≡ Some k.4.0 = k.4.1 in absurd cc
  zone_lost z count (inr (inl k)) = not_astray k.0.4.1.is.0 k.0.4.1.is.2
    where
      not_astray : (x : ZoneData) → IsAstray s (first_end_at zones (unwrap_or earlier k.0.0)) 305 x → IsLostEndOf (groups_of zones) group z count
      not_astray x (inl h) = let f = h.0 in absurd (omega (arith, f))
      not_astray x (inr h) = let f = h.0 in absurd (omega (arith, f))
  zone_lost z count (inr (inr k)) =
      let d = k.0 in
      (subst (λ g. IsFirstLostEnd (groups_of zones) g z) (own zones 305 number group e d.1 d.2 d.3 d.4) d.5, k.1)

module _ (zones : List ZoneData) (rule number : ℕ) (e : None ≡ group_numbered (groups_of zones) number) where
  pub no_row_zone : (z : ZoneData) (count : Option ℕ) → ¬ (IsBreakingZone zones rule number z count)
  no_row_zone z count k = none_numbered (groups_of zones) number k.0 k.1 e k.2 k.3

  pub no_sheet_zone : (s : Classes) (earlier : Option ℕ) (z : ZoneData) (count : Option ℕ) → ¬ (IsZoneOfSheet s zones earlier rule number z count)
  no_sheet_zone s earlier z count (inl k) = no_row_zone z count k
  no_sheet_zone s earlier z count (inr (inr k)) = let d = k.0 in none_numbered (groups_of zones) number d.1 d.2 e d.3 d.4
  no_sheet_zone s earlier z count (inr (inl k)) = let d = k.0 in none_numbered (groups_of zones) number d.0 d.1 e d.2 d.3
