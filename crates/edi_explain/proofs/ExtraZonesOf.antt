-- Zones that aren't known in records of their type.
use Rattle.std.proofs.Common.{◌≡◌, ◌∙◌, ◌↔◌, ◌<◌, ◌+◌, ◌++◌, ℕ, Bool, true, false, not, List, [], ◌∷◌, length, take, get_or, codes, IsTrue, ap, sym, refl}
use Rattle.std.proofs.lemmas.List.{map-append, take_more}
use Rattle.std.proofs.lemmas.Bool.{false_from_ne_true}
use Rattle.edi_line.specs.ZoneData.{ZoneData, entry, entries, has_code}
use Rattle.edi_line.specs.declared.zone.Zone.{Zone}
use Rattle.edi_record.specs.Records.{IsExtraAt, is_known}
use Rattle.edi_record.specs.declared.record.Kind.{Kind}
use Rattle.edi_record.proofs.StatesSaid.{Open}

pub entries_more : (zones : List Zone) (index : ℕ) (z : Zone) → index < length zones → z ≡ get_or zones index z
    → entries (take (index + 1) zones) ≡ entries (take index zones) ++ entry z ∷ []
entries_more zones index z less is =
    ap entries (take_more zones index z less ∙ ap (λ y. take index zones ++ y ∷ []) (sym is)) ∙ map-append entry (take index zones) (z ∷ [])

both_ways : (b : Bool) → b ≡ true → b ≡ false → ⊥
both_ways b t f = let e : true ≡ false = sym t ∙ f in cc

pub extra_told : (kind : Kind) (front : List ZoneData) (z : ZoneData) → is_known kind z.code ≡ false → (set : Bool) → (set ≡ true) ↔ ((has_code (codes "TEX") z ≡ true) × Open front)
    → IsTrue (not set) ↔ IsExtraAt kind front z
extra_told kind front z unknown true h = (λ i. absurd cc, λ x. let s = h.0 refl in absurd (both_ways _ s.0 (x.no_set s.1.0 s.1.1)))
extra_told kind front z unknown false h = (
  λ i. record { unknown = unknown; no_set = λ since o. false_from_ne_true _ (λ t. let f : false ≡ true = h.1 (t, (since, o)) in cc) },
  λ x. refl,
)
