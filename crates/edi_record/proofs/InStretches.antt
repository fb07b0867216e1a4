-- Attributes and ends in words of the zones between two of them.
use Rattle.std.proofs.Common.{◌≡◌, Option, Bool, true, false, List, [], ◌∷◌, codes, Some, refl, sym, ap, ◌∙◌, one-add}
use Rattle.std.specs.Prelude.{unwrap_or}
use Rattle.std.specs.List.{before_first}
use Rattle.std.proofs.lemmas.Bool.{or_left, or_right, or_from}
use Rattle.edi_line.specs.ZoneData.{ZoneData, has_code, first}
use Rattle.edi_record.specs.Records.{values, opens, closes, points_at}
use Rattle.edi_record.specs.inner.Records.{set_after, value_after, attribute, attributes, sns_after, end_with_sense, ends}
use Rattle.edi_record.specs.declared.record.Attribute.{Attribute}
use Rattle.edi_record.specs.LinkEnds.{EndData}
use Rattle.edi_record.proofs.AttributesRead.{set_none, set_stops, set_found, set_goes_on, attributes_end, attributes_here, attributes_skip}
use Rattle.edi_record.proofs.Loops.{ends_end, ends_here, ends_skip}

-- an ATP with the first TEX and the first ATV before the next ATP, the TEX not after that ATV
abbrev pub attribute_in : ZoneData → List ZoneData → Option Attribute
attribute_in z behind = attribute z.value (first (values (codes "TEX") (before_first closes (before_first opens behind)))) (unwrap_or (first (values (codes "ATV") (before_first opens behind))) [])

-- an FTP with the first SNS before the next FTP
abbrev pub end_in : ZoneData → List ZoneData → Option EndData
end_in z behind = end_with_sense z.value (first (values (codes "SNS") (before_first points_at behind)))

pub before_yes : (p : ZoneData → Bool) (z : ZoneData) (zs : List ZoneData) → p z ≡ true → before_first p (z ∷ zs) ≡ []
before_yes p z zs e = rw e refl

pub before_no : (p : ZoneData → Bool) (z : ZoneData) (zs : List ZoneData) → p z ≡ false → before_first p (z ∷ zs) ≡ z ∷ before_first p zs
before_no p z zs e = rw (e, one-add) refl

-- ---- one item for each zone that passes

-- how such a list is made, zone by zone
pub record IsMadeBy {X : Type 0} (p : ZoneData → Bool) (f : ZoneData → List ZoneData → X) (F : List ZoneData → List X) : Type 0 where
  pub none : F [] ≡ []
  pub here : (z : ZoneData) (zs : List ZoneData) → p z ≡ true → F (z ∷ zs) ≡ f z zs ∷ F zs
  pub skip : (z : ZoneData) (zs : List ZoneData) → p z ≡ false → F (z ∷ zs) ≡ F zs

-- ---- attributes

value_in : (zs : List ZoneData) → value_after zs ≡ unwrap_or (first (values (codes "ATV") (before_first opens zs))) []
unfolding value_after
value_in [] = refl
value_in (z ∷ zs) = go (opens z) refl (closes z) refl (value_in zs)
  where
    go : (a : Bool) → opens z ≡ a → (b : Bool) → closes z ≡ b → value_after zs ≡ unwrap_or (first (values (codes "ATV") (before_first opens zs))) [] → value_after (z ∷ zs) ≡ unwrap_or (first (values (codes "ATV") (before_first opens (z ∷ zs)))) []
    go true e b f more = rw e refl
    go false e true f more = rw (e, one-add, f) refl
    go false e false f more = rw (e, one-add, f) more

set_here : (z : ZoneData) (zs : List ZoneData) → has_code (codes "TEX") z ≡ true → first (values (codes "TEX") (z ∷ zs)) ≡ Some z.value
set_here z zs e = rw e refl

no_set_here : (z : ZoneData) (zs : List ZoneData) → has_code (codes "TEX") z ≡ false → first (values (codes "TEX") (z ∷ zs)) ≡ first (values (codes "TEX") zs)
no_set_here z zs e = rw e refl

set_in : (zs : List ZoneData) → set_after zs ≡ first (values (codes "TEX") (before_first closes (before_first opens zs)))
set_in [] = sym set_none
set_in (z ∷ zs) = go (opens z) refl (closes z) refl (has_code (codes "TEX") z) refl (set_in zs)
  where
    go : (a : Bool) → opens z ≡ a → (b : Bool) → closes z ≡ b → (c : Bool) → has_code (codes "TEX") z ≡ c → set_after zs ≡ first (values (codes "TEX") (before_first closes (before_first opens zs)))
        → set_after (z ∷ zs) ≡ first (values (codes "TEX") (before_first closes (before_first opens (z ∷ zs))))
    go true e b f c g more = sym (set_stops z zs (or_left _ _ e)) ∙ sym (ap (λ t. first (values (codes "TEX") (before_first closes t))) (before_yes opens z zs e))
    go false e true f c g more = sym (set_stops z zs (or_right _ _ f)) ∙ sym (ap (λ t. first (values (codes "TEX") t)) (ap (before_first closes) (before_no opens z zs e) ∙ before_yes closes z (before_first opens zs) f))
    go false e false f true g more =
        sym (set_found z zs (or_from _ _ e f) g) ∙ sym (set_here z (before_first closes (before_first opens zs)) g)
        ∙ sym (ap (λ t. first (values (codes "TEX") t)) (ap (before_first closes) (before_no opens z zs e) ∙ before_no closes z (before_first opens zs) f))
    go false e false f false g more =
        sym (set_goes_on z zs (or_from _ _ e f) g) ∙ more ∙ sym (no_set_here z (before_first closes (before_first opens zs)) g)
        ∙ sym (ap (λ t. first (values (codes "TEX") t)) (ap (before_first closes) (before_no opens z zs e) ∙ before_no closes z (before_first opens zs) f))

pub attributes_made : IsMadeBy opens attribute_in attributes
attributes_made = record {
  none = attributes_end;
  here = λ z zs e. attributes_here z zs e ∙ ap (λ t. attribute z.value t (value_after zs) ∷ attributes zs) (set_in zs) ∙ ap (λ t. attribute z.value (first (values (codes "TEX") (before_first closes (before_first opens zs)))) t ∷ attributes zs) (value_in zs);
  skip = attributes_skip;
}

-- ---- ends

sns_in : (zs : List ZoneData) → sns_after zs ≡ first (values (codes "SNS") (before_first points_at zs))
unfolding sns_after
sns_in [] = refl
sns_in (z ∷ zs) = go (points_at z) refl (has_code (codes "SNS") z) refl (sns_in zs)
  where
    go : (a : Bool) → points_at z ≡ a → (b : Bool) → has_code (codes "SNS") z ≡ b → sns_after zs ≡ first (values (codes "SNS") (before_first points_at zs)) → sns_after (z ∷ zs) ≡ first (values (codes "SNS") (before_first points_at (z ∷ zs)))
    go true e b f more = rw e refl
    go false e true f more = rw (e, one-add, f) refl
    go false e false f more = rw (e, one-add, f) more

pub ends_made : IsMadeBy points_at end_in ends
ends_made = record {
  none = ends_end;
  here = λ z zs e. ends_here z zs e ∙ ap (λ t. end_with_sense z.value t ∷ ends zs) (sns_in zs);
  skip = ends_skip;
}
