-- Zones that go to the points and the extras that are kept.
use Rattle.std.proofs.Common.{◌≡◌, Bool, true, false, ◌&&◌, eqb, ltb, List, [], ◌∷◌, ◌++◌, length, map, Option, Some, codes, refl, sym, ap, ◌∙◌}
use Rattle.std.specs.List.{list_any}
use Rattle.std.proofs.lemmas.List.{append-nil}
use Rattle.edi_line.specs.ZoneData.{ZoneData, has_code}
use Rattle.edi_record.specs.inner.Texts.{point_in}
use Rattle.edi_record.specs.Shapes.{may_have_points}
use Rattle.edi_record.specs.Records.{values, has_points}
use Rattle.edi_record.specs.inner.Records.{zones_placed, is_open_after, is_extra, extra, extras}
use Rattle.edi_record.specs.inner.RecordRules.{kind_in, has_bad_point, is_unknown_pointer, has_unknown_pointer}
use Rattle.edi_record.specs.inner.Stored.{StoresPoints, StoresExtras, TakesExtra, extras_after, KeptPoints, KeptExtras}
use Rattle.edi_record.specs.declared.record.Kind.{Kind}
use Rattle.edi_record.specs.declared.record.Point.{Point}
use Rattle.edi_record.proofs.GroupCuts.{value_skipped}
use Rattle.edi_record.proofs.Loops.{extras_none, extras_here, extras_skip, extras_grow, unknown_none, unknown_here, unknown_skip, unknown_in}
use Rattle.edi_record.proofs.Parts.{bad_place, right_points, wrong_number}

abbrev places : List ZoneData → List (Option Point)
places zs = map point_in (values (codes "COR") zs)

-- ---- points

pub points_pass : (a : KeptPoints) (z : ZoneData) (left group : List ZoneData) → has_code (codes "COR") z ≡ false → StoresPoints a (z ∷ left) group → StoresPoints a left group
points_pass a z left group e h = record {
  broken = h.broken;
  made = λ b. h.made b ∙ ap (λ vs. map Some a.list ++ map point_in vs) (value_skipped (codes "COR") z left e);
}

pub points_come : (a : KeptPoints) (group : List ZoneData) → a.is_broken ≡ false → StoresPoints a [] group → places group ≡ map Some a.list
points_come a group b h = h.made b ∙ append-nil (map Some a.list)

pub points_sound : (a : KeptPoints) (kind : Kind) (group : List ZoneData) → a.is_broken ≡ false → may_have_points kind (length a.list) ≡ true → kind_in group ≡ Some kind → has_points kind ≡ true → StoresPoints a [] group → has_bad_point group ≡ false
points_sound a kind group b may k has h = right_points kind group a.list k has (points_come a group b h) may

pub points_bad : (a : KeptPoints) (kind : Kind) (group : List ZoneData) → a.is_broken ≡ true → kind_in group ≡ Some kind → has_points kind ≡ true → StoresPoints a [] group → has_bad_point group ≡ true
points_bad a kind group b k has h = bad_place kind group k has (h.broken b)

pub points_not_right : (a : KeptPoints) (kind : Kind) (group : List ZoneData) → a.is_broken ≡ false → may_have_points kind (length a.list) ≡ false → kind_in group ≡ Some kind → has_points kind ≡ true → StoresPoints a [] group → has_bad_point group ≡ true
points_not_right a kind group b may k has h = wrong_number kind group a.list k has (points_come a group b h) may

-- ---- extras

-- the zone is a pointer that isn't empty
abbrev pub is_pointer : ZoneData → Bool
is_pointer z = eqb z.format 80 && ltb 0 (length z.value)

pub extra_taken : (old new : KeptExtras) (z : ZoneData) → is_pointer z ≡ false → new.is_broken ≡ old.is_broken → new.list ≡ old.list ++ extra z ∷ [] → TakesExtra z old new
extra_taken old new z plain same_broken pushed kind is_open left group e h = record {
  broken = λ b. h.broken (sym same_broken ∙ b);
  made = λ b.
      extras_grow (extras kind group) (extras_after kind is_open (z ∷ left)) (extras_after kind (is_open_after is_open z) left) old.list new.list (extra z) (h.made (sym same_broken ∙ b))
      (extras_here kind is_open z left e) pushed;
  unknown = λ b. h.unknown (sym same_broken ∙ b) ∙ unknown_skip kind is_open z left (rw (e, plain) refl);
}

pub pointer_met : (old new : KeptExtras) (z : ZoneData) → is_pointer z ≡ true → new.is_broken ≡ true → TakesExtra z old new
pointer_met old new z pointed broken kind is_open left group e h = record {
  broken = λ b. by_old old.is_broken refl;
  made = λ b. let wrong : true ≡ false = sym broken ∙ b in absurd (cc);
  unknown = λ b. let wrong : true ≡ false = sym broken ∙ b in absurd (cc);
}
  where
    by_old : (b : Bool) → old.is_broken ≡ b → list_any (is_unknown_pointer kind) (zones_placed false group) ≡ true
    by_old true f = h.broken f
    by_old false f = h.unknown f ∙ unknown_here kind is_open z left (rw (e, pointed) refl)

-- of a zone that is no extra
pub extras_pass : (kind : Kind) (is_open : Bool) (a : KeptExtras) (z : ZoneData) (left group : List ZoneData) → is_extra kind (record { open_before = is_open; zone = z }) ≡ false → StoresExtras kind is_open a (z ∷ left) group → StoresExtras kind (is_open_after is_open z) a left group
extras_pass kind is_open a z left group e h = record {
  broken = h.broken;
  made = λ b. h.made b ∙ ap (λ t. a.list ++ t) (extras_skip kind is_open z left e);
  unknown = λ b. h.unknown b ∙ unknown_skip kind is_open z left (rw e refl);
}

pub extras_come : (kind : Kind) (is_open : Bool) (a : KeptExtras) (group : List ZoneData) → a.is_broken ≡ false → StoresExtras kind is_open a [] group → extras kind group ≡ a.list
extras_come kind is_open a group b h = h.made b ∙ ap (λ t. a.list ++ t) (extras_none kind is_open) ∙ append-nil a.list

pub extras_sound : (kind : Kind) (is_open : Bool) (a : KeptExtras) (group : List ZoneData) → a.is_broken ≡ false → kind_in group ≡ Some kind → StoresExtras kind is_open a [] group → has_unknown_pointer group ≡ false
extras_sound kind is_open a group b k h = unknown_in kind group k ∙ h.unknown b ∙ unknown_none kind is_open
