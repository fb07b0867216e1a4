-- The zones of lines, and the zones that reading finds in them.
use Rattle.std.proofs.Common.{◌≡◌, ℕ, suc, ◌+◌, ◌||◌, Bool, true, false, Some, None, Ok, Err, List, [], ◌∷◌, ◌++◌, length, refl, sym, ap, ◌∙◌, subst, inl, inr, arith}
use Rattle.std.specs.List.{flat_map}
use Rattle.std.proofs.lemmas.Bool.{both_ways}
use Rattle.std.proofs.lemmas.List.{length_push}
use Rattle.edi_line.specs.ZoneData.{ZoneData}
use Rattle.edi_line.specs.LineKinds.{is_zone, starts, bears, some_bears}
use Rattle.edi_line.specs.inner.Kinds.{kind_of, is_zone_kind, is_start_kind}
use Rattle.edi_line.specs.LineRules.{BreaksAt, IsZonesOf}
use Rattle.edi_line.specs.Made.{AreMadeFrom}
use Rattle.edi_line.specs.Spelling.{Reading}
use Rattle.edi_line.specs.Zones.{value_in, GoesOn, zone_at, IsZoneAt, IsZonesIn}
use Rattle.edi_line.specs.inner.Zones.{part_by, parts_after, readings_of}
use Rattle.edi_line.proofs.ZonesFound.{continuation, whole_zones, zones_in, AreZonesRead}
use Rattle.edi_line.specs.declared.order.ZoneKind.{ZoneKind}
use Rattle.edi_line.specs.declared.order.ZoneKind.TheVariants.{Bom, Cse, Rty, Eom, Other, Next, Remark}
use Rattle.edi_line.proofs.KindsSaid.{zone_same, starts_same}
use Rattle.edi_line.proofs.Made.{made_one}
use Rattle.edi_line.proofs.Readings.{readings_exist, readings_are}

-- ---- what goes on

-- a line that doesn't stop the zone before it
goes_through : (line : Reading) (behind : List Reading) (more : List ℕ) → bears starts line ≡ false → GoesOn behind more → GoesOn (line ∷ behind) (value_in line ++ more)
goes_through line behind more through g = record {
  stretch = line ∷ g.stretch;
  rest = g.rest;
  cut = ap (λ lines. line ∷ lines) g.cut;
  through = rw (through, g.through) refl;
  stops = g.stops;
  is = ap (λ m. value_in line ++ m) g.is;
}

stops_at : (line : Reading) (behind : List Reading) → bears starts line ≡ true → GoesOn (line ∷ behind) []
stops_at line behind stop = record {
  stretch = [];
  rest = line ∷ behind;
  cut = refl;
  through = refl;
  stops = λ l others e. let same : line ≡ l = cc in subst (λ x. bears starts x ≡ true) same stop;
  is = refl;
}

-- what continues a zone, where a line of this kind comes next
pub goes_on : (n : ℕ) (behind : List Reading) → GoesOn behind (continuation (parts_after n behind))
goes_on n [] = record { stretch = []; rest = []; cut = refl; through = refl; stops = λ line others e. absurd cc; is = refl }
goes_on n (Ok None ∷ behind) = goes_through (Ok None) behind _ refl (goes_on (suc n) behind)
goes_on n (Err rule ∷ behind) = goes_through (Err rule) behind _ refl (goes_on (suc n) behind)
goes_on n (Ok (Some s) ∷ behind) = by (kind_of s.code) refl (goes_on (suc n) behind)
  where
    by : (k : ZoneKind) → kind_of s.code ≡ k → GoesOn behind (continuation (parts_after (suc n) behind))
        → GoesOn (Ok (Some s) ∷ behind) (continuation (part_by k (suc n) s ∷ parts_after (suc n) behind))
    by Next e g = goes_through (Ok (Some s)) behind _ (starts_same s.code ∙ ap is_start_kind e) g
    by Remark e g = stops_at (Ok (Some s)) behind (starts_same s.code ∙ ap is_start_kind e)
    by Bom e g = stops_at (Ok (Some s)) behind (starts_same s.code ∙ ap is_start_kind e)
    by Cse e g = stops_at (Ok (Some s)) behind (starts_same s.code ∙ ap is_start_kind e)
    by Rty e g = stops_at (Ok (Some s)) behind (starts_same s.code ∙ ap is_start_kind e)
    by Eom e g = stops_at (Ok (Some s)) behind (starts_same s.code ∙ ap is_start_kind e)
    by Other e g = stops_at (Ok (Some s)) behind (starts_same s.code ∙ ap is_start_kind e)

pub or_first : (a b : Bool) → (a || b) ≡ false → a ≡ false
or_first true b e = e
or_first false b e = refl

pub or_second : (a b : Bool) → (a || b) ≡ false → b ≡ false
or_second true b e = absurd cc
or_second false b e = e

-- the stretch is the only one
one_stretch : (xs ys rest others : List Reading) → xs ++ rest ≡ ys ++ others → some_bears starts xs ≡ false → some_bears starts ys ≡ false
    → ((line : Reading) (more : List Reading) → rest ≡ line ∷ more → bears starts line ≡ true) → ((line : Reading) (more : List Reading) → others ≡ line ∷ more → bears starts line ≡ true)
    → flat_map value_in xs ≡ flat_map value_in ys
one_stretch [] [] rest others e h k stop stay = refl
one_stretch [] (y ∷ ys) rest others e h k stop stay = absurd (both_ways _ (or_first _ _ k) (stop y (ys ++ others) e))
one_stretch (x ∷ xs) [] rest others e h k stop stay = absurd (both_ways _ (or_first _ _ h) (stay x (xs ++ rest) (sym e)))
one_stretch (x ∷ xs) (y ∷ ys) rest others e h k stop stay =
    let same : x ≡ y = cc in
    let behind : xs ++ rest ≡ ys ++ others = cc in
    ap (λ z. value_in z ++ flat_map value_in xs) same ∙ ap (λ vs. value_in y ++ vs) (one_stretch xs ys rest others behind (or_second _ _ h) (or_second _ _ k) stop stay)

pub one_continuation : (behind : List Reading) (more other : List ℕ) → GoesOn behind more → GoesOn behind other → more ≡ other
one_continuation behind more other g h = g.is ∙ one_stretch g.stretch h.stretch g.rest h.rest (sym g.cut ∙ h.cut) g.through h.through g.stops h.stops ∙ sym h.is

-- ---- the zones

zone_one : (front : List Reading) (line : Reading) (behind : List Reading) (z y : ZoneData) → IsZoneAt front line behind z → IsZoneAt front line behind y → z ≡ y
zone_one front line behind z y h k =
    let e : ◌≡◌ {A = Reading} (Ok (Some h.spelled)) (Ok (Some k.spelled)) = sym h.says ∙ k.says in
    let same : h.spelled ≡ k.spelled = cc in
    h.is ∙ ap (λ s. zone_at (length front + 1) s h.more) same ∙ ap (zone_at (length front + 1) k.spelled) (one_continuation behind h.more k.more h.goes_on k.goes_on) ∙ sym k.is

pub zones_one : (lines : List Reading) (zones others : List ZoneData) → IsZonesIn lines zones → IsZonesIn lines others → zones ≡ others
zones_one lines zones others h k = made_one (λ front line. bears is_zone line ≡ true) IsZoneAt zone_one [] lines zones others h k

abbrev ZonesFrom : List Reading → List Reading → List ZoneData → Type 0
ZonesFrom front lines zones = AreMadeFrom (λ front line. bears is_zone line ≡ true) IsZoneAt front lines zones

-- the next line, and the lines behind it
next_zones : (front : List Reading) (line : Reading) (lines : List Reading) → ZonesFrom (front ++ line ∷ []) lines (whole_zones (parts_after (length (front ++ line ∷ [])) lines))
    → ZonesFrom (front ++ line ∷ []) lines (whole_zones (parts_after (suc (length front)) lines))
next_zones front line lines h =
    let long : length (front ++ line ∷ []) ≡ suc (length front) = omega (arith, length_push front line) in
    subst (λ n. ZonesFrom (front ++ line ∷ []) lines (whole_zones (parts_after n lines))) long h

zones_from : (front lines : List Reading) → ZonesFrom front lines (whole_zones (parts_after (length front) lines))
zones_from front [] = refl
zones_from front (Ok None ∷ lines) = inr (λ h. let e : false ≡ true = h in cc, next_zones front (Ok None) lines (zones_from (front ++ Ok None ∷ []) lines))
zones_from front (Err rule ∷ lines) = inr (λ h. let e : false ≡ true = h in cc, next_zones front (Err rule) lines (zones_from (front ++ Err rule ∷ []) lines))
zones_from front (Ok (Some s) ∷ lines) = by (kind_of s.code) refl (next_zones front (Ok (Some s)) lines (zones_from (front ++ Ok (Some s) ∷ []) lines))
  where
    n : ℕ
    n = length front

    behind : List ZoneData
    behind = whole_zones (parts_after (suc n) lines)

    begun : is_zone s.code ≡ true → ZonesFrom (front ++ Ok (Some s) ∷ []) lines behind
        → ZonesFrom front (Ok (Some s) ∷ lines) (zone_at (suc n) s (continuation (parts_after (suc n) lines)) ∷ behind)
    begun zone h = inl (
      zone_at (suc n) s (continuation (parts_after (suc n) lines)),
      behind,
      zone,
      record {
        spelled = s;
        more = continuation (parts_after (suc n) lines);
        says = refl;
        goes_on = goes_on (suc n) lines;
        is = let e : suc n ≡ n + 1 = omega arith in ap (λ k. zone_at k s (continuation (parts_after (suc n) lines))) e;
      },
      refl,
      h,
    )

    none : is_zone s.code ≡ false → ZonesFrom (front ++ Ok (Some s) ∷ []) lines behind → ZonesFrom front (Ok (Some s) ∷ lines) behind
    none other h = inr (λ yes. both_ways _ other yes, h)

    by : (k : ZoneKind) → kind_of s.code ≡ k → ZonesFrom (front ++ Ok (Some s) ∷ []) lines behind
        → ZonesFrom front (Ok (Some s) ∷ lines) (whole_zones (part_by k (suc n) s ∷ parts_after (suc n) lines))
    by Next e h = none (zone_same s.code ∙ ap is_zone_kind e) h
    by Remark e h = none (zone_same s.code ∙ ap is_zone_kind e) h
    by Bom e h = begun (zone_same s.code ∙ ap is_zone_kind e) h
    by Cse e h = begun (zone_same s.code ∙ ap is_zone_kind e) h
    by Rty e h = begun (zone_same s.code ∙ ap is_zone_kind e) h
    by Eom e h = begun (zone_same s.code ∙ ap is_zone_kind e) h
    by Other e h = begun (zone_same s.code ∙ ap is_zone_kind e) h

pub zones_exist : (lines : List Reading) → IsZonesIn lines (zones_in lines)
zones_exist lines = zones_from [] lines

pub zones_are : (lines : List Reading) (zones : List ZoneData) → IsZonesIn lines zones → zones ≡ zones_in lines
zones_are lines zones h = zones_one lines zones (zones_in lines) h (zones_exist lines)

-- ---- the zones of a file

pub zones_said : (bytes : List ℕ) (zones : List ZoneData) → AreZonesRead bytes zones → IsZonesOf bytes zones
zones_said bytes zones h = record {
  readings = readings_of bytes;
  say = readings_exist bytes;
  readable = h.readable;
  zones_in = subst (IsZonesIn (readings_of bytes)) (sym h.is) (zones_exist (readings_of bytes));
}

pub zones_read : (bytes : List ℕ) (zones : List ZoneData) → IsZonesOf bytes zones → AreZonesRead bytes zones
zones_read bytes zones h =
    let same = readings_are bytes h.readings h.say in
    record {
      readable = λ rule place own broken. h.readable rule place own (subst (λ lines. BreaksAt lines rule place) (sym same) broken);
      is = zones_are h.readings zones h.zones_in ∙ ap zones_in same;
    }

pub zones_of_one : (bytes : List ℕ) (zones others : List ZoneData) → IsZonesOf bytes zones → IsZonesOf bytes others → zones ≡ others
zones_of_one bytes zones others h k = (zones_read bytes zones h).is ∙ sym (zones_read bytes others k).is
