-- What zones make that are handed on one by one.
use Rattle.std.proofs.Common.{◌≡◌, ℕ, Bool, true, false, ◌||◌, Option, Some, None, List, [], ◌∷◌, ◌++◌, codes, if◌then◌else◌, refl, sym, ap, ◌∙◌}
use Rattle.std.specs.List.{list_any}
use Rattle.std.proofs.lemmas.Bool.{or_parts}
use Rattle.std.proofs.lemmas.List.{append-nil, append_assoc}
use Rattle.edi_line.specs.ZoneData.{ZoneData, has_code}
use Rattle.edi_line.specs.Zones.{begins_group, ends_group, before_end, groups_of}
use Rattle.edi_line.specs.inner.Groups.{HandedZones, charset_in, coming, first_set, handed_at_first, with_begin, with_end, with_inner, with_zone, with_zones}
use Rattle.edi_line.specs.declared.groups.Place.{Place}
use Rattle.edi_line.specs.declared.groups.Place.TheVariants.{Front, Inside, Behind}

-- ---- zones behind others

pub zones_behind : (s : HandedZones) (xs ys : List ZoneData) → with_zones s (xs ++ ys) ≡ with_zones (with_zones s xs) ys
zones_behind s [] ys = refl
zones_behind s (x ∷ xs) ys = zones_behind (with_zone x s) xs ys

-- ---- one zone

begun : (z : ZoneData) (s : HandedZones) → begins_group z ≡ true → with_zone z s ≡ with_begin z s
begun z s b = rw b refl

ended : (z : ZoneData) (s : HandedZones) → begins_group z ≡ false → ends_group z ≡ true → with_zone z s ≡ with_end s
ended z s b e =
    ap (λ t. if t then with_begin z s else (if ends_group z then with_end s else with_inner z s)) b ∙ ap (λ t. if t then with_end s else with_inner z s) e

gone_on : (z : ZoneData) (s : HandedZones) → begins_group z ≡ false → ends_group z ≡ false → with_zone z s ≡ with_inner z s
gone_on z s b e =
    ap (λ t. if t then with_begin z s else (if ends_group z then with_end s else with_inner z s)) b ∙ ap (λ t. if t then with_end s else with_inner z s) e

end_of_begun : (z : ZoneData) → begins_group z ≡ true → ends_group z ≡ true
end_of_begun z b = ap (λ t. t || has_code (codes "EOM") z) b

cut_at_once : (z : ZoneData) (zs : List ZoneData) → ends_group z ≡ true → before_end (z ∷ zs) ≡ []
cut_at_once z zs e = rw e refl

cut_later : (z : ZoneData) (zs : List ZoneData) → ends_group z ≡ false → before_end (z ∷ zs) ≡ z ∷ before_end zs
cut_later z zs e = rw e refl

first_group : (z : ZoneData) (zs : List ZoneData) → begins_group z ≡ true → groups_of (z ∷ zs) ≡ (z ∷ before_end zs) ∷ groups_of zs
first_group z zs b = rw b refl

no_group : (z : ZoneData) (zs : List ZoneData) → begins_group z ≡ false → groups_of (z ∷ zs) ≡ groups_of zs
no_group z zs b = rw b refl

-- ---- the records

-- the records that these zones make, behind those of a record that is coming
abbrev groups_behind : Place → List ZoneData → List ZoneData → List (List ZoneData)
groups_behind Front group zs = groups_of zs
groups_behind Inside group zs = (group ++ before_end zs) ∷ groups_of zs
groups_behind Behind group zs = groups_of zs

nothing_behind : (place : Place) (group : List ZoneData) → coming place group ≡ groups_behind place group []
nothing_behind Front group = refl
nothing_behind Inside group = ap (λ g. g ∷ []) (sym (append-nil group))
nothing_behind Behind group = refl

-- the zones begin with an end
cut_behind : (place : Place) (group : List ZoneData) (z : ZoneData) (zs : List ZoneData) (groups : List (List ZoneData)) → ends_group z ≡ true → groups_of (z ∷ zs) ≡ groups
    → coming place group ++ groups ≡ groups_behind place group (z ∷ zs)
cut_behind Front group z zs groups e is = sym is
cut_behind Inside group z zs groups e is =
    ap (λ gs. group ∷ gs) (sym is) ∙ ap (λ g. g ∷ groups_of (z ∷ zs)) (sym (ap (λ l. group ++ l) (cut_at_once z zs e) ∙ append-nil group))
cut_behind Behind group z zs groups e is = sym is

next_behind : (z : ZoneData) (zs : List ZoneData) (place : Place) (charset : Option (List ℕ)) (groups : List (List ZoneData)) (group : List ZoneData) → begins_group z ≡ false → ends_group z ≡ false
    → let s : HandedZones = with_inner z (record { place = place; charset = charset; groups = groups; group = group }) in
    s.groups ++ groups_behind s.place s.group zs ≡ groups ++ groups_behind place group (z ∷ zs)
next_behind z zs Front charset groups group b e = ap (λ gs. groups ++ gs) (sym (no_group z zs b))
next_behind z zs Inside charset groups group b e =
    ap (λ gs. groups ++ gs) (ap (λ g. g ∷ groups_of zs) (append_assoc group (z ∷ []) (before_end zs) ∙ ap (λ l. group ++ l) (sym (cut_later z zs e)))
    ∙ ap (λ gs. (group ++ before_end (z ∷ zs)) ∷ gs) (sym (no_group z zs b)))
next_behind z zs Behind charset groups group b e = ap (λ gs. groups ++ gs) (sym (no_group z zs b))

pub groups_found : (s : HandedZones) (zs : List ZoneData) → (with_end (with_zones s zs)).groups ≡ s.groups ++ groups_behind s.place s.group zs
groups_found s [] = ap (λ gs. s.groups ++ gs) (nothing_behind s.place s.group)
groups_found s (z ∷ zs) = groups_found (with_zone z s) zs ∙ go (begins_group z) (ends_group z) refl refl
  where
    found : HandedZones → List (List ZoneData)
    found t = t.groups ++ groups_behind t.place t.group zs

    go : (b e : Bool) → begins_group z ≡ b → ends_group z ≡ e → found (with_zone z s) ≡ s.groups ++ groups_behind s.place s.group (z ∷ zs)
    go true e b_is e_is =
        ap found (begun z s b_is)
        ∙ append_assoc s.groups (coming s.place s.group) ((z ∷ before_end zs) ∷ groups_of zs)
        ∙ ap (λ gs. s.groups ++ gs) (cut_behind s.place s.group z zs ((z ∷ before_end zs) ∷ groups_of zs) (end_of_begun z b_is) (first_group z zs b_is))
    go false true b_is e_is =
        ap found (ended z s b_is e_is)
        ∙ append_assoc s.groups (coming s.place s.group) (groups_of zs)
        ∙ ap (λ gs. s.groups ++ gs) (cut_behind s.place s.group z zs (groups_of zs) e_is (no_group z zs b_is))
    go false false b_is e_is = ap found (gone_on z s b_is e_is) ∙ next_behind z zs s.place s.charset s.groups s.group b_is e_is

pub all_groups : (zs : List ZoneData) → (with_end (with_zones handed_at_first zs)).groups ≡ groups_of zs
all_groups zs = groups_found handed_at_first zs

-- ---- the character set

charset_here : (z : ZoneData) (zs : List ZoneData) → has_code (codes "CSE") z ≡ true → charset_in (z ∷ zs) ≡ Some z.value
charset_here z zs e = rw e refl

charset_further : (z : ZoneData) (zs : List ZoneData) → has_code (codes "CSE") z ≡ false → charset_in (z ∷ zs) ≡ charset_in zs
charset_further z zs e = rw e refl

-- the character set that has come, or else the first of these zones
abbrev set_before : Option (List ℕ) → List ZoneData → Option (List ℕ)
set_before (Some text) zs = Some text
set_before None zs = charset_in zs

abbrev set_behind : Place → Option (List ℕ) → List ZoneData → Option (List ℕ)
set_behind Front charset zs = set_before charset (before_end zs)
set_behind Inside charset zs = charset
set_behind Behind charset zs = charset

no_set_left : (charset : Option (List ℕ)) → charset ≡ set_before charset []
no_set_left None = refl
no_set_left (Some text) = refl

none_left : (place : Place) (charset : Option (List ℕ)) (zs : List ZoneData) → before_end zs ≡ [] → charset ≡ set_behind place charset zs
none_left Front charset zs e = no_set_left charset ∙ ap (set_before charset) (sym e)
none_left Inside charset zs e = refl
none_left Behind charset zs e = refl

set_on : (charset : Option (List ℕ)) (z : ZoneData) (zs : List ZoneData) → set_before (first_set charset z) zs ≡ set_before charset (z ∷ zs)
set_on (Some text) z zs = refl
set_on None z zs = go (has_code (codes "CSE") z) refl
  where
    go : (b : Bool) → has_code (codes "CSE") z ≡ b → set_before (first_set None z) zs ≡ charset_in (z ∷ zs)
    go true b = rw b refl
    go false b = rw b refl

next_set : (z : ZoneData) (zs : List ZoneData) (place : Place) (charset : Option (List ℕ)) (groups : List (List ZoneData)) (group : List ZoneData) → ends_group z ≡ false
    → let s : HandedZones = with_inner z (record { place = place; charset = charset; groups = groups; group = group }) in
    set_behind s.place s.charset zs ≡ set_behind place charset (z ∷ zs)
next_set z zs Front charset groups group e = set_on charset z (before_end zs) ∙ ap (set_before charset) (sym (cut_later z zs e))
next_set z zs Inside charset groups group e = refl
next_set z zs Behind charset groups group e = refl

pub set_found : (s : HandedZones) (zs : List ZoneData) → (with_zones s zs).charset ≡ set_behind s.place s.charset zs
set_found s [] = none_left s.place s.charset [] refl
set_found s (z ∷ zs) = set_found (with_zone z s) zs ∙ go (begins_group z) (ends_group z) refl refl
  where
    found : HandedZones → Option (List ℕ)
    found t = set_behind t.place t.charset zs

    go : (b e : Bool) → begins_group z ≡ b → ends_group z ≡ e → found (with_zone z s) ≡ set_behind s.place s.charset (z ∷ zs)
    go true e b_is e_is = ap found (begun z s b_is) ∙ none_left s.place s.charset (z ∷ zs) (cut_at_once z zs (end_of_begun z b_is))
    go false true b_is e_is = ap found (ended z s b_is e_is) ∙ none_left s.place s.charset (z ∷ zs) (cut_at_once z zs e_is)
    go false false b_is e_is = ap found (gone_on z s b_is e_is) ∙ next_set z zs s.place s.charset s.groups s.group e_is

pub charset_found : (zs : List ZoneData) → (with_zones handed_at_first zs).charset ≡ charset_in (before_end zs)
charset_found zs = set_found handed_at_first zs

-- ---- the zones of one record

-- none of these ends a record
pub inner_whole : (zs : List ZoneData) → list_any ends_group zs ≡ false → before_end zs ≡ zs
inner_whole [] e = refl
inner_whole (z ∷ zs) e = let p = or_parts (ends_group z) (list_any ends_group zs) e in rw (p.0) (ap (λ l. z ∷ l) (inner_whole zs p.1))
