-- The zones of a file that breaks no rule have their shape.
use Rattle.std.proofs.Common.{◌≡◌, ℕ, suc, ◌+◌, Bool, true, false, Option, Some, None, Result, Ok, Err, List, [], ◌∷◌, ◌++◌, length, refl, sym, ap, ◌∙◌, subst, IfOk, IfSome, option_to_list, Vec, Global, inl, inr, arith, ◌≢◌, ◌≤◌, bytes_eq, codes, eq-eqb, lit≤}
use Rattle.std.specs.List.{AllByRecursion, flat_map}
use Rattle.std.proofs.lemmas.Bool.{and_from, or_left}
use Rattle.std.proofs.lemmas.List.{append_assoc, append-nil}
use Rattle.edi_line.specs.ZoneData.{ZoneData, entries}
use Rattle.edi_line.specs.Spelling.{Spelling, Reading}
use Rattle.edi_line.specs.Zones.{IsGroup, HasShape, begins_group, groups_of}
use Rattle.edi_line.specs.inner.Zones.{part_by, parts_after, with_more, entry_of}
use Rattle.edi_line.proofs.ZonesFound.{continuation, whole_zones}
use Rattle.edi_line.specs.LineKinds.{is_inner}
use Rattle.edi_line.specs.inner.Kinds.{kind_of, is_inner_kind, is_zone_kind, is_rty}
use Rattle.edi_line.specs.LineRules.{BreaksAt}
use Rattle.edi_line.specs.inner.Held.{kind_tests, rule_of, rule_of_kind, noted, noted_kind, no_zones, closed, zoned_after, zoned, Stands}
use Rattle.edi_line.specs.Feeding.{seen_in}
use Rattle.edi_line.specs.declared.order.ZoneKind.{ZoneKind}
use Rattle.edi_line.specs.declared.order.ZoneKind.TheVariants.{Bom, Cse, Rty, Eom, Next, Remark, Other}
use Rattle.edi_line.specs.declared.order.Order.{Order}
use Rattle.edi_line.specs.declared.fault.LineFault.{LineFault}
use Rattle.edi_line.specs.declared.reading.Reader.{Reader}
use Rattle.edi_line.specs.declared.zone.Zone.{Zone}
use Rattle.edi_line.proofs.FirstBroken.{none_broken}
use Rattle.edi_line.proofs.KindsSaid.{inner_same}
use Rattle.edi_line.proofs.Said.{code_bom, code_cse, code_rty, code_eom, code_inner}
use Rattle.edi_line.proofs.Rules.{IsFaultless, noted_seen, rule_broken, closed_zones}
use Rattle.edi_line.proofs.Truths.{or_true}

-- no line breaks a rule, and an end comes
abbrev IsGood : Order → List Reading → Type 0
IsGood seen [] = seen.eom ≡ true
IsGood seen (line ∷ lines) = (rule_of seen line ≡ None) × IsGood (noted seen line) lines

no_rule : (done : List Reading) (line : Reading) (lines : List Reading) → ((rule place : ℕ) → ¬ (BreaksAt (done ++ line ∷ lines) rule place)) → rule_of (seen_in done) line ≡ None
no_rule done line lines sound = along (rule_of (seen_in done) line) refl
  where
    along : (r : Option ℕ) → rule_of (seen_in done) line ≡ r → r ≡ None
    along None e = refl
    along (Some rule) e =
        let found = rule_broken done line rule e in
        absurd (sound rule (length done + 1) (record { before = done; line = line; after = lines; cut = refl; place_is = refl; breaks = found.breaks }))

good_from : (done lines : List Reading) → ((rule place : ℕ) → ¬ (BreaksAt (done ++ lines) rule place)) → (seen_in (done ++ lines)).eom ≡ true → IsGood (seen_in done) lines
good_from done [] sound eom = subst (λ l. (seen_in l).eom ≡ true) (append-nil done) eom
good_from done (line ∷ lines) sound eom =
    let same = append_assoc done (line ∷ []) lines in
    let more = good_from (done ++ line ∷ []) lines (λ rule place h. sound rule place (subst (λ l. BreaksAt l rule place) same h)) (subst (λ l. (seen_in l).eom ≡ true) (sym same) eom) in
    (no_rule done line lines sound, subst (λ o. IsGood o lines) (sym (noted_seen done line)) more)

-- ---- after the end

after_end : (seen : Order) (kind : ZoneKind) → is_zone_kind kind ≡ true → seen.eom ≡ true → rule_of_kind seen kind ≡ None → ⊥
after_end seen kind zone eom e = none_broken (kind_tests seen kind) e 107 (inr (inr (inl (refl, and_from _ _ zone eom))))

-- the entries of these lines
abbrev zones_after : ℕ → List Reading → List ZoneData
zones_after n lines = whole_zones (parts_after n lines)

none_after : (seen : Order) (n : ℕ) (lines : List Reading) → seen.eom ≡ true → IsGood seen lines → zones_after n lines ≡ []
none_after seen n [] eom good = refl
none_after seen n (Ok (Some s) ∷ lines) eom good = here (λ more. none_after (noted_kind seen Next) (suc n) lines (or_left _ _ eom) more) (λ more. none_after (noted_kind seen Remark) (suc n) lines (or_left _ _ eom) more) (kind_of s.code) good
  where
    here : (IsGood (noted_kind seen Next) lines → zones_after (suc n) lines ≡ []) → (IsGood (noted_kind seen Remark) lines → zones_after (suc n) lines ≡ [])
        → (k : ZoneKind) → (rule_of_kind seen k ≡ None) × IsGood (noted_kind seen k) lines → whole_zones (part_by k (suc n) s ∷ parts_after (suc n) lines) ≡ []
    here next remark Bom g = absurd (after_end seen Bom refl eom g.0)
    here next remark Cse g = absurd (after_end seen Cse refl eom g.0)
    here next remark Rty g = absurd (after_end seen Rty refl eom g.0)
    here next remark Eom g = absurd (after_end seen Eom refl eom g.0)
    here next remark Other g = absurd (after_end seen Other refl eom g.0)
    here next remark Next g = next g.1
    here next remark Remark g = remark g.1
none_after seen n (Ok None ∷ lines) eom good = none_after seen (suc n) lines eom good.1
none_after seen n (Err rule ∷ lines) eom good = let e : Some rule ≡ None = good.0 in absurd (cc)

-- ---- within the records

-- the rest of a group, groups, and the end
record IsTail (zones : List ZoneData) : Type 0 where
  rest : List ZoneData
  groups : List (List ZoneData)
  tail : ZoneData
  joined : zones ≡ rest ++ (flat_map (λ g. g) groups ++ tail ∷ [])
  others : AllByRecursion (λ z. is_inner z.code ≡ true) rest
  groups_are : AllByRecursion IsGroup groups
  tail_is : tail.code ≡ codes "EOM"

abbrev in_records : Bool → ℕ → Order
in_records cse records = record { started = true; begun = true; bom = true; cse = cse; rty = true; eom = false; records = records }

abbrev before_records : Bool → ℕ → Order
before_records cse records = record { started = true; begun = true; bom = true; cse = cse; rty = false; eom = false; records = records }

abbrev none_yet : Bool → ℕ → Order
none_yet started records = record { started = started; begun = false; bom = false; cse = false; rty = false; eom = false; records = records }

-- the zone of this line
abbrev whole_zone : ℕ → Spelling → List Reading → ZoneData
whole_zone n s lines = with_more (continuation (parts_after (suc n) lines)) (entry_of (suc n) s)

-- a group that begins here
group_here : (z : ZoneData) (zones : List ZoneData) → kind_of z.code ≡ Rty → IsTail zones → IsTail (z ∷ zones)
group_here z zones leads t = record {
  rest = [];
  groups = (z ∷ t.rest) ∷ t.groups;
  tail = t.tail;
  joined = ap (λ zs. z ∷ zs) t.joined ∙ sym (append_assoc (z ∷ t.rest) (flat_map (λ g. g) t.groups) (t.tail ∷ []));
  others = tt;
  groups_are = (record { first = z; rest = t.rest; joined = refl; leads = code_rty z.code leads; others = t.others }, t.groups_are);
  tail_is = t.tail_is;
}

other_here : (z : ZoneData) (zones : List ZoneData) → kind_of z.code ≡ Other → IsTail zones → IsTail (z ∷ zones)
other_here z zones other t = record {
  rest = z ∷ t.rest;
  groups = t.groups;
  tail = t.tail;
  joined = ap (λ zs. z ∷ zs) t.joined;
  others = (inner_same z.code ∙ ap is_inner_kind other, t.others);
  groups_are = t.groups_are;
  tail_is = t.tail_is;
}

end_here : (z : ZoneData) (zones : List ZoneData) → kind_of z.code ≡ Eom → zones ≡ [] → IsTail (z ∷ zones)
end_here z zones end none = record {
  rest = [];
  groups = [];
  tail = z;
  joined = ap (λ zs. z ∷ zs) none;
  others = tt;
  groups_are = tt;
  tail_is = code_eom z.code end;
}

no_charset : (cse : Bool) (r : ℕ) → rule_of_kind (in_records cse r) Cse ≡ None → ⊥
no_charset true r e = cc
no_charset false r e = cc

tail_of : (cse : Bool) (r n : ℕ) (lines : List Reading) → IsGood (in_records cse r) lines → IsTail (zones_after n lines)
tail_of cse r n [] good = let e : false ≡ true = good in absurd (cc)
tail_of cse r n (Ok None ∷ lines) good = tail_of cse r (suc n) lines good.1
tail_of cse r n (Err rule ∷ lines) good = let e : Some rule ≡ None = good.0 in absurd (cc)
tail_of cse r n (Ok (Some s) ∷ lines) good =
    here (λ c m more. tail_of c m (suc n) lines more) (kind_of s.code) refl good
  where
    here : ((c : Bool) (m : ℕ) → IsGood (in_records c m) lines → IsTail (zones_after (suc n) lines)) → (k : ZoneKind) → kind_of s.code ≡ k
        → (rule_of_kind (in_records cse r) k ≡ None) × IsGood (noted_kind (in_records cse r) k) lines → IsTail (whole_zones (part_by k (suc n) s ∷ parts_after (suc n) lines))
    here more Bom e g = let h : ◌≡◌ {A = Option ℕ} (Some 108) None = g.0 in absurd (cc)
    here more Cse e g = absurd (no_charset cse r g.0)
    here more Rty e g = group_here (whole_zone n s lines) _ e (more _ _ g.1)
    here more Eom e g = end_here (whole_zone n s lines) _ e (none_after (noted_kind (in_records cse r) Eom) (suc n) lines refl g.1)
    here more Other e g = other_here (whole_zone n s lines) _ e (more _ _ g.1)
    here more Next e g = more _ _ g.1
    here more Remark e g = more _ _ g.1

-- ---- before the records

-- groups, and the end
record IsBody (zones : List ZoneData) : Type 0 where
  groups : List (List ZoneData)
  tail : ZoneData
  joined : zones ≡ flat_map (λ g. g) groups ++ tail ∷ []
  groups_are : AllByRecursion IsGroup groups
  tail_is : tail.code ≡ codes "EOM"

first_group : (z : ZoneData) (zones : List ZoneData) → kind_of z.code ≡ Rty → IsTail zones → IsBody (z ∷ zones)
first_group z zones leads t = record {
  groups = (z ∷ t.rest) ∷ t.groups;
  tail = t.tail;
  joined = ap (λ zs. z ∷ zs) t.joined ∙ sym (append_assoc (z ∷ t.rest) (flat_map (λ g. g) t.groups) (t.tail ∷ []));
  groups_are = (record { first = z; rest = t.rest; joined = refl; leads = code_rty z.code leads; others = t.others }, t.groups_are);
  tail_is = t.tail_is;
}

only_end : (z : ZoneData) (zones : List ZoneData) → kind_of z.code ≡ Eom → zones ≡ [] → IsBody (z ∷ zones)
only_end z zones end none = record { groups = []; tail = z; joined = ap (λ zs. z ∷ zs) none; groups_are = tt; tail_is = code_eom z.code end }

body_of : (r n : ℕ) (lines : List Reading) → IsGood (before_records true r) lines → IsBody (zones_after n lines)
body_of r n [] good = let e : false ≡ true = good in absurd (cc)
body_of r n (Ok None ∷ lines) good = body_of r (suc n) lines good.1
body_of r n (Err rule ∷ lines) good = let e : Some rule ≡ None = good.0 in absurd (cc)
body_of r n (Ok (Some s) ∷ lines) good = here (λ m more. body_of m (suc n) lines more) (kind_of s.code) refl good
  where
    here : ((m : ℕ) → IsGood (before_records true m) lines → IsBody (zones_after (suc n) lines)) → (k : ZoneKind) → kind_of s.code ≡ k
        → (rule_of_kind (before_records true r) k ≡ None) × IsGood (noted_kind (before_records true r) k) lines → IsBody (whole_zones (part_by k (suc n) s ∷ parts_after (suc n) lines))
    here more Bom e g = let h : ◌≡◌ {A = Option ℕ} (Some 108) None = g.0 in absurd (cc)
    here more Cse e g = let h : ◌≡◌ {A = Option ℕ} (Some 108) None = g.0 in absurd (cc)
    here more Rty e g = first_group (whole_zone n s lines) _ e (tail_of true _ (suc n) lines g.1)
    here more Eom e g = only_end (whole_zone n s lines) _ e (none_after (noted_kind (before_records true r) Eom) (suc n) lines refl g.1)
    here more Other e g = let h : ◌≡◌ {A = Option ℕ} (Some 109) None = g.0 in absurd (cc)
    here more Next e g = more _ g.1
    here more Remark e g = more _ g.1

-- the character set or nothing, groups, and the end
record IsFront (zones : List ZoneData) : Type 0 where
  charset : Option ZoneData
  body : List ZoneData
  joined : zones ≡ option_to_list charset ++ body
  charset_is : IfSome charset (λ z. z.code ≡ codes "CSE")
  is_body : IsBody body

bare : (zones : List ZoneData) → IsBody zones → IsFront zones
bare zones b = record { charset = None; body = zones; joined = refl; charset_is = tt; is_body = b }

front_of : (r n : ℕ) (lines : List Reading) → IsGood (before_records false r) lines → IsFront (zones_after n lines)
front_of r n [] good = let e : false ≡ true = good in absurd (cc)
front_of r n (Ok None ∷ lines) good = front_of r (suc n) lines good.1
front_of r n (Err rule ∷ lines) good = let e : Some rule ≡ None = good.0 in absurd (cc)
front_of r n (Ok (Some s) ∷ lines) good = here (λ m more. front_of m (suc n) lines more) (kind_of s.code) refl good
  where
    here : ((m : ℕ) → IsGood (before_records false m) lines → IsFront (zones_after (suc n) lines)) → (k : ZoneKind) → kind_of s.code ≡ k
        → (rule_of_kind (before_records false r) k ≡ None) × IsGood (noted_kind (before_records false r) k) lines → IsFront (whole_zones (part_by k (suc n) s ∷ parts_after (suc n) lines))
    here more Bom e g = let h : ◌≡◌ {A = Option ℕ} (Some 108) None = g.0 in absurd (cc)
    here more Cse e g = record { charset = Some (whole_zone n s lines); body = zones_after (suc n) lines; joined = refl; charset_is = code_cse s.code e; is_body = body_of _ (suc n) lines g.1 }
    here more Rty e g = bare _ (first_group (whole_zone n s lines) _ e (tail_of false _ (suc n) lines g.1))
    here more Eom e g = bare _ (only_end (whole_zone n s lines) _ e (none_after (noted_kind (before_records false r) Eom) (suc n) lines refl g.1))
    here more Other e g = let h : ◌≡◌ {A = Option ℕ} (Some 109) None = g.0 in absurd (cc)
    here more Next e g = more _ g.1
    here more Remark e g = more _ g.1

shaped : (z : ZoneData) (zones : List ZoneData) → kind_of z.code ≡ Bom → IsFront zones → HasShape (z ∷ zones)
shaped z zones head f = (
  f.charset,
  f.is_body.groups,
  record {
    head = z;
    tail = f.is_body.tail;
    joined = ap (λ zs. z ∷ zs) (f.joined ∙ ap (λ b. option_to_list f.charset ++ b) f.is_body.joined);
    head_is = code_bom z.code head;
    charset_is = f.charset_is;
    groups_are = f.is_body.groups_are;
    tail_is = f.is_body.tail_is;
  },
)

-- after the BOM
abbrev noted_started : Bool → ℕ → Order
noted_started started r = record { started = started; begun = true; bom = true; cse = false; rty = false; eom = false; records = r + 0 }

shape_of : (started : Bool) (r n : ℕ) (lines : List Reading) → IsGood (none_yet started r) lines → HasShape (zones_after n lines)
shape_of started r n [] good = let e : false ≡ true = good in absurd (cc)
shape_of started r n (Ok None ∷ lines) good = shape_of started r (suc n) lines good.1
shape_of started r n (Err rule ∷ lines) good = let e : Some rule ≡ None = good.0 in absurd (cc)
shape_of started r n (Ok (Some s) ∷ lines) good = here (λ st m more. shape_of st m (suc n) lines more) (kind_of s.code) refl good
  where
    here : ((st : Bool) (m : ℕ) → IsGood (none_yet st m) lines → HasShape (zones_after (suc n) lines)) → (k : ZoneKind) → kind_of s.code ≡ k
        → (rule_of_kind (none_yet started r) k ≡ None) × IsGood (noted_kind (none_yet started r) k) lines → HasShape (whole_zones (part_by k (suc n) s ∷ parts_after (suc n) lines))
    here more Bom e g = shaped (whole_zone n s lines) _ e (front_of _ (suc n) lines (subst (λ b. IsGood (noted_started b r) lines) (or_true started) g.1))
    here more Cse e g = let h : ◌≡◌ {A = Option ℕ} (Some 105) None = g.0 in absurd (cc)
    here more Rty e g = let h : ◌≡◌ {A = Option ℕ} (Some 105) None = g.0 in absurd (cc)
    here more Eom e g = let h : ◌≡◌ {A = Option ℕ} (Some 105) None = g.0 in absurd (cc)
    here more Other e g = let h : ◌≡◌ {A = Option ℕ} (Some 105) None = g.0 in absurd (cc)
    here more Next e g = more _ _ g.1
    here more Remark e g = more _ _ g.1

abbrev Zones : Type 0
Zones = Result (Vec Zone Global) LineFault

-- the zones of lines that break no rule, and of which one is an end
pub shape_of_all : (lines : List Reading) (zones : List ZoneData) → IsFaultless lines → (seen_in lines).eom ≡ true → zones ≡ closed (zoned_after no_zones (parts_after 0 lines)) → HasShape zones
shape_of_all lines zones sound eom e =
    subst HasShape (sym (e ∙ closed_zones (parts_after 0 lines))) (shape_of false 0 0 lines (good_from [] lines sound eom))

pub end_shape : (lines : List Reading) (r : Reader) (result : Zones) → Stands lines r
    → IfOk result (λ zones. (entries zones.items ≡ closed (zoned r)) × (r.order.eom ≡ true)) → IfOk result (λ zones. HasShape (entries zones.items))
end_shape lines r (Ok zones) s h = shape_of_all lines (entries zones.items) s.sound (ap (λ o. o.eom) (sym s.order) ∙ h.1) (h.0 ∙ ap closed s.zones)
end_shape lines r (Err f) s h = tt

-- ---- how many records there are

begins_as : (kind : ZoneKind) (z : ZoneData) → kind_of z.code ≡ kind → begins_group z ≡ is_rty kind
begins_as Bom z e = ap (λ c. bytes_eq c (codes "RTY")) (code_bom z.code e)
begins_as Cse z e = ap (λ c. bytes_eq c (codes "RTY")) (code_cse z.code e)
begins_as Rty z e = ap (λ c. bytes_eq c (codes "RTY")) (code_rty z.code e)
begins_as Eom z e = ap (λ c. bytes_eq c (codes "RTY")) (code_eom z.code e)
begins_as Next z e = (code_inner z.code (ap is_inner_kind e)).2
begins_as Remark z e = (code_inner z.code (ap is_inner_kind e)).2
begins_as Other z e = (code_inner z.code (ap is_inner_kind e)).2

one_more_group : (z : ZoneData) (zones : List ZoneData) → begins_group z ≡ true → length (groups_of (z ∷ zones)) ≡ length (groups_of zones) + 1
one_more_group z zones e = rw e (omega arith)

no_more_group : (z : ZoneData) (zones : List ZoneData) → begins_group z ≡ false → length (groups_of (z ∷ zones)) ≡ length (groups_of zones)
no_more_group z zones e = rw e refl

-- an RTY that breaks no rule isn't that of record 10,000,000
room_for_one : (seen : Order) → rule_of_kind seen Rty ≡ None → seen.records ≤ 9999999 → seen.records + 1 ≤ 9999999
room_for_one seen e few =
    let apart : seen.records ≢ 9999999 = λ same. none_broken (kind_tests seen Rty) e 110 (inr (inr (inr (inr (inr (inl (refl, eq-eqb seen.records 9999999 same))))))) in
    omega (arith, few, apart)

few_groups : (seen : Order) (n : ℕ) (lines : List Reading) → seen.records ≤ 9999999 → IsGood seen lines → seen.records + length (groups_of (zones_after n lines)) ≤ 9999999
few_groups seen n [] few good = omega (arith, few)
few_groups seen n (Ok None ∷ lines) few good = few_groups seen (suc n) lines few good.1
few_groups seen n (Err rule ∷ lines) few good = let e : Some rule ≡ None = good.0 in absurd (cc)
few_groups seen n (Ok (Some s) ∷ lines) few good = here (λ o less more. few_groups o (suc n) lines less more) (kind_of s.code) refl good
  where
    behind : ℕ
    behind = length (groups_of (zones_after (suc n) lines))

    same : (kind : ZoneKind) → kind_of s.code ≡ kind → is_rty kind ≡ false → seen.records + 0 + behind ≤ 9999999
        → seen.records + length (groups_of (whole_zone n s lines ∷ zones_after (suc n) lines)) ≤ 9999999
    same kind e none h = omega (arith, h, no_more_group (whole_zone n s lines) (zones_after (suc n) lines) (begins_as kind (whole_zone n s lines) e ∙ none))

    here : ((o : Order) → o.records ≤ 9999999 → IsGood o lines → o.records + behind ≤ 9999999) → (k : ZoneKind) → kind_of s.code ≡ k
        → (rule_of_kind seen k ≡ None) × IsGood (noted_kind seen k) lines → seen.records + length (groups_of (whole_zones (part_by k (suc n) s ∷ parts_after (suc n) lines))) ≤ 9999999
    here more Bom e g = same Bom e refl (more (noted_kind seen Bom) (omega (arith, few)) g.1)
    here more Cse e g = same Cse e refl (more (noted_kind seen Cse) (omega (arith, few)) g.1)
    here more Eom e g = same Eom e refl (more (noted_kind seen Eom) (omega (arith, few)) g.1)
    here more Other e g = same Other e refl (more (noted_kind seen Other) (omega (arith, few)) g.1)
    here more Next e g = omega (arith, more (noted_kind seen Next) (omega (arith, few)) g.1)
    here more Remark e g = omega (arith, more (noted_kind seen Remark) (omega (arith, few)) g.1)
    here more Rty e g =
        let room = room_for_one seen g.0 few in
        let rest = more (noted_kind seen Rty) room g.1 in
        omega (arith, rest, one_more_group (whole_zone n s lines) (zones_after (suc n) lines) (begins_as Rty (whole_zone n s lines) e))

pub few_of_all : (lines : List Reading) (zones : List ZoneData) → IsFaultless lines → (seen_in lines).eom ≡ true → zones ≡ closed (zoned_after no_zones (parts_after 0 lines)) → length (groups_of zones) ≤ 9999999
few_of_all lines zones sound eom e =
    subst (λ zs. length (groups_of zs) ≤ 9999999) (sym (e ∙ closed_zones (parts_after 0 lines)))
    (let few : 0 + length (groups_of (zones_after 0 lines)) ≤ 9999999 = few_groups (seen_in []) 0 lines (lit≤ tt) (good_from [] lines sound eom) in omega (arith, few))

pub end_few : (lines : List Reading) (r : Reader) (result : Zones) → Stands lines r
    → IfOk result (λ zones. (entries zones.items ≡ closed (zoned r)) × (r.order.eom ≡ true)) → IfOk result (λ zones. length (groups_of (entries zones.items)) ≤ 9999999)
end_few lines r (Ok zones) s h = few_of_all lines (entries zones.items) s.sound (ap (λ o. o.eom) (sym s.order) ∙ h.1) (h.0 ∙ ap closed s.zones)
end_few lines r (Err f) s h = tt
