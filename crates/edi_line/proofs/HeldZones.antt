-- The zones that a reader holds are those of the lines, and one is open where the last line of weight begins one.
use Rattle.std.proofs.Common.{◌≡◌, ℕ, suc, ◌⊎◌, Bool, true, false, not, ◌||◌, cond, Option, Some, None, is_some, option_map, option_to_list, Ok, Err, List, [], ◌∷◌, ◌++◌, length, refl, sym, ap, ap₂, ◌∙◌, subst, inl, inr, arith, length-append, IsSome}
use Rattle.std.proofs.lemmas.List.{append-nil}
use Rattle.edi_line.specs.ZoneData.{ZoneData}
use Rattle.edi_line.specs.Feeding.{Zoned, EndsInZone, HoldsZones}
use Rattle.edi_line.specs.LineKinds.{code_is, is_zone, starts, bears, some_bears}
use Rattle.edi_line.specs.inner.Kinds.{kind_of, is_zone_kind, is_start_kind}
use Rattle.edi_line.specs.Spelling.{Reading}
use Rattle.edi_line.specs.Zones.{IsZonesIn}
use Rattle.edi_line.specs.inner.Held.{no_zones, closed, zoned_step, zoned_after}
use Rattle.edi_line.specs.inner.Zones.{part_by, part_of, parts_after}
use Rattle.edi_line.specs.declared.order.ZoneKind.{ZoneKind}
use Rattle.edi_line.specs.declared.order.ZoneKind.TheVariants.{Bom, Cse, Rty, Eom, Other, Next, Remark}
use Rattle.edi_line.proofs.KindsSaid.{zone_same, starts_same}
use Rattle.edi_line.proofs.Rules.{closed_zones}
use Rattle.edi_line.proofs.ZonesSaid.{or_first, or_second, zones_exist, zones_one}

-- ---- whether a zone is open

-- after a line
abbrev open_then : Bool → Reading → Bool
open_then b line = cond (bears starts line) (bears is_zone line) b

abbrev open_by : Bool → List Reading → Bool
open_by b [] = b
open_by b (line ∷ lines) = open_by (open_then b line) lines

some_mapped : {X Y : Type 0} (f : X → Y) (o : Option X) → is_some (option_map f o) ≡ is_some o
some_mapped f None = refl
some_mapped f (Some x) = refl

open_step : (n : ℕ) (z : Zoned) (line : Reading) → is_some (zoned_step (part_of n line) z).open_zone ≡ open_then (is_some z.open_zone) line
open_step n z (Ok None) = refl
open_step n z (Err rule) = refl
open_step n z (Ok (Some s)) = by (kind_of s.code) ∙ ap₂ (λ a b. cond a b (is_some z.open_zone)) (sym (starts_same s.code)) (sym (zone_same s.code))
  where
    by : (k : ZoneKind) → is_some (zoned_step (part_by k n s) z).open_zone ≡ cond (is_start_kind k) (is_zone_kind k) (is_some z.open_zone)
    by Next = some_mapped _ z.open_zone
    by Remark = refl
    by Bom = refl
    by Cse = refl
    by Rty = refl
    by Eom = refl
    by Other = refl

open_after : (n : ℕ) (z : Zoned) (lines : List Reading) → is_some (zoned_after z (parts_after n lines)).open_zone ≡ open_by (is_some z.open_zone) lines
open_after n z [] = refl
open_after n z (line ∷ lines) = open_after (suc n) (zoned_step (part_of (suc n) line) z) lines ∙ ap (λ b. open_by b lines) (open_step (suc n) z line)

open_through : (b : Bool) (lines : List Reading) → some_bears starts lines ≡ false → open_by b lines ≡ b
open_through b [] none = refl
open_through b (line ∷ lines) none = ap (λ c. open_by (cond c (bears is_zone line) b) lines) (or_first _ _ none) ∙ open_through b lines (or_second _ _ none)

not_either : (a b : Bool) → not (a || b) ≡ true → not a ≡ true
not_either true b e = e
not_either false b e = refl

zone_starts : (line : Reading) → bears is_zone line ≡ true → bears starts line ≡ true
zone_starts (Ok (Some s)) e = not_either (code_is "NEX" s.code) (code_is "REM" s.code) e
zone_starts (Ok None) e = absurd cc
zone_starts (Err rule) e = absurd cc

open_in : (b : Bool) (before : List Reading) (line : Reading) (behind : List Reading) → bears is_zone line ≡ true → some_bears starts behind ≡ false → open_by b (before ++ line ∷ behind) ≡ true
open_in b [] line behind begins through = ap (λ c. open_by (cond c (bears is_zone line) b) behind) (zone_starts line begins) ∙ open_through (bears is_zone line) behind through ∙ begins
open_in b (x ∷ before) line behind begins through = open_in (open_then b x) before line behind begins through

behind_one : (x : Reading) (lines : List Reading) → EndsInZone lines → EndsInZone (x ∷ lines)
behind_one x lines h = record { before = x ∷ h.before; line = h.line; behind = h.behind; cut = ap (λ ls. x ∷ ls) h.cut; begins = h.begins; through = h.through }

open_from : (b : Bool) (lines : List Reading) → open_by b lines ≡ true → EndsInZone lines ⊎ ((b ≡ true) × (some_bears starts lines ≡ false))
open_from b [] e = inr (e, refl)
open_from b (line ∷ lines) e = along (open_from (open_then b line) lines e)
  where
    here : (c : Bool) → bears starts line ≡ c → cond c (bears is_zone line) b ≡ true → some_bears starts lines ≡ false → EndsInZone (line ∷ lines) ⊎ ((b ≡ true) × (some_bears starts (line ∷ lines) ≡ false))
    here true s t through = inl (record { before = []; line = line; behind = lines; cut = refl; begins = t; through = through })
    here false s t through = inr (t, rw (s, through) refl)

    along : EndsInZone lines ⊎ ((open_then b line ≡ true) × (some_bears starts lines ≡ false)) → EndsInZone (line ∷ lines) ⊎ ((b ≡ true) × (some_bears starts (line ∷ lines) ≡ false))
    along (inl h) = inl (behind_one line lines h)
    along (inr h) = here (bears starts line) refl h.0 h.1

abbrev zoned_in : List Reading → Zoned
zoned_in lines = zoned_after no_zones (parts_after 0 lines)

open_said : (lines : List Reading) → IsSome (zoned_in lines).open_zone → EndsInZone lines
open_said lines e = along (open_from false lines (sym (open_after 0 no_zones lines) ∙ e))
  where
    along : EndsInZone lines ⊎ ((false ≡ true) × (some_bears starts lines ≡ false)) → EndsInZone lines
    along (inl h) = h
    along (inr h) = let e : false ≡ true = h.0 in absurd cc

open_there : (lines : List Reading) → EndsInZone lines → IsSome (zoned_in lines).open_zone
open_there lines h = open_after 0 no_zones lines ∙ ap (open_by false) h.cut ∙ open_in false h.before h.line h.behind h.begins h.through

-- ---- the zones

pub held_zones : (lines : List Reading) → HoldsZones lines (zoned_in lines)
held_zones lines = record {
  zones = subst (IsZonesIn lines) (sym (closed_zones (parts_after 0 lines))) (zones_exist lines);
  is_open = (open_said lines, open_there lines);
}

push_same : {X : Type 0} (xs ys : List X) (x y : X) → xs ++ x ∷ [] ≡ ys ++ y ∷ [] → (xs ≡ ys) × (x ≡ y)
push_same [] [] x y e = (refl, cc)
push_same [] (z ∷ ys) x y e = absurd (omega (arith, ap length e, length-append ys (y ∷ [])))
push_same (z ∷ xs) [] x y e = absurd (omega (arith, ap length e, length-append xs (x ∷ [])))
push_same (z ∷ xs) (w ∷ ys) x y e =
    let head : z ≡ w = cc in
    let rest : xs ++ x ∷ [] ≡ ys ++ y ∷ [] = cc in
    let more = push_same xs ys x y rest in
    (ap₂ (λ a rest. a ∷ rest) head more.0, more.1)

abbrev zoned_made : List ZoneData → Option ZoneData → Zoned
zoned_made done open_zone = record { done = done; open_zone = open_zone }

same_zoned : (xs ys : List ZoneData) (a b : Option ZoneData) → xs ++ option_to_list a ≡ ys ++ option_to_list b → (IsSome a → IsSome b) → (IsSome b → IsSome a) → zoned_made xs a ≡ zoned_made ys b
same_zoned xs ys None None e to back = ap (λ d. zoned_made d None) (sym (append-nil xs) ∙ e ∙ append-nil ys)
same_zoned xs ys None (Some b) e to back = let h : false ≡ true = back refl in absurd cc
same_zoned xs ys (Some a) None e to back = let h : false ≡ true = to refl in absurd cc
same_zoned xs ys (Some a) (Some b) e to back = let p = push_same xs ys a b e in ap₂ (λ d o. zoned_made d (Some o)) p.0 p.1

pub zones_held : (lines : List Reading) (z : Zoned) → HoldsZones lines z → z ≡ zoned_in lines
zones_held lines z h =
    let w = held_zones lines in
    same_zoned z.done (zoned_in lines).done z.open_zone (zoned_in lines).open_zone
    (zones_one lines (closed z) (closed (zoned_in lines)) h.zones w.zones)
    (λ some. w.is_open.1 (h.is_open.0 some)) (λ some. h.is_open.1 (w.is_open.0 some))
