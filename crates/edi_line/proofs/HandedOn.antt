-- A reader that lets zones go when they were handed on.
use Rattle.std.proofs.Common.{◌≡◌, ℕ, ◌+◌, ◌≤◌, true, Option, Some, None, List, [], ◌∷◌, ◌++◌, length, length-append, option_map, option_to_list, refl, sym, ap, ◌∙◌, subst, arith}
use Rattle.std.proofs.lemmas.List.{append-nil, append_assoc, length_push}
use Rattle.edi_line.specs.ZoneData.{ZoneData}
use Rattle.edi_line.specs.Feeding.{seen_in, Zoned}
use Rattle.edi_line.specs.Groups.{IsHandedOut}
use Rattle.edi_line.specs.LineRules.{BreaksIn, BreaksLineRule}
use Rattle.edi_line.specs.Refusal.{IsLeastBroken, IsUnbroken}
use Rattle.edi_line.specs.Spelling.{Reading}
use Rattle.edi_line.specs.Zones.{groups_of}
use Rattle.edi_line.specs.inner.Groups.{IsStateOf, KeepsHanded, handed_at_first, with_end, with_zones}
use Rattle.edi_line.specs.inner.HandingOn.{IsAtLines, IsHandedOutBehind, WentOn, behind}
use Rattle.edi_line.specs.inner.Held.{rule_of, noted, no_zones, closed, zoned_step, zoned_after, zoned, TakesNextLine, BreaksAtNext, Stands}
use Rattle.edi_line.specs.inner.Zones.{Part, part_of, parts_after, readings_of}
use Rattle.edi_line.specs.inner.Zones.Part.{Blank, Continues, IsRemark, Begins}
use Rattle.edi_line.specs.declared.fault.LineFault.TheVariants as fault
use Rattle.edi_line.specs.declared.groups.Handing.{Handing}
use Rattle.edi_line.specs.declared.reading.Reader.{Reader}
use Rattle.edi_line.proofs.HandedZones.{zones_behind, all_groups, charset_found}
use Rattle.edi_line.proofs.Passes.{EndFault, zones_of_all, refusal_of_end, unbroken_at_end}
use Rattle.edi_line.proofs.Rules.{IsFaultless, noted_seen, refused_here, sound_more, zones_more}
use Rattle.edi_line.proofs.Said.{charset_in_front}
use Rattle.edi_line.proofs.Shape.{shape_of_all, few_of_all}

-- ---- what the reader holds

step_behind : (given : List ZoneData) (part : Part) (z : Zoned) → zoned_step part (behind given z) ≡ behind given (zoned_step part z)
step_behind given Blank z = refl
step_behind given (Continues value) z = refl
step_behind given IsRemark z = ap (λ d. record { done = d; open_zone = None }) (append_assoc given z.done (option_to_list z.open_zone))
step_behind given (Begins zone) z = ap (λ d. record { done = d; open_zone = Some zone }) (append_assoc given z.done (option_to_list z.open_zone))

-- ---- on the way through the lines

pub at_start : (lines : List Reading) (r : Reader) (h : Handing) → Stands [] r → IsStateOf handed_at_first h → IsAtLines lines lines [] r h
at_start lines r h s state = record {
  done = [];
  cut = refl;
  counted = s.counted;
  order = s.order;
  zones = s.zones;
  sound = s.sound;
  state = state;
}

-- the same with another reader that holds the same
pub at_same : (lines left : List Reading) (given : List ZoneData) (old new : Reader) (h : Handing) → new.line ≡ old.line → new.order ≡ old.order → zoned new ≡ zoned old
    → IsAtLines lines left given old h → IsAtLines lines left given new h
at_same lines left given old new h line order zones at = record {
  done = at.done;
  cut = at.cut;
  counted = line ∙ at.counted;
  order = order ∙ at.order;
  zones = ap (behind given) zones ∙ at.zones;
  sound = at.sound;
  state = at.state;
}

-- one line more
pub line_taken : (lines left : List Reading) (line : Reading) (given : List ZoneData) (old new : Reader) (h : Handing) → TakesNextLine old line new → IsAtLines lines (line ∷ left) given old h → IsAtLines lines left given new h
line_taken lines left line given old new h t at =
    let part = part_of (old.line + 1) line in
    record {
      done = at.done ++ line ∷ [];
      cut = at.cut ∙ sym (append_assoc at.done (line ∷ []) left);
      counted = omega (arith, t.counted, at.counted, length_push at.done line);
      order = t.order ∙ ap (λ o. noted o line) at.order ∙ noted_seen at.done line;
      zones = zones_more at.done line old.line (behind given (zoned old)) (behind given (zoned new)) at.counted at.zones (ap (behind given) t.zones ∙ sym (step_behind given part (zoned old)));
      sound = λ rule place b. sound_more at.done line at.sound (sym (ap (λ o. rule_of o line) at.order) ∙ t.no_rule) rule place b;
      state = at.state;
    }

-- the zones that are done are handed on and dropped
pub zones_gone : (lines left : List Reading) (given done : List ZoneData) (old new : Reader) (h h_now : Handing) (Before After : List (List ZoneData) → List ZoneData → Type 0)
    → done ≡ (zoned old).done
    → (IsStateOf (with_zones handed_at_first given) h → IsStateOf (with_zones (with_zones handed_at_first given) done) h_now)
    → ((groups : List (List ZoneData)) → IsStateOf (with_zones handed_at_first given) h → KeepsHanded Before groups (with_zones handed_at_first given) → KeepsHanded After groups (with_zones (with_zones handed_at_first given) done))
    → new.line ≡ old.line → new.order ≡ old.order → zoned new ≡ record { done = []; open_zone = (zoned old).open_zone }
    → IsAtLines lines left given old h → WentOn lines left given new h_now Before After
zones_gone lines left given done old new h h_now Before After is state on same_line same_order zones at = record {
  given_now = given ++ done;
  at = record {
    done = at.done;
    cut = at.cut;
    counted = same_line ∙ at.counted;
    order = same_order ∙ at.order;
    zones = ap (behind (given ++ done)) zones ∙ ap (λ d. record { done = d; open_zone = (zoned old).open_zone }) (append-nil (given ++ done) ∙ ap (λ l. given ++ l) is) ∙ at.zones;
    sound = at.sound;
    state = subst (λ s. IsStateOf s h_now) (sym (zones_behind handed_at_first given done)) (state at.state);
  };
  handed = λ groups before. subst (KeepsHanded After groups) (sym (zones_behind handed_at_first given done)) (on groups at.state before);
}

-- ---- going on

pub went_nowhere : (lines left : List Reading) (given : List ZoneData) (r : Reader) (h : Handing) (Holds : List (List ZoneData) → List ZoneData → Type 0) → IsAtLines lines left given r h → WentOn lines left given r h Holds Holds
went_nowhere lines left given r h Holds at = record { given_now = given; at = at; handed = λ groups before. before }

-- a reader goes on, and then on again
pub went_further : {lines mid left : List Reading} {given : List ZoneData} {old new : Reader} {h h_now : Handing} {Before Between After : List (List ZoneData) → List ZoneData → Type 0}
    → ((g : List ZoneData) → IsAtLines lines mid g old h → WentOn lines left g new h_now Between After) → WentOn lines mid given old h Before Between → WentOn lines left given new h_now Before After
went_further more went =
    let further = more went.given_now went.at in
    record { given_now = further.given_now; at = further.at; handed = λ groups before. further.handed groups (went.handed groups before) }

pub room_left : (lines left : List Reading) (given : List ZoneData) (r : Reader) (h : Handing) → IsAtLines lines left given r h → r.line ≤ length lines
room_left lines left given r h at = omega (arith, at.counted, ap length at.cut, length-append at.done left)

-- ---- faults

-- the line that comes next breaks a rule
pub line_refused : (lines left : List Reading) (line : Reading) (given : List ZoneData) (r : Reader) (h : Handing) (rule place : ℕ)
    → BreaksAtNext r line rule place → IsAtLines lines (line ∷ left) given r h → IsLeastBroken (BreaksIn lines) rule place
line_refused lines left line given r h rule place refuses at =
    refused_here lines at.done line left rule place at.cut at.sound (omega (arith, refuses.0, at.counted)) (ap (λ o. rule_of o line) (sym at.order) ∙ refuses.1)

-- ---- the end

all_come : (lines : List Reading) (given : List ZoneData) (r : Reader) (h : Handing) (at : IsAtLines lines [] given r h) → at.done ≡ lines
all_come lines given r h at = sym (at.cut ∙ append-nil at.done)

pub end_refused : (bytes : List ℕ) (given : List ZoneData) (r : Reader) (h : Handing) (rule place : ℕ) → EndFault r rule place → IsAtLines (readings_of bytes) [] given r h → IsLeastBroken (BreaksLineRule bytes) rule place
end_refused bytes given r h rule place lacks at =
    let all = all_come (readings_of bytes) given r h at in
    refusal_of_end bytes r (fault.Broken rule place) (subst IsFaultless all at.sound) (at.order ∙ ap seen_in all) (at.counted ∙ ap length all) lacks

pub end_unbroken : (bytes : List ℕ) (given : List ZoneData) (r : Reader) (h : Handing) → r.order.eom ≡ true → IsAtLines (readings_of bytes) [] given r h → IsUnbroken (BreaksLineRule bytes)
end_unbroken bytes given r h eom at =
    let all = all_come (readings_of bytes) given r h at in
    unbroken_at_end bytes (subst IsFaultless all at.sound) (ap (λ o. o.eom) (sym (at.order ∙ ap seen_in all)) ∙ eom)

-- all lines have come, and the rest is handed on
pub all_handed : (bytes : List ℕ) (given zones : List ZoneData) (r : Reader) (h h_end : Handing) (Before After : List (List ZoneData) → List ZoneData → Type 0)
    → zones ≡ closed (zoned r) → r.order.eom ≡ true
    → IsStateOf (with_end (with_zones (with_zones handed_at_first given) zones)) h_end
    → ((groups : List (List ZoneData)) → KeepsHanded Before groups (with_zones handed_at_first given) → KeepsHanded After groups (with_end (with_zones (with_zones handed_at_first given) zones)))
    → IsAtLines (readings_of bytes) [] given r h → IsHandedOutBehind given bytes h_end.charset Before After
all_handed bytes given zones r h h_end Before After is eom state on at =
    let come = all_come (readings_of bytes) given r h at in
    let sound = subst IsFaultless come at.sound in
    let eom_seen = ap (λ o. o.eom) (sym (at.order ∙ ap seen_in come)) ∙ eom in
    let all : given ++ zones ≡ closed (zoned_after no_zones (parts_after 0 (readings_of bytes))) =
    ap (λ l. given ++ l) is ∙ sym (append_assoc given (zoned r).done (option_to_list (zoned r).open_zone)) ∙ ap closed at.zones ∙ ap (λ ls. closed (zoned_after no_zones (parts_after 0 ls))) come in
    let shape = shape_of_all (readings_of bytes) (given ++ zones) sound eom_seen all in
    let same = zones_behind handed_at_first given zones in
    let found : (with_end (with_zones (with_zones handed_at_first given) zones)).groups ≡ groups_of (given ++ zones) = ap (λ s. (with_end s).groups) (sym same) ∙ all_groups (given ++ zones) in
    record {
      zones = given ++ zones;
      of_file = zones_of_all bytes (given ++ zones) sound all;
      shape = shape;
      few = few_of_all (readings_of bytes) (given ++ zones) sound eom_seen all;
      charset_is = state.charset ∙ ap (λ s. s.charset) (sym same) ∙ charset_found (given ++ zones) ∙ ap (option_map (λ z. z.value)) (charset_in_front (given ++ zones) shape.0 shape.1 shape.2);
      handed = λ groups before. subst (λ gs. After (groups ++ gs) []) found (on groups before);
    }

-- the same where fewer had been handed on before
pub behind_others : (fewer given : List ZoneData) (bytes : List ℕ) (charset : Option (List ℕ)) (Before Between After : List (List ZoneData) → List ZoneData → Type 0)
    → ((groups : List (List ZoneData)) → KeepsHanded Before groups (with_zones handed_at_first fewer) → KeepsHanded Between groups (with_zones handed_at_first given)) → IsHandedOutBehind given bytes charset Between After
    → IsHandedOutBehind fewer bytes charset Before After
behind_others fewer given bytes charset Before Between After on h = record {
  zones = h.zones;
  of_file = h.of_file;
  shape = h.shape;
  few = h.few;
  charset_is = h.charset_is;
  handed = λ groups before. h.handed groups (on groups before);
}

-- all were handed on where these had been already
pub handed_by : (bytes : List ℕ) (given : List ZoneData) (charset : Option (List ℕ)) (Before Others After : List (List ZoneData) → List ZoneData → Type 0)
    → ((groups : List (List ZoneData)) → Before groups [] → KeepsHanded Others groups (with_zones handed_at_first given)) → IsHandedOutBehind given bytes charset Others After → IsHandedOut bytes charset Before After
handed_by bytes given charset Before Others After on h = record {
  zones = h.zones;
  of_file = h.of_file;
  shape = h.shape;
  few = h.few;
  charset_is = h.charset_is;
  handed = λ groups before. h.handed groups (on groups before);
}

-- none had been handed on at first
pub held_at_first : (Holds : List (List ZoneData) → List ZoneData → Type 0) (groups : List (List ZoneData)) → Holds groups [] → KeepsHanded Holds groups handed_at_first
held_at_first Holds groups held = subst (λ gs. Holds gs []) (sym (append-nil groups)) held

pub handed_from_none : (bytes : List ℕ) (charset : Option (List ℕ)) (Before After : List (List ZoneData) → List ZoneData → Type 0) → IsHandedOutBehind [] bytes charset Before After → IsHandedOut bytes charset Before After
handed_from_none bytes charset Before After h = handed_by bytes [] charset Before Before After (held_at_first Before) h
