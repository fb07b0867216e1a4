-- A reader on its way through the lines of a file.
use Rattle.std.proofs.Common.{◌≡◌, ℕ, ◌+◌, true, false, Some, Result, Ok, Err, List, [], ◌∷◌, ◌++◌, length, take, drop, map, sym, ap, ◌∙◌, subst, arith, IfOk, IfErr, OnOk, Vec, Global}
use Rattle.std.proofs.lemmas.List.{append-nil, append_assoc, length_push, take-append-drop, length-take-le, length-drop, take_at, drop_at}
use Rattle.edi_line.specs.ZoneData.{ZoneData, entries}
use Rattle.edi_line.specs.Lines.{content_of}
use Rattle.edi_line.specs.inner.Lines.{lines_in}
use Rattle.edi_line.specs.Spelling.{Reading}
use Rattle.edi_line.specs.inner.Spelling.{reading_of}
use Rattle.edi_line.specs.inner.Zones.{readings_of, parts_after}
use Rattle.edi_line.specs.Feeding.{seen_in}
use Rattle.edi_line.specs.LineRules.{BreaksIn, BreaksLineRule, IsZonesOf}
use Rattle.edi_line.specs.Refusal.{IsLeastBroken, IsUnbroken, IfBroken}
use Rattle.edi_line.specs.inner.Held.{rule_of, no_zones, closed, zoned_after, zoned, TakesNextLine, Stands}
use Rattle.edi_line.specs.declared.fault.LineFault.{LineFault}
use Rattle.edi_line.specs.declared.fault.LineFault.TheVariants as fault
use Rattle.edi_line.specs.declared.reading.Reader.{Reader}
use Rattle.edi_line.specs.declared.zone.Zone.{Zone}
use Rattle.edi_line.proofs.Readings.{least_said, unbroken_said}
use Rattle.edi_line.proofs.ZonesSaid.{zones_said}
use Rattle.edi_line.proofs.Rules.{IsFaultless, stands_more, refused_here, refused_at_end, sound_at_end, closed_zones}

-- the lines up to the next one, that one, and those behind it
pub record Next (lines : List Reading) (n : ℕ) (line : Reading) (after : List Reading) : Type 0 where
  pub whole : lines ≡ take n lines ++ line ∷ after
  pub long : length (take n lines) ≡ n
  pub more : take (n + 1) lines ≡ take n lines ++ line ∷ []
  pub rest : drop (n + 1) lines ≡ after

pub next_of : (lines : List Reading) (n : ℕ) (line : Reading) (after : List Reading) → drop n lines ≡ line ∷ after → Next lines n line after
next_of lines n line after e =
    let whole : lines ≡ take n lines ++ line ∷ after = sym (take-append-drop n lines) ∙ ap (λ xs. take n lines ++ xs) e in
    let left = length-drop n lines in
    let count = ap length e in
    let long : length (take n lines) ≡ n = length-take-le n lines (omega (arith, left, count)) in
    let apart : lines ≡ (take n lines ++ line ∷ []) ++ after = whole ∙ sym (append_assoc (take n lines) (line ∷ []) after) in
    let one : length (take n lines ++ line ∷ []) ≡ n + 1 = omega (arith, length_push (take n lines) line, long) in
    record {
      whole = whole;
      long = long;
      more = ap (take (n + 1)) apart ∙ take_at (take n lines ++ line ∷ []) after (n + 1) one;
      rest = ap (drop (n + 1)) apart ∙ drop_at (take n lines ++ line ∷ []) after (n + 1) one;
    }

-- where a reader is
pub record IsAt (lines : List Reading) (r : Reader) (left : List Reading) : Type 0 where
  pub stands : Stands (take r.line lines) r
  pub left_is : drop r.line lines ≡ left

pub taken : (lines : List Reading) (old new : Reader) (line : Reading) (after : List Reading) → IsAt lines old (line ∷ after) → TakesNextLine old line new → IsAt lines new after
taken lines old new line after at t =
    let next = next_of lines old.line line after at.left_is in
    record {
      stands = subst (λ n. Stands (take n lines) new) (sym t.counted) (subst (λ done. Stands done new) (sym next.more) (stands_more (take old.line lines) line old new at.stands t));
      left_is = ap (λ n. drop n lines) t.counted ∙ next.rest;
    }

pub refused : (lines : List Reading) (old : Reader) (line : Reading) (after : List Reading) (rule place : ℕ) → IsFaultless (take old.line lines) → old.order ≡ seen_in (take old.line lines) → drop old.line lines ≡ line ∷ after
    → place ≡ old.line + 1 → rule_of old.order line ≡ Some rule → IsLeastBroken (BreaksIn lines) rule place
refused lines old line after rule place sound order left place_is e =
    let next = next_of lines old.line line after left in
    refused_here lines (take old.line lines) line after rule place next.whole sound (omega (arith, place_is, next.long)) (ap (λ o. rule_of o line) (sym order) ∙ e)

-- a reader that has gone through all lines
pub taken_all : (lines : List Reading) (n : ℕ) → drop n lines ≡ [] → take n lines ≡ lines
taken_all lines n none = sym (append-nil (take n lines)) ∙ ap (λ xs. take n lines ++ xs) (sym none) ∙ take-append-drop n lines

pub all_taken : (lines : List Reading) (r : Reader) → IsAt lines r [] → Stands lines r
all_taken lines r at = subst (λ done. Stands done r) (taken_all lines r.line at.left_is) at.stands

pub readings_step : (bytes line after : List ℕ) → lines_in bytes ≡ line ∷ lines_in after → readings_of bytes ≡ reading_of (content_of line) ∷ readings_of after
readings_step bytes line after e = ap (λ lines. map reading_of (map content_of lines)) e

-- a fault that is of a line
pub refusal_of_line : (bytes : List ℕ) (old : Reader) (line : Reading) (after : List Reading) (f : LineFault) → IsFaultless (take old.line (readings_of bytes)) → old.order ≡ seen_in (take old.line (readings_of bytes))
    → drop old.line (readings_of bytes) ≡ line ∷ after → IfBroken (λ rule at. (at ≡ old.line + 1) × (rule_of old.order line ≡ Some rule)) f → IfBroken (IsLeastBroken (BreaksLineRule bytes)) f
refusal_of_line bytes old line after (fault.Memory e) sound order left h = tt
refusal_of_line bytes old line after (fault.Broken rule place) sound order left h = least_said bytes rule place (refused (readings_of bytes) old line after rule place sound order left h.0 h.1)

pub fault_refused : (bytes : List ℕ) (old : Reader) (line : Reading) (after : List Reading) (f : LineFault) → IsAt (readings_of bytes) old (line ∷ after)
    → IfBroken (λ rule at. (at ≡ old.line + 1) × (rule_of old.order line ≡ Some rule)) f → IfBroken (IsLeastBroken (BreaksLineRule bytes)) f
fault_refused bytes old line after f at h = refusal_of_line bytes old line after f at.stands.sound at.stands.order at.left_is h

abbrev pub EndFault : Reader → ℕ → ℕ → Type 0
EndFault r rule at = (rule ≡ 106) × (at ≡ r.line + 1) × (r.order.eom ≡ false)

pub refusal_of_end : (bytes : List ℕ) (r : Reader) (f : LineFault) → IsFaultless (readings_of bytes) → r.order ≡ seen_in (readings_of bytes) → r.line ≡ length (readings_of bytes)
    → IfBroken (EndFault r) f → IfBroken (IsLeastBroken (BreaksLineRule bytes)) f
refusal_of_end bytes r (fault.Memory e) sound order counted h = tt
refusal_of_end bytes r (fault.Broken rule place) sound order counted h =
    least_said bytes rule place (refused_at_end (readings_of bytes) rule place sound (ap (λ o. o.eom) (sym order) ∙ h.2) h.0 (omega (arith, h.1, counted)))

abbrev Zones : Type 0
Zones = Result (Vec Zone Global) LineFault

abbrev EndsWell : Reader → Zones → Type 0
EndsWell r result = IfOk result (λ zones. (entries zones.items ≡ closed (zoned r)) × (r.order.eom ≡ true))

pub end_refused : (bytes : List ℕ) (r : Reader) (result : Zones) → Stands (readings_of bytes) r
    → IfErr result (IfBroken (EndFault r)) → IfErr result (IfBroken (IsLeastBroken (BreaksLineRule bytes)))
end_refused bytes r (Ok zones) s h = tt
end_refused bytes r (Err f) s h = refusal_of_end bytes r f s.sound s.order s.counted h

pub unbroken_at_end : (bytes : List ℕ) → IsFaultless (readings_of bytes) → (seen_in (readings_of bytes)).eom ≡ true → IsUnbroken (BreaksLineRule bytes)
unbroken_at_end bytes sound eom = unbroken_said bytes (sound_at_end (readings_of bytes) sound eom)

pub end_sound : (bytes : List ℕ) (r : Reader) (result : Zones) → Stands (readings_of bytes) r
    → EndsWell r result → OnOk result (IsUnbroken (BreaksLineRule bytes))
end_sound bytes r (Ok zones) s h = unbroken_at_end bytes s.sound (ap (λ o. o.eom) (sym s.order) ∙ h.1)
end_sound bytes r (Err f) s h = tt

-- the zones of lines that break no rule
pub zones_of_all : (bytes : List ℕ) (zones : List ZoneData) → IsFaultless (readings_of bytes) → zones ≡ closed (zoned_after no_zones (parts_after 0 (readings_of bytes))) → IsZonesOf bytes zones
zones_of_all bytes zones sound e = zones_said bytes zones (record {
  readable = λ rule place own broken. sound rule place broken;
  is = e ∙ closed_zones (parts_after 0 (readings_of bytes));
})

pub end_zones : (bytes : List ℕ) (r : Reader) (result : Zones) → Stands (readings_of bytes) r
    → EndsWell r result → IfOk result (λ zones. IsZonesOf bytes (entries zones.items))
end_zones bytes r (Ok zones) s h = zones_of_all bytes (entries zones.items) s.sound (h.0 ∙ ap closed s.zones)
end_zones bytes r (Err f) s h = tt
