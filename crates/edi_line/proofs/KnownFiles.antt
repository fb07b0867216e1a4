-- The refusal of a file whose lines are known.
use Rattle.std.proofs.Common.{◌≡◌, ℕ, ◌+◌, Bool, true, false, Option, Some, None, List, [], ◌∷◌, ◌++◌, length, refl, sym, ap, ◌∙◌, subst, inl}
use Rattle.std.proofs.lemmas.List.{append-nil, append_assoc, length_push}
use Rattle.edi_line.specs.ZoneData.{ZoneData}
use Rattle.edi_line.specs.Spelling.{Reading}
use Rattle.edi_line.specs.inner.Zones.{readings_of}
use Rattle.edi_line.proofs.ZonesFound.{zones_of}
use Rattle.edi_line.specs.LineRules.{BreaksIn, BreaksLineRule, IsZonesOf}
use Rattle.edi_line.specs.Refusal.{IsLeastBroken, IsUnbroken}
use Rattle.edi_line.specs.inner.Held.{rule_of, noted}
use Rattle.edi_line.specs.Feeding.{seen_in}
use Rattle.edi_line.specs.declared.order.Order.{Order}
use Rattle.edi_line.proofs.Readings.{least_said, unbroken_said}
use Rattle.edi_line.proofs.ZonesSaid.{zones_said}
use Rattle.edi_line.proofs.Rules.{IsFaultless, no_cut_of_none, noted_seen, sound_more, refused_here, refused_at_end, sound_at_end}

-- a rule and its place
pub data Fault : Type 0 where
  At : ℕ → ℕ → Fault

abbrev pub found_or : Option ℕ → ℕ → Option Fault → Option Fault
found_or (Some rule) place later = Some (At rule place)
found_or None place later = later

abbrev pub at_end : Bool → ℕ → Option Fault
at_end true place = None
at_end false place = Some (At 106 place)

-- the first fault of these lines, the first of which has this number, where this was seen before them
abbrev pub first_fault : Order → ℕ → List Reading → Option Fault
first_fault seen place [] = at_end seen.eom place
first_fault seen place (line ∷ lines) = found_or (rule_of seen line) place (first_fault (noted seen line) (place + 1) lines)

fault_said : (rule place r p : ℕ) → ◌≡◌ {A = Option Fault} (Some (At rule place)) (Some (At r p)) → (rule ≡ r) × (place ≡ p)
fault_said rule place r p e = (let h : rule ≡ r = cc in h, let h : place ≡ p = cc in h)

refused_from : (done lines : List Reading) (rule place : ℕ) → IsFaultless done → first_fault (seen_in done) (length done + 1) lines ≡ Some (At rule place)
    → IsLeastBroken (BreaksIn (done ++ lines)) rule place
refused_from done [] rule place sound e = subst (λ l. IsLeastBroken (BreaksIn l) rule place) (sym (append-nil done)) (along (seen_in done).eom refl e)
  where
    along : (b : Bool) → (seen_in done).eom ≡ b → at_end b (length done + 1) ≡ Some (At rule place) → IsLeastBroken (BreaksIn done) rule place
    along true is e = cc
    along false is e =
        let said = fault_said 106 (length done + 1) rule place e in
        refused_at_end done rule place sound is (sym said.0) (sym said.1)
refused_from done (line ∷ lines) rule place sound e =
    along (λ none later. refused_from (done ++ line ∷ []) lines rule place (sound_more done line sound none) later) (rule_of (seen_in done) line) refl e
  where
    rest : Option Fault
    rest = first_fault (noted (seen_in done) line) (length done + 1 + 1) lines

    next : rest ≡ first_fault (seen_in (done ++ line ∷ [])) (length (done ++ line ∷ []) + 1) lines
    next = ap (λ o. first_fault o (length done + 1 + 1) lines) (noted_seen done line) ∙ ap (λ n. first_fault (seen_in (done ++ line ∷ [])) (n + 1) lines) (sym (length_push done line))

    along : (rule_of (seen_in done) line ≡ None → first_fault (seen_in (done ++ line ∷ [])) (length (done ++ line ∷ []) + 1) lines ≡ Some (At rule place) → IsLeastBroken (BreaksIn ((done ++ line ∷ []) ++ lines)) rule place)
        → (r : Option ℕ) → rule_of (seen_in done) line ≡ r → found_or r (length done + 1) rest ≡ Some (At rule place) → IsLeastBroken (BreaksIn (done ++ line ∷ lines)) rule place
    along more None is e = subst (λ l. IsLeastBroken (BreaksIn l) rule place) (append_assoc done (line ∷ []) lines) (more is (sym next ∙ e))
    along more (Some r) is e =
        let said = fault_said r (length done + 1) rule place e in
        refused_here (done ++ line ∷ lines) done line lines rule place refl sound (sym said.1) (is ∙ ap (λ x. Some x) said.0)

none_before : IsFaultless []
none_before rule place b = no_cut_of_none b.before b.line b.after b.cut

-- the fault that going through the lines finds is the refusal of the file
pub refused_as : (bytes : List ℕ) (rule place : ℕ) → first_fault (seen_in []) 1 (readings_of bytes) ≡ Some (At rule place) → IsLeastBroken (BreaksLineRule bytes) rule place
refused_as bytes rule place e = least_said bytes rule place (refused_from [] (readings_of bytes) rule place none_before e)

sound_from : (done lines : List Reading) → IsFaultless done → first_fault (seen_in done) (length done + 1) lines ≡ None → IsUnbroken (BreaksIn (done ++ lines))
sound_from done [] sound e = subst (λ l. IsUnbroken (BreaksIn l)) (sym (append-nil done)) (along (seen_in done).eom refl e)
  where
    along : (b : Bool) → (seen_in done).eom ≡ b → at_end b (length done + 1) ≡ None → IsUnbroken (BreaksIn done)
    along true is e = sound_at_end done sound is
    along false is e = cc
sound_from done (line ∷ lines) sound e =
    along (λ none later. sound_from (done ++ line ∷ []) lines (sound_more done line sound none) later) (rule_of (seen_in done) line) refl e
  where
    rest : Option Fault
    rest = first_fault (noted (seen_in done) line) (length done + 1 + 1) lines

    next : rest ≡ first_fault (seen_in (done ++ line ∷ [])) (length (done ++ line ∷ []) + 1) lines
    next = ap (λ o. first_fault o (length done + 1 + 1) lines) (noted_seen done line) ∙ ap (λ n. first_fault (seen_in (done ++ line ∷ [])) (n + 1) lines) (sym (length_push done line))

    along : (rule_of (seen_in done) line ≡ None → first_fault (seen_in (done ++ line ∷ [])) (length (done ++ line ∷ []) + 1) lines ≡ None → IsUnbroken (BreaksIn ((done ++ line ∷ []) ++ lines)))
        → (r : Option ℕ) → rule_of (seen_in done) line ≡ r → found_or r (length done + 1) rest ≡ None → IsUnbroken (BreaksIn (done ++ line ∷ lines))
    along more None is e = subst (λ l. IsUnbroken (BreaksIn l)) (append_assoc done (line ∷ []) lines) (more is (sym next ∙ e))
    along more (Some r) is e = cc

-- a file in which going through the lines finds no fault
pub unbroken_as : (bytes : List ℕ) → first_fault (seen_in []) 1 (readings_of bytes) ≡ None → IsUnbroken (BreaksLineRule bytes)
unbroken_as bytes e = unbroken_said bytes (sound_from [] (readings_of bytes) none_before e)

pub zones_as : (bytes : List ℕ) (zones : List ZoneData) → first_fault (seen_in []) 1 (readings_of bytes) ≡ None → zones ≡ zones_of bytes → IsZonesOf bytes zones
zones_as bytes zones e is = zones_said bytes zones (record { readable = λ rule place own broken. sound_from [] (readings_of bytes) none_before e rule place (inl broken); is = is })
