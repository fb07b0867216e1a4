-- What lines say, and what reading finds in them.
use Rattle.std.proofs.Common.{◌≡◌, ℕ, ◌⊎◌, Some, None, Ok, Err, List, [], ◌∷◌, map, refl, sym, ap, ◌∙◌, subst, inl, inr}
use Rattle.std.specs.List.{AllZip}
use Rattle.edi_line.specs.Lines.{content_of}
use Rattle.edi_line.specs.LineRules.{BreaksIn, BreaksLineRule}
use Rattle.edi_line.specs.Refusal.{IsUnbroken, IsLeastBroken, IfBroken}
use Rattle.edi_line.specs.Spelling.{Reading, Says, AreReadings}
use Rattle.edi_line.specs.inner.Lines.{lines_in}
use Rattle.edi_line.specs.inner.Spelling.{reading_of}
use Rattle.edi_line.specs.inner.Zones.{readings_of}
use Rattle.edi_line.specs.declared.fault.LineFault.{LineFault}
use Rattle.edi_line.specs.declared.fault.LineFault.TheVariants as fault
use Rattle.edi_line.proofs.Cut.{lines_exist, lines_unique}
use Rattle.edi_line.proofs.Heads.{blank_read, zone_read, read_101, read_102, read_103, reading_rule}

-- ---- one content

pub says_read : (content : List ℕ) (r : Reading) → Says content r → reading_of content ≡ r
says_read content (Ok None) h = (blank_read content).1 h
says_read content (Ok (Some s)) h = (zone_read content s).1 h
says_read content (Err rule) (inl h) = (read_101 content).1 h.1 ∙ ap (λ x. Err x) (sym h.0)
says_read content (Err rule) (inr (inl h)) = (read_102 content).1 h.1 ∙ ap (λ x. Err x) (sym h.0)
says_read content (Err rule) (inr (inr h)) = (read_103 content).1 h.1 ∙ ap (λ x. Err x) (sym h.0)

read_says : (content : List ℕ) (r : Reading) → reading_of content ≡ r → Says content r
read_says content (Ok None) e = (blank_read content).0 e
read_says content (Ok (Some s)) e = (zone_read content s).0 e
read_says content (Err rule) e = along (reading_rule content rule e)
  where
    along : (rule ≡ 101) ⊎ ((rule ≡ 102) ⊎ (rule ≡ 103)) → Says content (Err rule)
    along (inl f) = inl (f, (read_101 content).0 (e ∙ ap (λ x. Err x) f))
    along (inr (inl f)) = inr (inl (f, (read_102 content).0 (e ∙ ap (λ x. Err x) f)))
    along (inr (inr f)) = inr (inr (f, (read_103 content).0 (e ∙ ap (λ x. Err x) f)))

pub reading_says : (content : List ℕ) → Says content (reading_of content)
reading_says content = read_says content (reading_of content) refl

pub says_one : (content : List ℕ) (r q : Reading) → Says content r → Says content q → r ≡ q
says_one content r q h k = sym (says_read content r h) ∙ says_read content q k

-- ---- the lines of bytes

all_say : (lines : List (List ℕ)) → AllZip (λ line reading. Says (content_of line) reading) lines (map reading_of (map content_of lines))
all_say [] = tt
all_say (line ∷ lines) = (reading_says (content_of line), all_say lines)

all_read : (lines : List (List ℕ)) (readings : List Reading) → AllZip (λ line reading. Says (content_of line) reading) lines readings → readings ≡ map reading_of (map content_of lines)
all_read [] [] h = refl
all_read [] (r ∷ readings) h = absurd h
all_read (line ∷ lines) [] h = absurd h
all_read (line ∷ lines) (r ∷ readings) h =
    ap (λ x. x ∷ readings) (sym (says_read (content_of line) r h.0)) ∙ ap (λ xs. reading_of (content_of line) ∷ xs) (all_read lines readings h.1)

pub readings_exist : (bytes : List ℕ) → AreReadings bytes (readings_of bytes)
readings_exist bytes = record { lines = lines_in bytes; are_lines = lines_exist bytes; say = all_say (lines_in bytes) }

pub readings_are : (bytes : List ℕ) (readings : List Reading) → AreReadings bytes readings → readings ≡ readings_of bytes
readings_are bytes readings h = all_read h.lines readings h.say ∙ ap (λ lines. map reading_of (map content_of lines)) (lines_unique bytes h.lines h.are_lines)

pub readings_one : (bytes : List ℕ) (readings others : List Reading) → AreReadings bytes readings → AreReadings bytes others → readings ≡ others
readings_one bytes readings others h k = readings_are bytes readings h ∙ sym (readings_are bytes others k)

-- ---- the rules of a file

pub rule_said : (bytes : List ℕ) (rule place : ℕ) → BreaksIn (readings_of bytes) rule place → BreaksLineRule bytes rule place
rule_said bytes rule place h = record { readings = readings_of bytes; say = readings_exist bytes; breaks = h }

pub rule_read : (bytes : List ℕ) (rule place : ℕ) → BreaksLineRule bytes rule place → BreaksIn (readings_of bytes) rule place
rule_read bytes rule place h = subst (λ lines. BreaksIn lines rule place) (readings_are bytes h.readings h.say) h.breaks

pub unbroken_said : (bytes : List ℕ) → IsUnbroken (BreaksIn (readings_of bytes)) → IsUnbroken (BreaksLineRule bytes)
unbroken_said bytes h rule place broken = h rule place (rule_read bytes rule place broken)

pub unbroken_read : (bytes : List ℕ) → IsUnbroken (BreaksLineRule bytes) → IsUnbroken (BreaksIn (readings_of bytes))
unbroken_read bytes h rule place broken = h rule place (rule_said bytes rule place broken)

pub least_said : (bytes : List ℕ) (rule place : ℕ) → IsLeastBroken (BreaksIn (readings_of bytes)) rule place → IsLeastBroken (BreaksLineRule bytes) rule place
least_said bytes rule place h = record { is = rule_said bytes rule place h.is; least = λ r p broken. h.least r p (rule_read bytes r p broken) }

pub fault_said : (bytes : List ℕ) (e : LineFault) → IfBroken (IsLeastBroken (BreaksIn (readings_of bytes))) e → IfBroken (IsLeastBroken (BreaksLineRule bytes)) e
fault_said bytes (fault.Memory e) h = tt
fault_said bytes (fault.Broken rule place) h = least_said bytes rule place h
