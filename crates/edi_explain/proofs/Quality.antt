-- The zones of quality of a file, line by line.
use Rattle.std.proofs.Common.{◌≡◌, ◌∙◌, ◌+◌, ◌++◌, ◌∷◌, ◌||◌, inl, inr, ℕ, Bool, true, false, cond, List, [], Option, Some, None, Ok, Err, IfSome, length, refl, sym, ap, subst, true≢false, arith, codes, count_by, flat_map, bytes_eq, option_to_list}
use Rattle.std.proofs.lemmas.Slice.Eq.{bytes_eq-Decides}
use Rattle.edi_schema.proofs.Noted.{count_joined}
use Rattle.edi_schema.proofs.Paired.{count-cons}
use Rattle.edi_line.proofs.Passes.{zones_of_all}
use Rattle.edi_line.proofs.Readings.{readings_are, unbroken_read}
use Rattle.edi_line.proofs.Rules.{IsFaultless}
use Rattle.edi_line.proofs.Said.{file_said}
use Rattle.edi_line.proofs.Shape.{shape_of_all}
use Rattle.edi_line.specs.LineKinds.{bears, code_is, is_other, is_zone, some_bears}
use Rattle.edi_line.specs.LineRules.{BreaksLineRule}
use Rattle.edi_line.specs.Made.{AreMadeFrom}
use Rattle.edi_line.specs.Refusal.{IsUnbroken}
use Rattle.edi_line.specs.Spelling.{Reading}
use Rattle.edi_line.specs.ZoneData.{ZoneData}
use Rattle.edi_line.specs.Zones.{IsFileOf, IsZoneAt}
use Rattle.edi_line.specs.inner.Held.{closed, no_zones, zoned_after}
use Rattle.edi_line.specs.inner.Spelling.{reading_of}
use Rattle.edi_line.specs.inner.Zones.{parts_after, readings_of}
use Rattle.edi_explain.proofs.Barred.{IsFine, first_solid, tested}
use Rattle.edi_explain.specs.Skipped.{HasQuality, is_quality, quality_count}
use Rattle.edi_explain.specs.inner.Skipped.{is_quality_content, is_quality_line}

-- a line that breaks no rule of its own spells such a zone by its first bytes
pub quality_read : (content : List ℕ) → IsFine content → is_quality_line (reading_of content) ≡ is_quality_content content
quality_read content fine = λ i.
    tested (codes "QAC") (λ n. first_solid 81 _ n (λ e. omega (arith, e))) content fine i || tested (codes "QAP") (λ n. first_solid 81 _ n (λ e. omega (arith, e))) content fine i

-- what holds of both codes holds of the code of such a zone
coded : (P : List ℕ → Type 0) → P (codes "QAC") → P (codes "QAP") → (code : List ℕ) → (bytes_eq code (codes "QAC") || bytes_eq code (codes "QAP")) ≡ true → P code
coded P p q code = go (bytes_eq code (codes "QAC")) refl
  where
    go : (b : Bool) → bytes_eq code (codes "QAC") ≡ b → (b || bytes_eq code (codes "QAP")) ≡ true → P code
    go true e h = subst P (sym ((bytes_eq-Decides code (codes "QAC")).0 e)) p
    go false e h = subst P (sym ((bytes_eq-Decides code (codes "QAP")).0 h)) q

-- what has one of the four codes is no zone of quality
no_quality : (z : ZoneData) → is_other z.code ≡ false → is_quality z ≡ false
no_quality z named = go (is_quality z) refl
  where
    go : (b : Bool) → is_quality z ≡ b → b ≡ false
    go false e = refl
    go true e = absurd (true≢false (sym (coded (λ c. is_other c ≡ true) refl refl z.code e) ∙ named))

no_line : (line : Reading) → ¬ (bears is_zone line ≡ true) → is_quality_line line ≡ false
no_line (Ok (Some s)) not = go (bytes_eq s.code (codes "QAC") || bytes_eq s.code (codes "QAP")) refl
  where
    go : (b : Bool) → (bytes_eq s.code (codes "QAC") || bytes_eq s.code (codes "QAP")) ≡ b → b ≡ false
    go false e = refl
    go true e = absurd (not (coded (λ c. is_zone c ≡ true) refl refl s.code e))
no_line (Ok None) not = refl
no_line (Err rule) not = refl

counted : (front lines : List Reading) (zones : List ZoneData) → AreMadeFrom (λ front line. bears is_zone line ≡ true) IsZoneAt front lines zones → count_by is_quality zones ≡ count_by is_quality_line lines
counted front [] zones e = ap (count_by is_quality) e
counted front (line ∷ behind) zones (inl h) =
    let same : is_quality h.0 ≡ is_quality_line line = ap is_quality h.3.is ∙ sym (ap is_quality_line h.3.says) in
    ap (count_by is_quality) h.4
    ∙ (count-cons is_quality h.0 h.1 ∙ ((λ i. cond (same i) 1 0 + counted (front ++ line ∷ []) behind h.1 h.5 i) ∙ sym (count-cons is_quality_line line behind)))
counted front (line ∷ behind) zones (inr h) =
    let one : count_by is_quality_line (line ∷ behind) ≡ 0 + count_by is_quality_line behind = count-cons is_quality_line line behind ∙ ap (λ b. cond b 1 0 + count_by is_quality_line behind) (no_line line h.0) in
    omega (arith, one, counted (front ++ line ∷ []) behind zones h.1)

-- all of them stand in records
in_records : (zones : List ZoneData) (charset : Option ZoneData) (groups : List (List ZoneData)) → IsFileOf zones charset groups → count_by is_quality zones ≡ quality_count groups
in_records zones charset groups d =
    omega (arith, ap (count_by is_quality) d.joined, head, count_joined is_quality (option_to_list charset) (flat_map (λ g. g) groups ++ d.tail ∷ []), count_joined is_quality (flat_map (λ g. g) groups) (d.tail ∷ []), tail, set charset d.charset_is)
  where
    none : (z : ZoneData) (zs : List ZoneData) → is_quality z ≡ false → count_by is_quality (z ∷ zs) ≡ 0 + count_by is_quality zs
    none z zs e = count-cons is_quality z zs ∙ ap (λ b. cond b 1 0 + count_by is_quality zs) e

    head : count_by is_quality (d.head ∷ (option_to_list charset ++ (flat_map (λ g. g) groups ++ d.tail ∷ []))) ≡ 0 + count_by is_quality (option_to_list charset ++ (flat_map (λ g. g) groups ++ d.tail ∷ []))
    head = none d.head (option_to_list charset ++ (flat_map (λ g. g) groups ++ d.tail ∷ [])) (no_quality d.head (ap is_other d.head_is))

    tail : count_by is_quality (d.tail ∷ []) ≡ 0 + count_by is_quality []
    tail = none d.tail [] (no_quality d.tail (ap is_other d.tail_is))

    set : (o : Option ZoneData) → IfSome o (λ z. z.code ≡ codes "CSE") → count_by is_quality (option_to_list o) ≡ 0
    set None h = refl
    set (Some z) h = none z [] (no_quality z (ap is_other h))

pub quality_counted : (bytes : List ℕ) → IsUnbroken (BreaksLineRule bytes) → (count : ℕ) → count ≡ count_by is_quality_line (readings_of bytes) → HasQuality bytes count
quality_counted bytes unbroken count e =
    let are = zones_of_all bytes zones sound refl in
    let shape = shape_of_all lines zones sound (ended (some_bears (code_is "EOM") lines) refl) refl in (
      zones,
      are,
      e
          ∙ (sym (counted [] are.readings zones are.zones_in ∙ ap (count_by is_quality_line) (readings_are bytes are.readings are.say))
          ∙ (in_records zones shape.0 shape.1 shape.2 ∙ ap quality_count (sym (file_said zones shape.0 shape.1 shape.2).1))),
    )
  where
    lines : List Reading
    lines = readings_of bytes

    zones : List ZoneData
    zones = closed (zoned_after no_zones (parts_after 0 lines))

    sound : IsFaultless lines
    sound = λ rule place b. unbroken_read bytes unbroken rule place (inl b)

    ended : (b : Bool) → some_bears (code_is "EOM") lines ≡ b → b ≡ true
    ended true h = refl
    ended false h = absurd (unbroken_read bytes unbroken 106 (length lines + 1) (inr (refl, refl, h)))
