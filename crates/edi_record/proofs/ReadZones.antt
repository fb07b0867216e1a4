-- The zones of a file can be printed, and those of its records part no file.
use Rattle.std.proofs.Common.{◌≡◌, ℕ, zero, suc, ◌+◌, ◌-◌, ◌≤◌, Bool, true, false, cond, not, ◌&&◌, ◌||◌, eqb, ltb, leb, inl, inr, Some, None, Ok, Err, List, [], ◌∷◌, ◌++◌, map, length, take, drop, slice_index, refl, sym, ap, ◌∙◌, subst, append_assoc, arith}
use Rattle.std.specs.List.{AllByRecursion, list_all, list_any, onto_first}
use Rattle.std.proofs.lemmas.Bool.{and_parts, and_from, or_left, or_right, ne_eqb, false_from_ne_true, not-false}
use Rattle.std.proofs.lemmas.List.Folds.{list_any-append}
use Rattle.std.proofs.lemmas.Grind.{common_steps}
use Rattle.std.proofs.lemmas.List.{length-map}
use Rattle.std.proofs.lemmas.List.Elements.{All-from_recursion}
use Rattle.edi_line.specs.ZoneData.{ZoneData}
use Rattle.edi_line.specs.Lines.{HasNoFeed, IsEnded, IsUnended, AreLines, without_last, content_of}
use Rattle.edi_line.specs.inner.Lines.{lines_in, line_contents}
use Rattle.edi_line.specs.Spelling.{Spelling, Reading, is_code_byte, is_printable}
use Rattle.edi_line.specs.inner.Spelling.{reading_of, is_space, is_digit, code_of, has_head, spelling_of, stated_length}
use Rattle.edi_line.specs.Zones.{begins_group, ends_group, before_end, groups_of}
use Rattle.edi_line.specs.inner.Zones.{readings_of, Part, part_by, part_of, parts_after}
use Rattle.edi_line.proofs.ZonesFound.{continuation, whole_zones, zones_of}
use Rattle.edi_line.specs.LineKinds.{code_is, is_zone, bears, some_bears}
use Rattle.edi_line.specs.inner.Kinds.{kind_of}
use Rattle.edi_line.specs.inner.Zones.Part.{Blank, Continues, IsRemark, Begins}
use Rattle.edi_line.specs.LineRules.{BreaksAt, BreaksLineRule}
use Rattle.edi_line.specs.Refusal.{IsUnbroken}
use Rattle.edi_line.specs.Printing.{is_code, IsOneLine, IsPrintable}
use Rattle.edi_line.proofs.Cut.{lines_exist}
use Rattle.edi_line.proofs.KindsSaid.{IsOther, by_code}
use Rattle.edi_line.proofs.Readings.{unbroken_read}
use Rattle.edi_line.proofs.Truths.{or_false}
use Rattle.edi_record.specs.RecordLayout.{is_free}

-- ---- contents have no line feed

abbrev pub NoFeed : List ℕ → Type 0
NoFeed xs = AllByRecursion (λ c. eqb c 10 ≡ false) xs

pub one_line : (xs : List ℕ) → NoFeed xs → IsOneLine xs
one_line xs h = All-from_recursion (λ c. eqb c 10 ≡ false) xs h

no_feed : (xs : List ℕ) → HasNoFeed xs → NoFeed xs
no_feed [] h = tt
no_feed (x ∷ xs) h = (ne_eqb x 10 h.0, no_feed xs h.1)

take_keeps : (n : ℕ) (xs : List ℕ) → NoFeed xs → NoFeed (take n xs)
take_keeps zero xs h = tt
take_keeps (suc n) [] h = tt
take_keeps (suc n) (x ∷ xs) h = (h.0, take_keeps n xs h.1)

drop_keeps : (n : ℕ) (xs : List ℕ) → NoFeed xs → NoFeed (drop n xs)
drop_keeps zero xs h = h
drop_keeps (suc n) [] h = tt
drop_keeps (suc n) (x ∷ xs) h = drop_keeps n xs h.1

join_keeps : (xs ys : List ℕ) → NoFeed xs → NoFeed ys → NoFeed (xs ++ ys)
join_keeps [] ys h k = k
join_keeps (x ∷ xs) ys h k = (h.0, join_keeps xs ys h.1 k)

chosen : (b : Bool) (xs ys : List ℕ) → NoFeed xs → NoFeed ys → NoFeed (cond b xs ys)
chosen true xs ys h k = h
chosen false xs ys h k = k

last_kept : (c : ℕ) (xs : List ℕ) → NoFeed xs → NoFeed (without_last c xs)
last_kept c xs h = chosen (ltb 0 (length xs) && eqb (slice_index xs (length xs - 1)) c) (take (length xs - 1) xs) xs (take_keeps (length xs - 1) xs h) h

last_gone : (y : ℕ) (xs : List ℕ) → without_last y (xs ++ y ∷ []) ≡ xs
last_gone y xs = grind (arith, common_steps)

ended_content : (line : List ℕ) → IsEnded line → NoFeed (content_of line)
ended_content line h = last_kept 13 (without_last 10 line) (subst NoFeed (sym (ap (without_last 10) h.ended ∙ last_gone 10 h.bytes)) (no_feed h.bytes h.no_feed))

unended_content : (line : List ℕ) → IsUnended line → NoFeed (content_of line)
unended_content line h = last_kept 13 (without_last 10 line) (last_kept 10 line (no_feed line h.no_feed))

contents_keep : (lines : List (List ℕ)) → AreLines lines → AllByRecursion NoFeed (map content_of lines)
contents_keep [] h = tt
contents_keep (line ∷ []) (inl e) = (ended_content line e, tt)
contents_keep (line ∷ []) (inr u) = (unended_content line u, tt)
contents_keep (line ∷ next ∷ lines) h = (ended_content line h.0, contents_keep (next ∷ lines) h.1)

contents_one_line : (bytes : List ℕ) → AllByRecursion NoFeed (line_contents bytes)
contents_one_line bytes = contents_keep (lines_in bytes) (lines_exist bytes).each

-- ---- what a line spells

record IsSpelled (s : Spelling) : Type 0 where
  code : is_code s.code ≡ true
  nature : is_printable s.nature ≡ true
  format : is_printable s.format ≡ true
  value : NoFeed s.value

abbrev IsReadWell : Reading → Type 0
IsReadWell (Ok None) = Unit {0}
IsReadWell (Ok (Some s)) = IsSpelled s
IsReadWell (Err rule) = Unit {0}

if_holds : (P : Reading → Type 0) (b : Bool) (x y : Reading) → (b ≡ true → P x) → (b ≡ false → P y) → P (cond b x y)
if_holds P true x y h k = h refl
if_holds P false x y h k = k refl

three_bytes : (a b c : Bool) → (a && (b && (c && true))) ≡ true → (a && (b && c)) ≡ true
three_bytes true true true e = refl
three_bytes true true false e = cc
three_bytes true false c e = cc
three_bytes false b c e = cc

-- the tests of a head behind its length and colon
abbrev head_end : List ℕ → Bool
head_end content = is_digit (slice_index content 5) && is_digit (slice_index content 6)

abbrev letters : List ℕ → Bool
letters content = is_printable (slice_index content 3) && (is_printable (slice_index content 4) && head_end content)

head_spelled : (content : List ℕ) → NoFeed content → has_head content ≡ true → IsSpelled (spelling_of content)
unfolding has_head
head_spelled content h e =
    let a = and_parts (leb 8 (length content)) (eqb (slice_index content 7) 58 && (list_all is_code_byte (code_of content) && letters content)) e in
    let b = and_parts (eqb (slice_index content 7) 58) (list_all is_code_byte (code_of content) && letters content) a.1 in
    let c = and_parts (list_all is_code_byte (code_of content)) (letters content) b.1 in
    let d = and_parts (is_printable (slice_index content 3)) (is_printable (slice_index content 4) && head_end content) c.1 in
    let f = and_parts (is_printable (slice_index content 4)) (head_end content) d.1 in
    record {
      code = three_bytes (is_code_byte (slice_index content 0)) (is_code_byte (slice_index content 1)) (is_code_byte (slice_index content 2)) c.0;
      nature = d.0;
      format = f.0;
      value = take_keeps (stated_length content) (drop 8 content) (drop_keeps 8 content h);
    }

read_well : (content : List ℕ) → NoFeed content → IsReadWell (reading_of content)
unfolding reading_of
read_well content h =
    if_holds IsReadWell (list_all is_space content) (Ok None) _ (λ _. tt) (λ _.
    if_holds IsReadWell (not (has_head content)) (Err 101) _ (λ _. tt) (λ e.
    if_holds IsReadWell (ltb (length (drop 8 content)) (stated_length content)) (Err 102) _ (λ _. tt) (λ _.
    if_holds IsReadWell (list_all is_space (drop (stated_length content) (drop 8 content))) (Ok (Some (spelling_of content))) (Err 103) (λ _. head_spelled content h (not-false (has_head content) e)) (λ _. tt))))

-- ---- codes

abbrev spelling_by : List ℕ → Spelling → Spelling
spelling_by code s = record { code = code; nature = s.nature; format = s.format; value = s.value }

-- ---- zones

abbrev IsWell : Part → Type 0
IsWell Blank = Unit {0}
IsWell (Continues value) = NoFeed value
IsWell IsRemark = Unit {0}
IsWell (Begins z) = IsSpelled (let s : Spelling = record { code = z.code; nature = z.nature; format = z.format; value = z.value } in s) × (is_zone z.code ≡ true)

part_well : (line : ℕ) (reading : Reading) → IsReadWell reading → IsWell (part_of line reading)
part_well line (Ok None) h = tt
part_well line (Err rule) h = tt
part_well line (Ok (Some s)) h =
    by_code (λ code. IsSpelled (spelling_by code s) → IsWell (part_by (kind_of code) line (spelling_by code s))) (λ k. (k, refl)) (λ k. (k, refl)) (λ k. (k, refl)) (λ k. (k, refl)) (λ k. k.value) (λ k. tt)
    (λ code o. other code o) s.code h
  where
    other : (code : List ℕ) → IsOther code → IsSpelled (spelling_by code s) → IsWell (part_by (kind_of code) line (spelling_by code s))
    other code o k = rw (o.bom, o.cse, o.rty, o.eom, o.nex, o.rem) (k, rw (o.nex, o.rem) refl)

parts_well : (n : ℕ) (contents : List (List ℕ)) → AllByRecursion NoFeed contents → AllByRecursion IsWell (parts_after n (map reading_of contents))
parts_well n [] h = tt
parts_well n (c ∷ cs) h = (part_well (suc n) (reading_of c) (read_well c h.0), parts_well (suc n) cs h.1)

continued_well : (parts : List Part) → AllByRecursion IsWell parts → NoFeed (continuation parts)
continued_well [] h = tt
continued_well (Blank ∷ parts) h = continued_well parts h.1
continued_well (Continues value ∷ parts) h = join_keeps value (continuation parts) h.0 (continued_well parts h.1)
continued_well (IsRemark ∷ parts) h = tt
continued_well (Begins z ∷ parts) h = tt

zones_well : (parts : List Part) → AllByRecursion IsWell parts → AllByRecursion IsPrintable (whole_zones parts)
zones_well [] h = tt
zones_well (Blank ∷ parts) h = zones_well parts h.1
zones_well (Continues value ∷ parts) h = zones_well parts h.1
zones_well (IsRemark ∷ parts) h = zones_well parts h.1
zones_well (Begins z ∷ parts) h = (
  record {
    code = h.0.0.code;
    zone = h.0.1;
    nature = h.0.0.nature;
    format = h.0.0.format;
    one_line = one_line (z.value ++ continuation parts) (join_keeps z.value (continuation parts) h.0.0.value (continued_well parts h.1));
  },
  zones_well parts h.1,
)

-- Every zone that is read can be printed.
pub zones_printable : (bytes : List ℕ) → AllByRecursion IsPrintable (zones_of bytes)
zones_printable bytes = zones_well (parts_after 0 (readings_of bytes)) (parts_well 0 (line_contents bytes) (contents_one_line bytes))

-- ---- there are no more zones than bytes

few_onto : (c : ℕ) (lines : List (List ℕ)) (n : ℕ) → length lines ≤ n → length (onto_first c lines) ≤ n + 1
few_onto c [] n h = omega arith
few_onto c (line ∷ lines) n h = omega arith

few_lines : (bytes : List ℕ) → length (lines_in bytes) ≤ length bytes
few_lines [] = omega arith
few_lines (c ∷ cs) = go (eqb c 10) (few_lines cs)
  where
    go : (b : Bool) → length (lines_in cs) ≤ length cs → length (cond b ((c ∷ []) ∷ lines_in cs) (onto_first c (lines_in cs))) ≤ length (c ∷ cs)
    go true h = omega (arith, h)
    go false h = omega (arith, few_onto c (lines_in cs) (length cs) h)

as_many_parts : (n : ℕ) (lines : List Reading) → length (parts_after n lines) ≡ length lines
as_many_parts n [] = refl
as_many_parts n (line ∷ lines) = omega (arith, as_many_parts (suc n) lines)

few_zones : (parts : List Part) → length (whole_zones parts) ≤ length parts
few_zones [] = omega arith
few_zones (Blank ∷ parts) = omega (arith, few_zones parts)
few_zones (Continues value ∷ parts) = omega (arith, few_zones parts)
few_zones (IsRemark ∷ parts) = omega (arith, few_zones parts)
few_zones (Begins z ∷ parts) = omega (arith, few_zones parts)

pub few_zones_of : (bytes : List ℕ) → length (zones_of bytes) ≤ length bytes
few_zones_of bytes =
    let zones = few_zones (parts_after 0 (readings_of bytes)) in
    let parts = as_many_parts 0 (readings_of bytes) in
    let readings = length-map (line_contents bytes) reading_of in
    let contents = length-map (lines_in bytes) content_of in
    let lines = few_lines bytes in
    omega (arith, zones, parts, readings, contents, lines)

-- ---- the zones of a record part no file

-- what of the rules of lines is needed, where a zone, a BOM and an RTY came before the line or not
record Keeps (zone bom rty : Bool) (line : Reading) : Type 0 where
  first : (bears is_zone line && (not (bears (code_is "BOM") line) && not zone)) ≡ false
  one_bom : (bears (code_is "BOM") line && bom) ≡ false
  no_cse : (bears (code_is "CSE") line && rty) ≡ false

abbrev Runs : Bool → Bool → Bool → List Reading → Type 0
Runs zone bom rty [] = Unit {0}
Runs zone bom rty (line ∷ lines) = Keeps zone bom rty line × Runs (zone || bears is_zone line) (bom || bears (code_is "BOM") line) (rty || bears (code_is "RTY") line) lines

abbrev IsSound : List Reading → Type 0
IsSound lines = (rule place : ℕ) → ¬ (BreaksAt lines rule place)

keeps : (done : List Reading) (line : Reading) (lines : List Reading) → IsSound (done ++ line ∷ lines) → Keeps (some_bears is_zone done) (some_bears (code_is "BOM") done) (some_bears (code_is "RTY") done) line
keeps done line lines sound = record {
  first = false_from_ne_true _ (λ e. sound 105 (length done + 1) (record { before = done; line = line; after = lines; cut = refl; place_is = refl; breaks = inr (inr (inl (refl, e))) }));
  one_bom = false_from_ne_true _ (λ e. sound 108 (length done + 1) (record { before = done; line = line; after = lines; cut = refl; place_is = refl; breaks = inr (inr (inr (inr (inl (refl, or_left (bears (code_is "BOM") line && some_bears (code_is "BOM") done) (bears (code_is "CSE") line && (some_bears (code_is "CSE") done || some_bears (code_is "RTY") done)) e))))) }));
  no_cse = false_from_ne_true _ (λ e.
      let p = and_parts (bears (code_is "CSE") line) (some_bears (code_is "RTY") done) e in
      sound 108 (length done + 1) (record { before = done; line = line; after = lines; cut = refl; place_is = refl; breaks = inr (inr (inr (inr (inl (refl, or_right (bears (code_is "BOM") line && some_bears (code_is "BOM") done) (bears (code_is "CSE") line && (some_bears (code_is "CSE") done || some_bears (code_is "RTY") done)) (and_from (bears (code_is "CSE") line) (some_bears (code_is "CSE") done || some_bears (code_is "RTY") done) p.0 (or_right (some_bears (code_is "CSE") done) (some_bears (code_is "RTY") done) p.1))))))) }));
}

-- a test of lines, with one line more
borne : (p : Reading → Bool) (done : List Reading) (line : Reading) → list_any p (done ++ line ∷ []) ≡ (list_any p done || p line)
borne p done line = list_any-append p done (line ∷ []) ∙ ap (λ b. list_any p done || b) (or_false (p line))

runs_from : (done lines : List Reading) → IsSound (done ++ lines) → Runs (some_bears is_zone done) (some_bears (code_is "BOM") done) (some_bears (code_is "RTY") done) lines
runs_from done [] sound = tt
runs_from done (line ∷ lines) sound =
    let more = runs_from (done ++ line ∷ []) lines (subst IsSound (sym (append_assoc done (line ∷ []) lines)) sound) in (
      keeps done line lines sound,
      subst (λ b. Runs b (some_bears (code_is "BOM") done || bears (code_is "BOM") line) (some_bears (code_is "RTY") done || bears (code_is "RTY") line) lines) (borne (bears is_zone) done line)
          (subst (λ b. Runs (some_bears is_zone (done ++ line ∷ [])) b (some_bears (code_is "RTY") done || bears (code_is "RTY") line) lines) (borne (bears (code_is "BOM")) done line)
          (subst (λ b. Runs (some_bears is_zone (done ++ line ∷ [])) (some_bears (code_is "BOM") (done ++ line ∷ [])) b lines) (borne (bears (code_is "RTY")) done line) more)),
    )

abbrev AreFree : List ZoneData → Type 0
AreFree zones = AllByRecursion (λ z. is_free z.code ≡ true) zones

abbrev zones_after : ℕ → List Reading → List ZoneData
zones_after n lines = whole_zones (parts_after n lines)

-- the zones that a line with this code brings, and those behind it
abbrev with_line : ℕ → Spelling → List Reading → List ℕ → List ZoneData
with_line n s lines code = whole_zones (part_by (kind_of code) (suc n) (spelling_by code s) ∷ parts_after (suc n) lines)

abbrev line_by : Spelling → List ℕ → Reading
line_by s code = Ok (Some (spelling_by code s))

abbrev AreFreeIn : List ZoneData → Type 0
AreFreeIn zones = AreFree (before_end zones) × AllByRecursion AreFree (groups_of zones)

-- behind an RTY
free_in : (n : ℕ) (lines : List Reading) → Runs true true true lines → AreFreeIn (zones_after n lines)
free_in n [] r = (tt, tt)
free_in n (Ok None ∷ lines) r = free_in (suc n) lines r.1
free_in n (Err rule ∷ lines) r = free_in (suc n) lines r.1
free_in n (Ok (Some s) ∷ lines) r = here (free_in (suc n) lines r.1) s.code r.0
  where
    here : AreFreeIn (zones_after (suc n) lines) → (code : List ℕ) → Keeps true true true (line_by s code) → AreFreeIn (with_line n s lines code)
    here more =
        by_code (λ code. Keeps true true true (line_by s code) → AreFreeIn (with_line n s lines code)) (λ k. let e = k.one_bom in absurd cc) (λ k. let e = k.no_cse in absurd cc)
        (λ k. (tt, ((refl, more.0), more.1))) (λ k. (tt, more.1)) (λ k. more) (λ k. more)
        (λ code o k. rw (o.bom, o.cse, o.rty, o.eom, o.nex, o.rem) (rw (o.rty, o.eom) ((rw (o.bom, o.cse, o.eom, o.nex, o.rem) refl, more.0), more.1)))

-- behind the BOM
free_before : (n : ℕ) (lines : List Reading) → Runs true true false lines → AllByRecursion AreFree (groups_of (zones_after n lines))
free_before n [] r = tt
free_before n (Ok None ∷ lines) r = free_before (suc n) lines r.1
free_before n (Err rule ∷ lines) r = free_before (suc n) lines r.1
free_before n (Ok (Some s) ∷ lines) r = here (free_before (suc n) lines) s.code r.1
  where
    here : (Runs true true false lines → AllByRecursion AreFree (groups_of (zones_after (suc n) lines))) → (code : List ℕ) → Runs true true (code_is "RTY" code) lines → AllByRecursion AreFree (groups_of (with_line n s lines code))
    here more =
        by_code (λ code. Runs true true (code_is "RTY" code) lines → AllByRecursion AreFree (groups_of (with_line n s lines code))) more more
        (λ q. let inner = free_in (suc n) lines q in ((refl, inner.0), inner.1)) more more more
        (λ code o. rw (o.bom, o.cse, o.rty, o.eom, o.nex, o.rem) (rw o.rty more))

-- before the BOM
free_front : (n : ℕ) (lines : List Reading) → Runs false false false lines → AllByRecursion AreFree (groups_of (zones_after n lines))
free_front n [] r = tt
free_front n (Ok None ∷ lines) r = free_front (suc n) lines r.1
free_front n (Err rule ∷ lines) r = free_front (suc n) lines r.1
free_front n (Ok (Some s) ∷ lines) r = here (free_front (suc n) lines) s.code r.0 r.1
  where
    here : (Runs false false false lines → AllByRecursion AreFree (groups_of (zones_after (suc n) lines))) → (code : List ℕ) → Keeps false false false (line_by s code)
        → Runs (is_zone code) (code_is "BOM" code) (code_is "RTY" code) lines → AllByRecursion AreFree (groups_of (with_line n s lines code))
    here more =
        by_code (λ code. Keeps false false false (line_by s code) → Runs (is_zone code) (code_is "BOM" code) (code_is "RTY" code) lines → AllByRecursion AreFree (groups_of (with_line n s lines code)))
        (λ k q. free_before (suc n) lines q) (λ k. let e = k.first in absurd cc) (λ k. let e = k.first in absurd cc) (λ k. let e = k.first in absurd cc) (λ k q. more q) (λ k q. more q)
        (λ code o k. absurd (no_first code o k))
      where
        no_first : (code : List ℕ) → IsOther code → Keeps false false false (line_by s code) → ⊥
        no_first code o k = let e : true ≡ false = rw (o.bom, o.nex, o.rem) at k.first in cc

-- ---- the zones of a record

pub record IsGroupZone (z : ZoneData) : Type 0 where
  pub printable : IsPrintable z
  pub free : is_free z.code ≡ true

abbrev ArePrintable : List ZoneData → Type 0
ArePrintable zones = AllByRecursion IsPrintable zones

abbrev pub AreGroupZones : List ZoneData → Type 0
AreGroupZones zones = AllByRecursion IsGroupZone zones

before_printable : (zones : List ZoneData) → ArePrintable zones → ArePrintable (before_end zones)
before_printable [] h = tt
before_printable (z ∷ zs) h = go (ends_group z) (before_printable zs h.1)
  where
    go : (b : Bool) → ArePrintable (before_end zs) → ArePrintable (cond b [] (z ∷ before_end zs))
    go true more = tt
    go false more = (h.0, more)

groups_printable : (zones : List ZoneData) → ArePrintable zones → AllByRecursion ArePrintable (groups_of zones)
groups_printable [] h = tt
groups_printable (z ∷ zs) h = go (begins_group z) (groups_printable zs h.1)
  where
    go : (b : Bool) → AllByRecursion ArePrintable (groups_of zs) → AllByRecursion ArePrintable (cond b ((z ∷ before_end zs) ∷ groups_of zs) (groups_of zs))
    go true more = ((h.0, before_printable zs h.1), more)
    go false more = more

both : (zones : List ZoneData) → ArePrintable zones → AreFree zones → AreGroupZones zones
both [] h k = tt
both (z ∷ zs) h k = (record { printable = h.0; free = k.0 }, both zs h.1 k.1)

each_both : (groups : List (List ZoneData)) → AllByRecursion ArePrintable groups → AllByRecursion AreFree groups → AllByRecursion AreGroupZones groups
each_both [] h k = tt
each_both (g ∷ gs) h k = (both g h.0 k.0, each_both gs h.1 k.1)

-- The zones of a file's records can be printed, and part no file.
pub groups_readable : (bytes : List ℕ) → IsUnbroken (BreaksLineRule bytes) → AllByRecursion AreGroupZones (groups_of (zones_of bytes))
groups_readable bytes unbroken =
    each_both (groups_of (zones_of bytes)) (groups_printable (zones_of bytes) (zones_printable bytes))
    (free_front 0 (readings_of bytes) (runs_from [] (readings_of bytes) (λ rule place b. unbroken_read bytes unbroken rule place (inl b))))

few_before : (zones : List ZoneData) → length (before_end zones) ≤ length zones
few_before [] = omega arith
few_before (z ∷ zs) = go (ends_group z) (few_before zs)
  where
    go : (b : Bool) → length (before_end zs) ≤ length zs → length (cond b [] (z ∷ before_end zs)) ≤ length (z ∷ zs)
    go true h = omega arith
    go false h = omega (arith, h)

-- no group has more zones than the file
pub few_in_groups : (zones : List ZoneData) (n : ℕ) → length zones ≤ n → AllByRecursion (λ g. length g ≤ n) (groups_of zones)
few_in_groups [] n h = tt
few_in_groups (z ∷ zs) n h = go (begins_group z) (few_in_groups zs n (omega (arith, h)))
  where
    go : (b : Bool) → AllByRecursion (λ g. length g ≤ n) (groups_of zs) → AllByRecursion (λ g. length g ≤ n) (cond b ((z ∷ before_end zs) ∷ groups_of zs) (groups_of zs))
    go true more = (omega (arith, h, few_before zs), more)
    go false more = more
