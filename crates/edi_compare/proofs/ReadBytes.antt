-- The values of the zones of a file of bytes are bytes.
use Rattle.std.proofs.Common.{◌≡◌, ℕ, zero, suc, ◌-◌, ◌<◌, ◌≤◌, ◌⊎◌, inl, inr, Bool, true, false, cond, not, ◌&&◌, eqb, ltb, List, [], ◌∷◌, ◌++◌, map, length, take, drop, slice_index, Some, None, Ok, Err, All, refl, sym, ◌∙◌, subst, true≢false, bytes_eq, codes}
use Rattle.std.specs.List.{AllByRecursion, concat, list_all}
use Rattle.std.proofs.lemmas.Bool.{eq-eqb, cases_lt}
use Rattle.std.proofs.lemmas.List.Elements.{All-from_recursion, recursion_from_All, All-cons, All-head, All-nil, All-tail}
use Rattle.edi_line.specs.Bytes.{IsBytes}
use Rattle.edi_line.specs.Lines.{without_last, content_of}
use Rattle.edi_line.specs.Spelling.{Reading}
use Rattle.edi_line.specs.ZoneData.{ZoneData}
use Rattle.edi_line.specs.inner.Lines.{lines_in, line_contents}
use Rattle.edi_line.specs.inner.Spelling.{reading_of, is_space, has_head, spelling_of, stated_length}
use Rattle.edi_line.specs.inner.Zones.{readings_of, Part, part_by, part_of, parts_after}
use Rattle.edi_line.specs.inner.Zones.Part.{Blank, Continues, IsRemark, Begins}
use Rattle.edi_line.specs.inner.Kinds.{kind_of}
use Rattle.edi_line.proofs.Cut.{lines_exist}
use Rattle.edi_line.proofs.ZonesFound.{continuation, whole_zones, zones_of}

-- ---- lists of bytes

abbrev pub AreBytes : List ℕ → Type 0
AreBytes xs = AllByRecursion (λ c. c < 256) xs

pub are_bytes : (xs : List ℕ) → IsBytes xs → AreBytes xs
are_bytes xs h = recursion_from_All (λ c. c < 256) xs h

pub is_bytes : (xs : List ℕ) → AreBytes xs → IsBytes xs
is_bytes xs h = All-from_recursion (λ c. c < 256) xs h

pub bytes_joined : (xs ys : List ℕ) → AreBytes xs → AreBytes ys → AreBytes (xs ++ ys)
bytes_joined [] ys h k = k
bytes_joined (x ∷ xs) ys h k = (h.0, bytes_joined xs ys h.1 k)

pub bytes_split : (xs ys : List ℕ) → AreBytes (xs ++ ys) → AreBytes xs × AreBytes ys
bytes_split [] ys h = (tt, h)
bytes_split (x ∷ xs) ys h = let more = bytes_split xs ys h.1 in ((h.0, more.0), more.1)

pub bytes_taken : (n : ℕ) (xs : List ℕ) → AreBytes xs → AreBytes (take n xs)
bytes_taken zero xs h = tt
bytes_taken (suc n) [] h = tt
bytes_taken (suc n) (x ∷ xs) h = (h.0, bytes_taken n xs h.1)

pub bytes_dropped : (n : ℕ) (xs : List ℕ) → AreBytes xs → AreBytes (drop n xs)
bytes_dropped zero xs h = h
bytes_dropped (suc n) [] h = tt
bytes_dropped (suc n) (x ∷ xs) h = bytes_dropped n xs h.1

-- a text that has no number of 256 or more
pub bytes_by_lack : (xs : List ℕ) → ((c : ℕ) → 256 ≤ c → All (λ x. eqb x c ≡ false) xs) → IsBytes xs
bytes_by_lack [] lacks = All-nil (λ c. c < 256)
bytes_by_lack (x ∷ xs) lacks = All-cons (λ c. c < 256) x xs (first (cases_lt x 256)) (bytes_by_lack xs (λ c big. All-tail (λ y. eqb y c ≡ false) x xs (lacks c big)))
  where
    first : (x < 256) ⊎ (256 ≤ x) → x < 256
    first (inl small) = small
    first (inr big) = absurd (true≢false (sym (eq-eqb x x refl) ∙ All-head (λ y. eqb y x ≡ false) x xs (lacks x big)))

-- ---- the contents of lines

each_line : (lines : List (List ℕ)) → AreBytes (concat lines) → AllByRecursion AreBytes lines
each_line [] h = tt
each_line (line ∷ lines) h = let parts = bytes_split line (concat lines) h in (parts.0, each_line lines parts.1)

chosen : (b : Bool) (xs ys : List ℕ) → AreBytes xs → AreBytes ys → AreBytes (cond b xs ys)
chosen true xs ys h k = h
chosen false xs ys h k = k

last_kept : (c : ℕ) (xs : List ℕ) → AreBytes xs → AreBytes (without_last c xs)
last_kept c xs h = chosen (ltb 0 (length xs) && eqb (slice_index xs (length xs - 1)) c) (take (length xs - 1) xs) xs (bytes_taken (length xs - 1) xs h) h

each_content : (lines : List (List ℕ)) → AllByRecursion AreBytes lines → AllByRecursion AreBytes (map content_of lines)
each_content [] h = tt
each_content (line ∷ lines) h = (last_kept 13 (without_last 10 line) (last_kept 10 line h.0), each_content lines h.1)

-- ---- what a line says

abbrev SaysBytes : Reading → Type 0
SaysBytes (Ok None) = Unit {0}
SaysBytes (Ok (Some s)) = AreBytes s.value
SaysBytes (Err rule) = Unit {0}

if_holds : (b : Bool) (x y : Reading) → SaysBytes x → SaysBytes y → SaysBytes (cond b x y)
if_holds true x y h k = h
if_holds false x y h k = k

says_bytes : (content : List ℕ) → AreBytes content → SaysBytes (reading_of content)
unfolding reading_of
says_bytes content h =
    if_holds (list_all is_space content) (Ok None) _ tt
    (if_holds (not (has_head content)) (Err 101) _ tt
    (if_holds (ltb (length (drop 8 content)) (stated_length content)) (Err 102) _ tt
    (if_holds (list_all is_space (drop (stated_length content) (drop 8 content))) (Ok (Some (spelling_of content))) (Err 103) (bytes_taken (stated_length content) (drop 8 content) (bytes_dropped 8 content h)) tt)))

-- ---- zones

abbrev HasBytes : Part → Type 0
HasBytes Blank = Unit {0}
HasBytes (Continues value) = AreBytes value
HasBytes IsRemark = Unit {0}
HasBytes (Begins z) = AreBytes z.value

part_bytes : (line : ℕ) (reading : Reading) → SaysBytes reading → HasBytes (part_of line reading)
part_bytes line (Ok None) h = tt
part_bytes line (Err rule) h = tt
part_bytes line (Ok (Some s)) h =
    go (bytes_eq s.code (codes "BOM")) (bytes_eq s.code (codes "CSE")) (bytes_eq s.code (codes "RTY")) (bytes_eq s.code (codes "EOM")) (bytes_eq s.code (codes "NEX")) (bytes_eq s.code (codes "REM")) refl refl refl refl refl refl
  where
    go : (bom cse rty eom nex rem : Bool) → bytes_eq s.code (codes "BOM") ≡ bom → bytes_eq s.code (codes "CSE") ≡ cse → bytes_eq s.code (codes "RTY") ≡ rty → bytes_eq s.code (codes "EOM") ≡ eom → bytes_eq s.code (codes "NEX") ≡ nex → bytes_eq s.code (codes "REM") ≡ rem
        → HasBytes (part_by (kind_of s.code) line s)
    go true cse rty eom nex rem a b c d e f = rw a h
    go false true rty eom nex rem a b c d e f = rw (a, b) h
    go false false true eom nex rem a b c d e f = rw (a, b, c) h
    go false false false true nex rem a b c d e f = rw (a, b, c, d) h
    go false false false false true rem a b c d e f = rw (a, b, c, d, e) h
    go false false false false false true a b c d e f = rw (a, b, c, d, e, f) tt
    go false false false false false false a b c d e f = rw (a, b, c, d, e, f) h

parts_bytes : (n : ℕ) (contents : List (List ℕ)) → AllByRecursion AreBytes contents → AllByRecursion HasBytes (parts_after n (map reading_of contents))
parts_bytes n [] h = tt
parts_bytes n (c ∷ cs) h = (part_bytes (suc n) (reading_of c) (says_bytes c h.0), parts_bytes (suc n) cs h.1)

continued_bytes : (parts : List Part) → AllByRecursion HasBytes parts → AreBytes (continuation parts)
continued_bytes [] h = tt
continued_bytes (Blank ∷ parts) h = continued_bytes parts h.1
continued_bytes (Continues value ∷ parts) h = bytes_joined value (continuation parts) h.0 (continued_bytes parts h.1)
continued_bytes (IsRemark ∷ parts) h = tt
continued_bytes (Begins z ∷ parts) h = tt

-- the value of the zone is bytes
abbrev pub HasByteValue : ZoneData → Type 0
HasByteValue z = IsBytes z.value

zones_bytes : (parts : List Part) → AllByRecursion HasBytes parts → AllByRecursion HasByteValue (whole_zones parts)
zones_bytes [] h = tt
zones_bytes (Blank ∷ parts) h = zones_bytes parts h.1
zones_bytes (Continues value ∷ parts) h = zones_bytes parts h.1
zones_bytes (IsRemark ∷ parts) h = zones_bytes parts h.1
zones_bytes (Begins z ∷ parts) h = (is_bytes (z.value ++ continuation parts) (bytes_joined z.value (continuation parts) h.0 (continued_bytes parts h.1)), zones_bytes parts h.1)

pub zone_values : (bytes : List ℕ) → IsBytes bytes → AllByRecursion HasByteValue (zones_of bytes)
zone_values bytes h =
    let lines = each_line (lines_in bytes) (subst AreBytes (sym (lines_exist bytes).joined) (are_bytes bytes h)) in
    zones_bytes (parts_after 0 (readings_of bytes)) (parts_bytes 0 (line_contents bytes) (each_content (lines_in bytes) lines))
