-- The codes of kinds of lines, and the groups of the zones of a file.
use Rattle.std.proofs.Common.{◌≡◌, ℕ, Bool, true, false, ◌||◌, cond, Option, Some, None, List, [], ◌∷◌, ◌++◌, filter, option_to_list, IfSome, bytes_eq, codes, refl, sym, ap, ◌∙◌}
use Rattle.std.specs.List.{flat_map, AllByRecursion}
use Rattle.std.proofs.lemmas.List.{append_assoc, append-nil}
use Rattle.std.proofs.lemmas.Slice.Eq.{bytes_eq-Decides}
use Rattle.edi_line.proofs.KindsSaid.{inner_same}
use Rattle.edi_line.specs.ZoneData.{ZoneData, has_code, first}
use Rattle.edi_line.specs.Zones.{IsGroup, IsFileOf, begins_group, ends_group, before_end, groups_of, charset_of}
use Rattle.edi_line.specs.LineKinds.{is_inner}
use Rattle.edi_line.specs.inner.Kinds.{kind_of, is_inner_kind}
use Rattle.edi_line.specs.declared.order.ZoneKind.{ZoneKind}
use Rattle.edi_line.specs.declared.order.ZoneKind.TheVariants.{Bom, Cse, Rty, Eom, Next, Remark, Other}

-- ---- the code of a kind

abbrev chain : Bool → Bool → Bool → Bool → Bool → Bool → ZoneKind
chain bom cse rty eom nex rem = cond bom Bom (cond cse Cse (cond rty Rty (cond eom Eom (cond nex Next (cond rem Remark Other)))))

at_bom : (bom cse rty eom nex rem : Bool) → chain bom cse rty eom nex rem ≡ Bom → bom ≡ true
at_bom true cse rty eom nex rem e = refl
at_bom false true rty eom nex rem e = cc
at_bom false false true eom nex rem e = cc
at_bom false false false true nex rem e = cc
at_bom false false false false true rem e = cc
at_bom false false false false false true e = cc
at_bom false false false false false false e = cc

at_cse : (bom cse rty eom nex rem : Bool) → chain bom cse rty eom nex rem ≡ Cse → cse ≡ true
at_cse true cse rty eom nex rem e = cc
at_cse false true rty eom nex rem e = refl
at_cse false false true eom nex rem e = cc
at_cse false false false true nex rem e = cc
at_cse false false false false true rem e = cc
at_cse false false false false false true e = cc
at_cse false false false false false false e = cc

at_rty : (bom cse rty eom nex rem : Bool) → chain bom cse rty eom nex rem ≡ Rty → rty ≡ true
at_rty true cse rty eom nex rem e = cc
at_rty false true rty eom nex rem e = cc
at_rty false false true eom nex rem e = refl
at_rty false false false true nex rem e = cc
at_rty false false false false true rem e = cc
at_rty false false false false false true e = cc
at_rty false false false false false false e = cc

at_eom : (bom cse rty eom nex rem : Bool) → chain bom cse rty eom nex rem ≡ Eom → eom ≡ true
at_eom true cse rty eom nex rem e = cc
at_eom false true rty eom nex rem e = cc
at_eom false false true eom nex rem e = cc
at_eom false false false true nex rem e = refl
at_eom false false false false true rem e = cc
at_eom false false false false false true e = cc
at_eom false false false false false false e = cc

at_inner : (bom cse rty eom nex rem : Bool) → is_inner_kind (chain bom cse rty eom nex rem) ≡ true → (bom ≡ false) × (cse ≡ false) × (rty ≡ false) × (eom ≡ false)
at_inner true cse rty eom nex rem e = cc
at_inner false true rty eom nex rem e = cc
at_inner false false true eom nex rem e = cc
at_inner false false false true nex rem e = cc
at_inner false false false false true rem e = (refl, refl, refl, refl)
at_inner false false false false false true e = (refl, refl, refl, refl)
at_inner false false false false false false e = (refl, refl, refl, refl)

abbrev is_code : List ℕ → List ℕ → Bool
is_code code name = bytes_eq code name

abbrev AtKind : (Bool → Bool → Bool → Bool → Bool → Bool → Type 0) → List ℕ → Type 0
AtKind P code = P (is_code code (codes "BOM")) (is_code code (codes "CSE")) (is_code code (codes "RTY")) (is_code code (codes "EOM")) (is_code code (codes "NEX")) (is_code code (codes "REM"))

same_code : (code name : List ℕ) → bytes_eq code name ≡ true → code ≡ name
same_code code name e = (bytes_eq-Decides code name).0 e

pub code_bom : (code : List ℕ) → kind_of code ≡ Bom → code ≡ codes "BOM"
code_bom code e = same_code code (codes "BOM") (at_bom (is_code code (codes "BOM")) (is_code code (codes "CSE")) (is_code code (codes "RTY")) (is_code code (codes "EOM")) (is_code code (codes "NEX")) (is_code code (codes "REM")) e)

pub code_cse : (code : List ℕ) → kind_of code ≡ Cse → code ≡ codes "CSE"
code_cse code e = same_code code (codes "CSE") (at_cse (is_code code (codes "BOM")) (is_code code (codes "CSE")) (is_code code (codes "RTY")) (is_code code (codes "EOM")) (is_code code (codes "NEX")) (is_code code (codes "REM")) e)

pub code_rty : (code : List ℕ) → kind_of code ≡ Rty → code ≡ codes "RTY"
code_rty code e = same_code code (codes "RTY") (at_rty (is_code code (codes "BOM")) (is_code code (codes "CSE")) (is_code code (codes "RTY")) (is_code code (codes "EOM")) (is_code code (codes "NEX")) (is_code code (codes "REM")) e)

pub code_eom : (code : List ℕ) → kind_of code ≡ Eom → code ≡ codes "EOM"
code_eom code e = same_code code (codes "EOM") (at_eom (is_code code (codes "BOM")) (is_code code (codes "CSE")) (is_code code (codes "RTY")) (is_code code (codes "EOM")) (is_code code (codes "NEX")) (is_code code (codes "REM")) e)

-- a code that is none of the four
pub code_inner : (code : List ℕ) → is_inner_kind (kind_of code) ≡ true → (is_code code (codes "BOM") ≡ false) × (is_code code (codes "CSE") ≡ false) × (is_code code (codes "RTY") ≡ false) × (is_code code (codes "EOM") ≡ false)
code_inner code e = at_inner (is_code code (codes "BOM")) (is_code code (codes "CSE")) (is_code code (codes "RTY")) (is_code code (codes "EOM")) (is_code code (codes "NEX")) (is_code code (codes "REM")) e

pub inner_apart : (code : List ℕ) → is_inner code ≡ true → (is_code code (codes "BOM") ≡ false) × (is_code code (codes "CSE") ≡ false) × (is_code code (codes "RTY") ≡ false) × (is_code code (codes "EOM") ≡ false)
inner_apart code e = code_inner code (sym (inner_same code) ∙ e)

-- ---- the groups of a file

abbrev AreInner : List ZoneData → Type 0
AreInner zs = AllByRecursion (λ z. is_inner z.code ≡ true) zs

inner_before : (zs rest : List ZoneData) → AreInner zs → before_end rest ≡ [] → before_end (zs ++ rest) ≡ zs
inner_before [] rest h end = end
inner_before (z ∷ zs) rest h end = let apart = inner_apart z.code h.0 in rw (apart.2, apart.3) (ap (λ t. z ∷ t) (inner_before zs rest h.1 end))

inner_groups : (zs rest : List ZoneData) → AreInner zs → groups_of (zs ++ rest) ≡ groups_of rest
inner_groups [] rest h = refl
inner_groups (z ∷ zs) rest h = let apart = inner_apart z.code h.0 in rw (apart.2) (inner_groups zs rest h.1)

rty_begins : (z : ZoneData) → z.code ≡ codes "RTY" → begins_group z ≡ true
rty_begins z e = ap (λ c. bytes_eq c (codes "RTY")) e

tail_ends : (z : ZoneData) → z.code ≡ codes "EOM" → (ends_group z ≡ true) × (begins_group z ≡ false) × (has_code (codes "CSE") z ≡ false)
tail_ends z is = (ap (λ c. bytes_eq c (codes "RTY") || bytes_eq c (codes "EOM")) is, ap (λ c. bytes_eq c (codes "RTY")) is, ap (λ c. bytes_eq c (codes "CSE")) is)

one_group : (g : List ZoneData) (rest : List ZoneData) → IsGroup g → before_end rest ≡ [] → groups_of (g ++ rest) ≡ g ∷ groups_of rest
one_group g rest h end =
    ap (λ t. groups_of (t ++ rest)) h.joined
    ∙ rw (rty_begins h.first h.leads, inner_before h.rest rest h.others end, inner_groups h.rest rest h.others) (ap (λ t. t ∷ groups_of rest) (sym h.joined))

group_ends : (g rest : List ZoneData) → IsGroup g → before_end (g ++ rest) ≡ []
group_ends g rest h = ap (λ t. before_end (t ++ rest)) h.joined ∙ rw (rty_begins h.first h.leads) refl

all_groups : (gs : List (List ZoneData)) (tail : ZoneData) → AllByRecursion IsGroup gs → tail.code ≡ codes "EOM"
    → (groups_of (flat_map (λ g. g) gs ++ tail ∷ []) ≡ gs) × (before_end (flat_map (λ g. g) gs ++ tail ∷ []) ≡ [])
all_groups [] tail h e = let t = tail_ends tail e in (rw (t.1) refl, rw (t.0) refl)
all_groups (g ∷ gs) tail h e =
    let more = all_groups gs tail h.1 e in
    let same = append_assoc g (flat_map (λ x. x) gs) (tail ∷ []) in (
      ap groups_of same ∙ one_group g (flat_map (λ x. x) gs ++ tail ∷ []) h.0 more.1 ∙ ap (λ t. g ∷ t) more.0,
      ap before_end same ∙ group_ends g (flat_map (λ x. x) gs ++ tail ∷ []) h.0,
    )

abbrev charsets : List ZoneData → List ZoneData
charsets zs = filter (has_code (codes "CSE")) zs

no_charsets : (zs rest : List ZoneData) → AreInner zs → charsets (zs ++ rest) ≡ charsets rest
no_charsets [] rest h = refl
no_charsets (z ∷ zs) rest h = let apart = inner_apart z.code h.0 in rw (apart.1) (no_charsets zs rest h.1)

rty_none : (z : ZoneData) → z.code ≡ codes "RTY" → has_code (codes "CSE") z ≡ false
rty_none z e = ap (λ c. bytes_eq c (codes "CSE")) e

group_charsets : (g rest : List ZoneData) → IsGroup g → charsets (g ++ rest) ≡ charsets rest
group_charsets g rest h = ap (λ t. charsets (t ++ rest)) h.joined ∙ rw (rty_none h.first h.leads) (no_charsets h.rest rest h.others)

groups_charsets : (gs : List (List ZoneData)) (tail : ZoneData) → AllByRecursion IsGroup gs → tail.code ≡ codes "EOM" → charsets (flat_map (λ g. g) gs ++ tail ∷ []) ≡ []
groups_charsets [] tail h e = rw ((tail_ends tail e).2) refl
groups_charsets (g ∷ gs) tail h e =
    ap charsets (append_assoc g (flat_map (λ x. x) gs) (tail ∷ [])) ∙ group_charsets g (flat_map (λ x. x) gs ++ tail ∷ []) h.0 ∙ groups_charsets gs tail h.1 e

behind_charset : (charset : Option ZoneData) (rest : List ZoneData) → IfSome charset (λ z. z.code ≡ codes "CSE") → charsets rest ≡ []
    → (first (charsets (option_to_list charset ++ rest)) ≡ charset) × (groups_of (option_to_list charset ++ rest) ≡ groups_of rest)
behind_charset None rest h none = (rw none refl, refl)
behind_charset (Some z) rest h none =
    let found : has_code (codes "CSE") z ≡ true = ap (λ c. bytes_eq c (codes "CSE")) h in
    let begins_none : begins_group z ≡ false = ap (λ c. bytes_eq c (codes "RTY")) h in
    (rw found refl, rw begins_none refl)

pub file_said : (zones : List ZoneData) (charset : Option ZoneData) (groups : List (List ZoneData)) → IsFileOf zones charset groups → (charset_of zones ≡ charset) × (groups_of zones ≡ groups)
file_said zones charset groups f =
    let body = flat_map (λ g. g) groups ++ f.tail ∷ [] in
    let is = f.head_is in
    let no_set : has_code (codes "CSE") f.head ≡ false = ap (λ c. bytes_eq c (codes "CSE")) is in
    let no_group : begins_group f.head ≡ false = ap (λ c. bytes_eq c (codes "RTY")) is in
    let found = behind_charset charset body f.charset_is (groups_charsets groups f.tail f.groups_are f.tail_is) in (
      ap charset_of f.joined ∙ rw no_set found.0,
      ap groups_of f.joined ∙ rw no_group (found.1 ∙ (all_groups groups f.tail f.groups_are f.tail_is).0),
    )

-- the character set stands in front of the first record
pub charset_in_front : (zones : List ZoneData) (charset : Option ZoneData) (groups : List (List ZoneData)) → IsFileOf zones charset groups → charset_of (before_end zones) ≡ charset_of zones
charset_in_front zones charset groups f =
    let is = f.head_is in
    let no_set : has_code (codes "CSE") f.head ≡ false = ap (λ c. bytes_eq c (codes "CSE")) is in
    let no_end : ends_group f.head ≡ false = ap (λ c. bytes_eq c (codes "RTY") || bytes_eq c (codes "EOM")) is in
    let body = flat_map (λ g. g) groups ++ f.tail ∷ [] in
    let front = in_front charset body f.charset_is (all_groups groups f.tail f.groups_are f.tail_is).1 in
    let cut : before_end zones ≡ f.head ∷ option_to_list charset = ap before_end f.joined ∙ rw no_end (ap (λ t. f.head ∷ t) front) in
    ap charset_of cut ∙ rw no_set (ap (λ t. first (charsets t)) (sym (append-nil (option_to_list charset))) ∙ (behind_charset charset [] f.charset_is refl).0) ∙ sym (file_said zones charset groups f).0
  where
    in_front : (set : Option ZoneData) (rest : List ZoneData) → IfSome set (λ z. z.code ≡ codes "CSE") → before_end rest ≡ [] → before_end (option_to_list set ++ rest) ≡ option_to_list set
    in_front None rest h end = end
    in_front (Some z) rest h end = let no_end : ends_group z ≡ false = ap (λ c. bytes_eq c (codes "RTY") || bytes_eq c (codes "EOM")) h in rw no_end (ap (λ t. z ∷ t) end)
