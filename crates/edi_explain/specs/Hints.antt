-- The usual causes of a refusal that a file shows.
use Rattle.std.specs.Prelude.{◌≡◌, ◌++◌, ◌||◌, ℕ, Bool, false, List, [], ◌∷◌, Option, Some, None, MatchOption, codes, drop, length, nat_eq, bytes_eq, if◌then◌else◌}
use Rattle.std.specs.List.{AllByRecursion, starts_with, ends_with}
use Rattle.edi_line.specs.Bytes.{line_feed}
use Rattle.edi_line.specs.Lines.{IsLinesOf}
use Rattle.edi_explain.specs.declared.hints.DeliveryPart.{DeliveryPart}
use Rattle.edi_shown.specs.Shown.{shown_bytes}
use Rattle.edi_explain.specs.declared.hints.DeliveryPart.TheVariants.{Thf, Gen, Geo, Qal, Scd, Dic, Vec}

-- the part of a delivery whose records are of a type
abbrev pub part_typed : List ℕ → Option DeliveryPart
part_typed rty =
    if bytes_eq rty (codes "GTS") || bytes_eq rty (codes "GTL") then Some Thf
    else (if bytes_eq rty (codes "DEG") || bytes_eq rty (codes "GSE") then Some Gen
    else (if bytes_eq rty (codes "GEO") || bytes_eq rty (codes "RPR") then Some Geo
    else (if bytes_eq rty (codes "QUP") then Some Qal
    else (if bytes_eq rty (codes "OBJ")
    || (bytes_eq rty (codes "PGE") || (bytes_eq rty (codes "REL") || bytes_eq rty (codes "ATT"))) then Some Scd
    else (if bytes_eq rty (codes "DID") || (bytes_eq rty (codes "DIA") || bytes_eq rty (codes "DIR")) then Some Dic
    else (if bytes_eq rty (codes "PNO") || (bytes_eq rty (codes "PAR")
    || (bytes_eq rty (codes "PFE") || (bytes_eq rty (codes "FEA") || bytes_eq rty (codes "LNK")))) then Some Vec
    else None))))))

-- with this a line begins that states the type of a record, in three bytes
abbrev pub type_head : List ℕ
type_head = codes "RTYSA03:"

-- these lines are of a part by the first of them that begins so, and its value
pub record IsPartAmong (lines : List (List ℕ)) (part : DeliveryPart) : Type 0 where
  pub before : List (List ℕ)
  pub value : List ℕ
  pub rest : List ℕ
  pub after : List (List ℕ)
  pub cut : lines ≡ before ++ (type_head ++ (value ++ rest)) ∷ after
  pub first : AllByRecursion (λ line. starts_with nat_eq line type_head ≡ false) before
  pub three : length value ≡ 3
  pub typed : part_typed value ≡ Some part

-- a file is a part by its first line that states a type
abbrev pub IsPart : List ℕ → DeliveryPart → Type 0
IsPart b part = (lines : List (List ℕ)) × IsLinesOf b lines × IsPartAmong lines part

-- the part that a file is, or it is none
abbrev pub IsPartIfAny : List ℕ → Option DeliveryPart → Type 0
IsPartIfAny b found = MatchOption found ((part : DeliveryPart) → ¬ (IsPart b part)) (IsPart b)

abbrev pub name_of : DeliveryPart → List ℕ
name_of Thf = codes "THF"
name_of Gen = codes "GEN"
name_of Geo = codes "GEO"
name_of Qal = codes "QAL"
name_of Scd = codes "SCD"
name_of Dic = codes "DIC"
name_of Vec = codes "VEC"

-- hint: FILE, and words
abbrev pub hint_line : List ℕ → List ℕ → List ℕ
hint_line name words = codes "hint: " ++ shown_bytes name ++ words ++ line_feed ∷ []

-- the byte order mark, as UTF-8 has it
abbrev pub byte_order_mark : List ℕ
byte_order_mark = 239 ∷ 187 ∷ 191 ∷ []

-- it begins with one
abbrev pub mark_hint : List ℕ → List ℕ → List ℕ
mark_hint name b =
    if starts_with nat_eq b byte_order_mark
    then hint_line name (codes " begins with a byte order mark, which has to go") else []

-- the byte 0x1A, with which some systems end a text
abbrev pub text_end : ℕ
text_end = 26

-- it ends in that byte
abbrev pub end_hint : List ℕ → List ℕ → List ℕ
end_hint name b =
    if ends_with nat_eq b (text_end ∷ []) then hint_line name (codes " ends in a byte 0x1A, which has to go") else []

-- two parts are one
abbrev pub same_part : DeliveryPart → DeliveryPart → Bool
same_part a b = bytes_eq (name_of a) (name_of b)

-- it is another part than the one in whose place it stands
abbrev pub part_hint : List ℕ → DeliveryPart → Option DeliveryPart → List ℕ
part_hint name wanted None = []
part_hint name wanted (Some part) = if same_part part wanted then []
    else codes "hint: " ++ shown_bytes name ++ codes " is " ++ name_of part
    ++ codes " by its first record, and was given as " ++ name_of wanted ++ line_feed ∷ []

-- the bytes begin so
abbrev pub begins_with : List ℕ → List ℕ → Bool
begins_with b head = starts_with nat_eq b head

-- with these bytes files begin that gzip packed, archives of ZIP, and texts in UTF-16 of either order
abbrev pub gzip_head : List ℕ
gzip_head = 31 ∷ 139 ∷ []

abbrev pub zip_head : List ℕ
zip_head = 80 ∷ 75 ∷ 3 ∷ 4 ∷ []

abbrev pub low_first_mark : List ℕ
low_first_mark = 255 ∷ 254 ∷ []

abbrev pub high_first_mark : List ℕ
high_first_mark = 254 ∷ 255 ∷ []

-- behind 257 bytes an archive of tar has its name
abbrev pub is_tar : List ℕ → Bool
is_tar b = begins_with (drop 257 b) (codes "ustar")

-- what a file is by its first bytes, where it can't be read as it is, and what to do then
abbrev pub form_words : List ℕ → Option (List ℕ)
form_words b =
    if begins_with b (codes "BZh") then Some (codes " is packed with bzip2: unpack it first")
    else if begins_with b gzip_head then Some (codes " is packed with gzip: unpack it first")
    else if begins_with b zip_head then Some (codes " is a ZIP archive: take the files out of it first")
    else if is_tar b then Some (codes " is a tar archive: take the files out of it first")
    else if begins_with b low_first_mark || begins_with b high_first_mark
    then Some (codes " seems to have been turned into UTF-16, so take the file as it was delivered")
    else None

-- those words alone, or else the other hints
abbrev pub form_hint_or : List ℕ → Option (List ℕ) → List ℕ → List ℕ
form_hint_or name (Some words) others = hint_line name words
form_hint_or name None others = others

-- the hints on a file in the place of a part
abbrev pub AreHints : List ℕ → List ℕ → DeliveryPart → List ℕ → Type 0
AreHints name b wanted lines = (part : Option DeliveryPart) × IsPartIfAny b part
    × (lines ≡ form_hint_or name (form_words b) (mark_hint name b ++ end_hint name b ++ part_hint name wanted part))

-- the hints on the three files of a sheet, one after the other
abbrev pub AreHintsOfSheet : List ℕ → List ℕ → List ℕ → List ℕ → List ℕ → List ℕ → List ℕ → Type 0
AreHintsOfSheet scd_name scd dic_name dic vec_name vec lines =
    (of_scd of_dic of_vec : List ℕ) × AreHints scd_name scd Scd of_scd × AreHints dic_name dic Dic of_dic
    × AreHints vec_name vec Vec of_vec × (lines ≡ of_scd ++ of_dic ++ of_vec)
