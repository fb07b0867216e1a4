-- Texts of pointers, of positions and of counts.
use Rattle.std.specs.Prelude.{◌≡◌, ◌⊎◌, ℕ, ◌<◌, ◌==◌, Bool, false, List, [], ◌∷◌, ◌++◌, All, length, Option, Some, None, option_to_list, ℤ}
use Rattle.std.specs.List.{join_with_byte, AllZip}
use Rattle.std.specs.Str.Parse.{AllDigits, digits_value}
use Rattle.edi_line.specs.Bytes.{semicolon}
use Rattle.edi_line.specs.Number.{IsNumberText, signed_text}
use Rattle.edi_record.specs.declared.record.Point.{Point}
use Rattle.edi_record.specs.declared.name.Name.{Name}
use Rattle.edi_record.specs.declared.pointer.Pointer.{Pointer}

-- the byte is a semicolon
abbrev pub is_semicolon : ℕ → Bool
is_semicolon c = c == semicolon

-- ---- pointers

-- the four parts of a pointer
pub record PointerText : Type 0 where
  pub lot : List ℕ
  pub subset : List ℕ
  pub rty : List ℕ
  pub rid : List ℕ

-- the text has no semicolon
abbrev pub HasNoSemicolon : List ℕ → Type 0
HasNoSemicolon part = All (λ c. (c == semicolon) ≡ false) part

-- four parts, with a semicolon between each two
pub record IsPointer (text : List ℕ) (p : PointerText) : Type 0 where
  pub is : text ≡ p.lot ++ semicolon ∷ (p.subset ++ semicolon ∷ (p.rty ++ semicolon ∷ p.rid))
  pub lot_part : HasNoSemicolon p.lot
  pub subset_part : HasNoSemicolon p.subset
  pub rty_part : HasNoSemicolon p.rty
  pub rid_part : HasNoSemicolon p.rid

-- a pointer to what the name names, in any lot and subset
abbrev pub PointsTo : List ℕ → Name → Type 0
PointsTo text name =
    (lot subset : List ℕ) × IsPointer text (record { lot = lot; subset = subset; rty = name.rty; rid = name.rid })

-- ---- positions

-- the two or three coordinates of a point
abbrev pub coordinates : Point → List ℤ
coordinates p = p.x ∷ p.y ∷ option_to_list p.z

-- the texts of the coordinates, with a semicolon between each two, with or without one at the end
pub record IsPosition (text : List ℕ) (p : Point) : Type 0 where
  pub numbers : List (List ℕ)
  pub is : (text ≡ join_with_byte semicolon numbers) ⊎ (text ≡ join_with_byte semicolon numbers ++ semicolon ∷ [])
  pub say : AllZip IsNumberText numbers (coordinates p)

-- ---- counts

-- one digit or more, which are worth so many
abbrev pub IsCount : List ℕ → ℕ → Type 0
IsCount text n = (0 < length text) × AllDigits 10 text × (n ≡ digits_value 10 text)

-- ---- as they are written

-- the text of a pointer
unfoldable pub pointer_text : PointerText → List ℕ
pointer_text p = p.lot ++ semicolon ∷ (p.subset ++ semicolon ∷ (p.rty ++ semicolon ∷ p.rid))

-- the third coordinate, where there is one
abbrev pub third_text : Option ℤ → List ℕ
third_text None = []
third_text (Some z) = signed_text z ++ semicolon ∷ []

-- the text of a point: its coordinates, with a semicolon behind each
unfoldable pub point_text : Point → List ℕ
point_text p = signed_text p.x ++ semicolon ∷ (signed_text p.y ++ semicolon ∷ third_text p.z)

-- the parts of a pointer that was read
abbrev pub shown : Pointer → PointerText
shown p = record { lot = p.lot.now; subset = p.subset.now; rty = p.rty.now; rid = p.rid.now }
