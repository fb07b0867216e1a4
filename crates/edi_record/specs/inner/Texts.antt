-- Texts of pointers, of places and of counts, part by part: what reading finds.
use Rattle.std.specs.Prelude.{◌≡◌, ℕ, ◌<◌, ◌&&◌, nat_lt, List, [], ◌∷◌, length, map, if◌then◌else◌, Option, Some, None, option_map, ℤ}
use Rattle.std.specs.Simd.Lanes.{mask_l}
use Rattle.std.specs.List.{slice_split}
use Rattle.std.specs.Str.{all_ascii_digits}
use Rattle.std.specs.Str.Parse.{digits_value}
use Rattle.edi_line.specs.inner.Number.{number}
use Rattle.edi_record.specs.declared.record.Point.{Point}
use Rattle.edi_record.specs.declared.name.Name.{Name}
use Rattle.edi_record.specs.Texts.{is_semicolon, PointerText}

-- what stands before, between and after the semicolons
abbrev pub parts : List ℕ → List (List ℕ)
parts text = slice_split is_semicolon text

abbrev pub pointer_of : List (List ℕ) → Option PointerText
pointer_of (lot ∷ subset ∷ rty ∷ rid ∷ []) = Some (record { lot = lot; subset = subset; rty = rty; rid = rid })
pointer_of _ = None

-- four parts, so exactly three semicolons
unfoldable pub pointer : List ℕ → Option PointerText
pointer text = pointer_of (parts text)

-- what a pointer names, whichever lot and subset it names
abbrev pub class_of : List ℕ → Option Name
class_of text = option_map (λ p. record { rty = p.rty; rid = p.rid }) (pointer text)

abbrev pub flat_place : Option ℤ → Option ℤ → Option Point
flat_place (Some x) (Some y) = Some (record { x = x; y = y; z = None })
flat_place (Some x) None = None
flat_place None y = None

abbrev pub high_place : Option ℤ → Option ℤ → Option ℤ → Option Point
high_place (Some x) (Some y) (Some z) = Some (record { x = x; y = y; z = Some z })
high_place (Some x) (Some y) None = None
high_place (Some x) None z = None
high_place None y z = None

abbrev pub point_of : List (List ℕ) → Option Point
point_of (x ∷ y ∷ []) = flat_place (number x) (number y)
point_of (x ∷ y ∷ [] ∷ []) = flat_place (number x) (number y)
point_of (x ∷ y ∷ z ∷ []) = high_place (number x) (number y) (number z)
point_of (x ∷ y ∷ z ∷ [] ∷ []) = high_place (number x) (number y) (number z)
point_of _ = None

-- one part, or one and an empty one behind it
abbrev pub last_part : List (List ℕ) → Option (List ℕ)
last_part (part ∷ []) = Some part
last_part (part ∷ [] ∷ []) = Some part
last_part _ = None

-- two or three numbers parted by semicolons, with or without one at the end
unfoldable pub point_in : List ℕ → Option Point
point_in text = point_of (parts text)

-- one digit or more
unfoldable pub count : List ℕ → Option ℕ
count text = if nat_lt 0 (length text) && all_ascii_digits text then Some (digits_value 10 text) else None

-- the semicolons of a text, a bit each
abbrev pub semicolon_marks : List ℕ → ℕ
semicolon_marks text = mask_l (map is_semicolon text)

-- these are the semicolons of a text, which has fewer bytes than a number has bits
abbrev pub AreSemicolons : List ℕ → ℕ → Type 0
AreSemicolons text marks = (length text < 64) × (marks ≡ semicolon_marks text)

-- the text is cut at its first semicolon, or has none
abbrev pub AreCut : List ℕ → Option (List ℕ × List ℕ) → Type 0
AreCut text None = parts text ≡ text ∷ []
AreCut text (Some cut) = parts text ≡ cut.0 ∷ parts cut.1
