-- How sites are packed.
use Rattle.std.specs.Prelude.{◌≡◌, ℕ, ◌+◌, ◌/◌, ◌%◌, ◌^◌, ◌<◌, List, [], ◌∷◌, ◌++◌, length, take, replicate}
use Rattle.edi_report.specs.declared.site.Site.{Site}

-- a number as bytes: 255 for each whole 255 in it, and then what is left
unfoldable pub packed_number : ℕ → List ℕ
packed_number n = replicate (n / 255) 255 ++ n % 255 ∷ []

-- if the bytes begin with a number, it is this one, and these bytes come behind it
abbrev pub IsFirstNumber : List ℕ → ℕ → List ℕ → Type 0
IsFirstNumber bytes number behind = (n : ℕ) (rest : List ℕ) → n < 2 ^ 64
    → bytes ≡ packed_number n ++ rest → (number ≡ n) × (behind ≡ rest)

-- what the first site is packed behind
abbrev pub start : Site
start = record { line = 0; rid = [] }

-- The bytes begin with a site as it differs from the one before, and the rest comes behind it: how many lines further
-- on it stands, how many bytes of the identifier before it keeps, how many new ones come behind these, and the new
-- ones. Lines are counted in 64 bits: one that is not further on is reached past the last.
pub record IsPackedSite (before site : Site) (bytes rest : List ℕ) : Type 0 where
  pub ahead : ℕ
  pub kept : ℕ
  pub new : List ℕ
  pub is_ahead : ahead < 2 ^ 64
  pub is_kept : kept < 2 ^ 64
  pub is_new : length new < 2 ^ 64
  pub line : site.line ≡ (before.line + ahead) % 2 ^ 64
  pub rid : site.rid ≡ take kept before.rid ++ new
  pub bytes_are : bytes ≡ packed_number ahead ++ (packed_number kept ++ (packed_number (length new) ++ (new ++ rest)))

-- if the bytes begin with a site that differs so from the one before, it is this one, and these bytes come behind it
abbrev pub IsFirstSite : Site → List ℕ → Site → List ℕ → Type 0
IsFirstSite before bytes site behind = (packed : Site) (rest : List ℕ) → IsPackedSite before packed bytes rest
    → (site ≡ packed) × (behind ≡ rest)

-- the bytes are these sites, packed one behind the other
abbrev pub ArePacked : Site → List Site → List ℕ → Type 0
ArePacked before [] bytes = bytes ≡ []
ArePacked before (site ∷ sites) bytes =
    (rest : List ℕ) × IsPackedSite before site bytes rest × ArePacked site sites rest

-- the last of these sites, or the one before them
abbrev pub last_of : Site → List Site → Site
last_of before [] = before
last_of before (site ∷ sites) = last_of site sites
