-- What a text of differences tells.
use Rattle.std.specs.Prelude.{ℕ, List, Option, length, slice_index_or, ◌≡◌, [], false}
use Rattle.edi_report.specs.declared.parts.DifferingParts.{DifferingParts}
use Rattle.edi_report.specs.declared.sheet.LocatedSheet.{LocatedSheet}
use Rattle.edi_report.specs.declared.site.Site.{Site}

-- two sheets; for each record of the first the one of the second that it is, and the one that it is or became; and the
-- parts in which those that changed differ
pub record Report : Type 0 where
  pub first : LocatedSheet
  pub second : LocatedSheet
  pub unchanged : List (Option ℕ)
  pub became : List (Option ℕ)
  pub parts : List DifferingParts

-- the site of the record at a place
abbrev pub site_at : LocatedSheet → ℕ → Site
site_at sheet k = slice_index_or sheet.sites k (record { line = 0; rid = [] })

-- no part differs
abbrev pub no_parts : DifferingParts
no_parts = record { class = false; attributes = false; extras = false; points = false; ends = false }

-- the parts at a place
abbrev pub parts_at : List DifferingParts → ℕ → DifferingParts
parts_at parts i = slice_index_or parts i no_parts

-- each record has a site
abbrev pub HasSites : LocatedSheet → Type 0
HasSites sheet = length sheet.sites ≡ length sheet.accepted.list
