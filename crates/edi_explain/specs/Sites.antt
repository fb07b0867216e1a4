-- Where the records of a file stand.
use Rattle.std.specs.Prelude.{◌≡◌, ℕ, suc, List, ◌∷◌, Option, Some, MatchOption, codes, slice_get}
use Rattle.std.specs.List.{AllZip}
use Rattle.edi_line.specs.ZoneData.{ZoneData, first}
use Rattle.edi_line.specs.Zones.{groups_of}
use Rattle.edi_record.specs.Records.{values}
use Rattle.edi_explain.specs.declared.site.RecordSite.{RecordSite}

-- the record of these zones begins in this line with an RTY of this value, and its first RID has this value
pub record IsSiteOfGroup (group : List ZoneData) (site : RecordSite) : Type 0 where
  pub head : ZoneData
  pub rest : List ZoneData
  pub is : group ≡ head ∷ rest
  pub line : site.line ≡ head.line
  pub rty : site.rty ≡ head.value
  pub rid : site.rid ≡ first (values (codes "RID") group)

-- the sites of the records of these zones, in their order
abbrev pub AreAllSites : List (List ZoneData) → List RecordSite → Type 0
AreAllSites groups sites = AllZip IsSiteOfGroup groups sites

-- the record with this number, from 1, has the site
pub record IsSiteOf (zones : List ZoneData) (number : ℕ) (site : RecordSite) : Type 0 where
  pub place : ℕ
  pub group : List ZoneData
  pub number_is : number ≡ suc place
  pub there : slice_get (groups_of zones) place ≡ Some group
  pub has_site : IsSiteOfGroup group site

-- where the record with this number stands, or the file has no such record
abbrev pub IsSiteIfAny : List ZoneData → ℕ → Option RecordSite → Type 0
IsSiteIfAny zones number found =
    MatchOption found ((site : RecordSite) → ¬ (IsSiteOf zones number site)) (IsSiteOf zones number)
