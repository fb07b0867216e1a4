-- What a record says of itself.
use Rattle.std.specs.Prelude.{◌≡◌, ℕ, List, ◌∷◌, Option, codes}
use Rattle.edi_line.specs.ZoneData.{ZoneData, first}
use Rattle.edi_record.specs.Records.{values}

-- the line in which a record begins, its type as it is stated, and its first identifier, if it has one
pub record TitleData : Type 0 where
  pub line : ℕ
  pub rty : List ℕ
  pub rid : Option (List ℕ)

-- these are the line and the value of the first zone, and the value of the first RID
pub record IsTitleOf (group : List ZoneData) (title : TitleData) : Type 0 where
  pub head : ZoneData
  pub rest : List ZoneData
  pub is : group ≡ head ∷ rest
  pub line : title.line ≡ head.line
  pub rty : title.rty ≡ head.value
  pub rid : title.rid ≡ first (values (codes "RID") group)
