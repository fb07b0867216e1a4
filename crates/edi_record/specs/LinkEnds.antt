-- The ends of links.
use Rattle.std.specs.Prelude.{ℕ, List, Option}
use Rattle.edi_record.specs.declared.name.Name.{Name}

-- an end of a link: the four texts of its pointer, the last two of which are a name, and its SNS
pub record EndData : Type 0 where
  pub lot : List ℕ
  pub subset : List ℕ
  pub target : Name
  pub sns : Option (List ℕ)
