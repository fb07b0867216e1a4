-- How a line is read.
use Rattle.std.specs.Prelude.{◌≡◌, ℕ, ◌<◌, Bool, true, false, List, ◌∷◌, ◌++◌, length}
use Rattle.std.specs.List.{list_any}
use Rattle.edi_pairing.specs.Names.{is_mark, name_at}
use Rattle.edi_pairing.specs.PairingText.{line_of}
use Rattle.edi_pairing.specs.declared.names.RecordName.{RecordName}

-- the text is a front without a mark, and an end that begins with one
pub record IsCutAtMark (text front end : List ℕ) : Type 0 where
  pub joined : text ≡ front ++ end
  pub plain : list_any is_mark front ≡ false
  pub mark : ℕ
  pub rest : List ℕ
  pub begins : end ≡ mark ∷ rest
  pub is : is_mark mark ≡ true

-- the text begins with a line that pairs the name with a record of B, and this comes behind it
pub record BeginsWith (b : List RecordName) (name : RecordName) (text : List ℕ) (to : ℕ) (turned : Bool)
    (behind : List ℕ) : Type 0 where
  pub within : to < length b
  pub typed : (name_at b to).kind ≡ name.kind
  pub cut : text ≡ line_of name (name_at b to).rid turned ++ behind
