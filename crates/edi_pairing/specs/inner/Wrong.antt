-- Parts of the reasons why a line is wrong.
use Rattle.std.specs.Prelude.{◌≡◌, ◌≢◌, ℕ, true, false, List, []}
use Rattle.std.specs.List.{list_any}
use Rattle.edi_pairing.specs.WrongLines.{EndsInReturn, HasIdentifier, HasName, is_line_feed}
use Rattle.edi_pairing.specs.declared.fault.WrongLine.{WrongLine}
use Rattle.edi_pairing.specs.declared.fault.WrongLine.TheVariants.{Missing, Unended, CarriageReturn, OtherRecord, SecondSheet, NoRecord, NoPartner, OtherType}
use Rattle.edi_pairing.specs.declared.names.RecordName.{RecordName}

-- the text begins with a line, and no carriage return stands before its line feed
pub record BeginsWithLine (text : List ℕ) : Type 0 where
  pub some : text ≢ []
  pub ended : list_any is_line_feed text ≡ true
  pub plain : ¬ (EndsInReturn text)

-- the text is empty, has no line feed, or has a carriage return before the first
abbrev pub IsUnreadLine : List ℕ → WrongLine → Type 0
IsUnreadLine text Missing = text ≡ []
IsUnreadLine text Unended = (text ≢ []) × (list_any is_line_feed text ≡ false)
IsUnreadLine text CarriageReturn = EndsInReturn text
IsUnreadLine text _ = ⊥

-- why a line in form, of this name and with this second identifier, doesn't pair the next name
abbrev pub IsNoPair : List RecordName → List RecordName → RecordName → RecordName → List ℕ → WrongLine → Type 0
IsNoPair a b next name other OtherRecord = (next ≢ name) × HasName a name
IsNoPair a b next name other SecondSheet = (next ≢ name) × (¬ (HasName a name)) × HasName b name
IsNoPair a b next name other NoRecord = (next ≢ name) × (¬ (HasName a name)) × (¬ (HasName b name))
IsNoPair a b next name other NoPartner = (next ≡ name) × (¬ (HasIdentifier b other))
IsNoPair a b next name other OtherType = (next ≡ name) × HasIdentifier b other
IsNoPair a b next name other _ = ⊥
