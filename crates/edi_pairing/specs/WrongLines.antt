-- Why a line of a pairing's file is wrong.
use Rattle.std.specs.Prelude.{◌≡◌, ◌≢◌, ℕ, ◌+◌, ◌-◌, ◌<◌, ◌==◌, Bool, false, List, [], ◌∷◌, ◌++◌, length, codes, ⊤}
use Rattle.std.specs.List.{list_any}
use Rattle.edi_line.specs.Bytes.{carriage_return, line_feed}
use Rattle.edi_pairing.specs.Names.{is_mark, name_at}
use Rattle.edi_pairing.specs.PairingText.{IsFirstWrong, line_of}
use Rattle.edi_pairing.specs.declared.fault.PairingFault.{PairingFault}
use Rattle.edi_pairing.specs.declared.fault.PairingFault.TheVariants.{Memory, Line}
use Rattle.edi_pairing.specs.declared.fault.WrongLine.{WrongLine}
use Rattle.edi_pairing.specs.declared.fault.WrongLine.TheVariants.{Missing, Extra, Unended, CarriageReturn, Head, Form, OtherRecord, SecondSheet, NoRecord, NoPartner, OtherType}
use Rattle.edi_pairing.specs.declared.names.RecordName.{RecordName}

-- the byte ends a line
abbrev pub is_line_feed : ℕ → Bool
is_line_feed c = c == line_feed

-- the text begins with a line, and a carriage return stands before its line feed
pub record EndsInReturn (text : List ℕ) : Type 0 where
  pub line : List ℕ
  pub rest : List ℕ
  pub one_line : list_any is_line_feed line ≡ false
  pub cut : text ≡ line ++ carriage_return ∷ line_feed ∷ rest

-- the text begins with a line in form, `TYPE;IDENTIFIER;IDENTIFIER` or that with `;reversed`, of this name and with
-- this second identifier
pub record IsLineOf (text : List ℕ) (name : RecordName) (other : List ℕ) : Type 0 where
  pub turned : Bool
  pub rest : List ℕ
  pub plain : list_any is_mark name.rid ≡ false
  pub plain_other : list_any is_mark other ≡ false
  pub cut : text ≡ line_of name other turned ++ rest

-- one of the names is this
abbrev pub HasName : List RecordName → RecordName → Type 0
HasName names name = (k : ℕ) × (k < length names) × (name_at names k ≡ name)

-- one of the names has this identifier
abbrev pub HasIdentifier : List RecordName → List ℕ → Type 0
HasIdentifier names rid = (k : ℕ) × (k < length names) × ((name_at names k).rid ≡ rid)

-- ---- what the reasons say of a line of a pairing of two sheets, by the names of their records

module _ (a b : List RecordName) (line : ℕ) (next : RecordName) (text : List ℕ) where
  -- What a reason says of a line, by its number, the name of A whose line it should be, and what stands in the file
  -- from it on.
  abbrev pub SaysOfLine : WrongLine → Type 0
  SaysOfLine Missing = text ≡ []
  SaysOfLine Extra = length a + 1 < line
  SaysOfLine Unended = list_any is_line_feed text ≡ false
  SaysOfLine CarriageReturn = EndsInReturn text
  SaysOfLine Head = line ≡ 1
  SaysOfLine Form = (name : RecordName) (other : List ℕ) → ¬ (IsLineOf text name other)
  SaysOfLine OtherRecord =
      (name : RecordName) × (other : List ℕ) × IsLineOf text name other × (name ≢ next) × HasName a name
  SaysOfLine SecondSheet =
      (name : RecordName) × (other : List ℕ) × IsLineOf text name other × (¬ (HasName a name)) × HasName b name
  SaysOfLine NoRecord =
      (name : RecordName) × (other : List ℕ) × IsLineOf text name other × (¬ (HasName a name)) × (¬ (HasName b name))
  SaysOfLine NoPartner = (other : List ℕ) × IsLineOf text next other × (¬ (HasIdentifier b other))
  SaysOfLine OtherType =
      (other : List ℕ) × IsLineOf text next other × HasIdentifier b other
      × (¬ (HasName b (record { kind = next.kind; rid = other })))

-- the order in which the reasons are asked
abbrev pub reason_order : WrongLine → ℕ
reason_order Missing = 0
reason_order Extra = 1
reason_order Unended = 2
reason_order CarriageReturn = 3
reason_order Head = 4
reason_order Form = 5
reason_order OtherRecord = 6
reason_order SecondSheet = 7
reason_order NoRecord = 8
reason_order NoPartner = 9
reason_order OtherType = 10

-- what the reason says is so, and what those before it say isn't
pub record IsFirstReason (a b : List RecordName) (line : ℕ) (next : RecordName) (text : List ℕ)
    (why : WrongLine) : Type 0 where
  pub so : SaysOfLine a b line next text why
  pub first : (w : WrongLine) → reason_order w < reason_order why → ¬ (SaysOfLine a b line next text w)

-- the file states no pairing, this is its first wrong line, and this is why
pub record IsWrongBy (a b : List RecordName) (file : List ℕ) (line : ℕ) (why : WrongLine) : Type 0 where
  pub wrong : IsFirstWrong a b file line
  pub reason : IsFirstReason a b line (name_at a (line - 2)) wrong.before.behind why

-- a fault other than lack of memory names that line and that reason
abbrev pub IsPairingRefusal : List RecordName → List RecordName → List ℕ → PairingFault → Type 0
IsPairingRefusal a b file (Memory e) = ⊤
IsPairingRefusal a b file (Line at why) = IsWrongBy a b file at why

-- the reasons in words
abbrev pub reason_words : WrongLine → List ℕ
reason_words Missing = codes "the file ends before this line"
reason_words Extra = codes "A has no more records"
reason_words Unended = codes "the file ends within this line"
reason_words CarriageReturn = codes "it ends in a carriage return"
reason_words Head = codes "it is not edicad pairing 1"
reason_words Form = codes "it is not TYPE;IDENTIFIER;IDENTIFIER, with or without ;reversed"
reason_words OtherRecord = codes "it is the line of another record of A than the next"
reason_words SecondSheet = codes "it is the line of a record of B, and not of A: the sheets may be exchanged"
reason_words NoRecord = codes "it is the line of a record that neither sheet has"
reason_words NoPartner = codes "no record of B has the second identifier"
reason_words OtherType = codes "the record of B with the second identifier has another type"
