-- How one reader goes through lines that come in pieces.
use Rattle.std.specs.Prelude.{◌≡◌, ℕ, List, [], ◌∷◌, ◌++◌}
use Rattle.edi_line.specs.Feeding.{Refused, EndedPart}
use Rattle.edi_line.specs.Feeding.Refused.{ByMemory, ByRule}
use Rattle.edi_line.specs.Spelling.{Reading}
use Rattle.edi_line.specs.inner.Held.{TakesNextLine, BreaksAtNext}
use Rattle.edi_line.specs.inner.Zones.{readings_of}
use Rattle.edi_line.specs.declared.feed.Refusal.{Refusal}
use Rattle.edi_line.specs.declared.feed.Refusal.TheVariants as refusal
use Rattle.edi_line.specs.declared.reading.Reader.{Reader}

-- what a feed stores of its fault, as clauses see it
abbrev pub refusal_seen : Refusal → Refused
refusal_seen refusal.Memory = ByMemory
refusal_seen (refusal.Broken rule at) = ByRule rule at

-- it took these lines one by one
abbrev pub TakesAll : Reader → List Reading → Reader → Type 0
TakesAll old [] new = old ≡ new
TakesAll old (line ∷ lines) new = (mid : Reader) × TakesNextLine old line mid × TakesAll mid lines new

-- it took the lines of the bytes that have ended, and left the rest
pub record TakesFront (old : Reader) (bytes rest : List ℕ) (new : Reader) : Type 0 where
  pub ended : List ℕ
  pub cut : EndedPart bytes ended rest
  pub takes : TakesAll old (readings_of ended) new

-- it took the lines before one of these, and refuses that one
pub record RefusesOne (old : Reader) (lines : List Reading) (rule place : ℕ) : Type 0 where
  pub before : List Reading
  pub line : Reading
  pub after : List Reading
  pub cut : lines ≡ before ++ line ∷ after
  pub mid : Reader
  pub takes : TakesAll old before mid
  pub refuses : BreaksAtNext mid line rule place

-- it refuses one of the lines of the bytes that have ended
pub record RefusesIn (old : Reader) (bytes : List ℕ) (rule place : ℕ) : Type 0 where
  pub ended : List ℕ
  pub rest : List ℕ
  pub cut : EndedPart bytes ended rest
  pub one : RefusesOne old (readings_of ended) rule place
