-- What the forms of sheets have to do with the sheets: the claim, for someone who doesn't ask which form a sheet has. It
-- speaks of acceptance and of the same plan alone.
use Rattle.std.specs.Prelude.{◌≡◌, ◌↔◌, ℕ, ◌<◌, ◌^◌, List, length}
use Rattle.std.specs.List.{AllByRecursion}
use Rattle.edi_line.specs.Bytes.{IsBytes}
use Rattle.edi_schema.specs.Classes.{Classes}
use Rattle.edi_compare.specs.PlanOfFile.{StateSame}
use Rattle.edi_compare.specs.Rules.{IsAccepted}

-- the names of the classes are bytes, as those that are read of files are
abbrev pub HasByteNames : Classes → Type 0
HasByteNames s = AllByRecursion (λ e. IsBytes e.0.rty × IsBytes e.0.rid) s

-- Under such a relation of sheets and forms the form of a sheet decides sameness.
pub record DecidesSameness (s : Classes) (IsForm : List ℕ → List ℕ → Type 0) : Type 0 where
  -- an accepted sheet of fewer than 2 ^ 64 bytes has a form, where the names of the classes are bytes
  pub there : (b : List ℕ) → HasByteNames s → IsBytes b → length b < 2 ^ 64 → IsAccepted s b → (c : List ℕ) × IsForm b c
  -- a sheet that has a form is accepted
  pub accepted : (b c : List ℕ) → IsForm b c → IsAccepted s b
  -- the form is accepted too
  pub sound : (b c : List ℕ) → IsForm b c → IsAccepted s c
  -- and states the plan of the sheet
  pub same : (b c : List ℕ) → IsForm b c → StateSame s b c
  -- a sheet has one form
  pub one : (b c d : List ℕ) → IsForm b c → IsForm b d → c ≡ d
  -- the forms of two sheets are equal exactly if the sheets state the same plan
  pub decides : (a b c d : List ℕ) → IsForm a c → IsForm b d → (c ≡ d) ↔ StateSame s a b
  -- a form is its own form
  pub own : (b c : List ℕ) → IsForm b c → IsForm c c
