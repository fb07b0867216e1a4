-- How the list of all broken rules grows, line by line.
use Rattle.std.specs.Prelude.{◌≡◌, ℕ, ◌+◌, ◌≤◌, true, List, [], ◌∷◌, ◌++◌, length, if◌then◌else◌, Some, None, Ok, Err}
use Rattle.edi_line.specs.AllBroken.{AreAllBroken}
use Rattle.edi_line.specs.Feeding.{seen_in}
use Rattle.edi_line.specs.inner.Kinds.{kind_of}
use Rattle.edi_line.specs.LineRules.{BreaksAt}
use Rattle.edi_line.specs.Refusal.{Test, test}
use Rattle.edi_line.specs.Spelling.{Reading}
use Rattle.edi_line.specs.inner.Held.{kind_tests, noted}
use Rattle.edi_line.specs.declared.broken.BrokenLines.{BrokenLines}
use Rattle.edi_line.specs.declared.broken.BrokenRule.{BrokenRule}
use Rattle.edi_line.specs.declared.order.Order.{Order}

-- the list with those of these rules behind it that are broken, all at one place
abbrev pub with_broken : List BrokenRule → ℕ → List Test → List BrokenRule
with_broken list at [] = list
with_broken list at (t ∷ ts) =
    with_broken (if t.is_broken then list ++ record { rule = t.rule; at = at } ∷ [] else list) at ts

-- the tests of a line that says this, where these have come
abbrev pub tests_of : Order → Reading → List Test
tests_of seen (Ok (Some s)) = kind_tests seen (kind_of s.code)
tests_of seen (Ok None) = []
tests_of seen (Err rule) = test rule true ∷ []

-- one line more was taken, with each rule that it breaks
pub record TakesLine (line : Reading) (old new : BrokenLines) : Type 0 where
  pub counted : new.line ≡ old.line + 1
  pub order : new.order ≡ noted old.order line
  pub list : new.list.items ≡ with_broken old.list.items (old.line + 1) (tests_of old.order line)

-- these lines were taken, with each rule that they break
pub record HoldsBroken (done : List Reading) (b : BrokenLines) : Type 0 where
  pub counted : b.line ≡ length done
  pub order : b.order ≡ seen_in done
  pub few : b.order.records ≤ b.line
  pub list : AreAllBroken (BreaksAt done) b.list.items
