-- Whether a rule that a sheet breaks is one of lines or of records.
use Rattle.std.proofs.Common.{◌≡◌, ◌<◌, ◌≤◌, ℕ, List, [], ◌∷◌, subst, sym, arith, length, get_or, slice_get, Some, None}
use Rattle.edi_line.specs.LineRules.{BreaksLineRule}
use Rattle.edi_line.specs.Refusal.{IsUnbroken}
use Rattle.edi_schema.specs.Classes.{Classes}
use Rattle.edi_line.specs.AllBroken.{AreAllBroken}
use Rattle.edi_line.specs.declared.broken.BrokenRule.{BrokenRule}
use Rattle.edi_compare.specs.Rules.{Breaks}
use Rattle.edi_compare.proofs.Phases.{group_above, line_rule_below, object_above, reference_above, topology_above}
use Rattle.edi_compare.specs.Rules.Breaks.{of_lines, of_records, of_references, of_topology, of_objects}

module _ (s : Classes) (b : List ℕ) (rule at : ℕ) where
  -- behind the rules of lines no line is broken
  pub lines_hold : Breaks s b rule at → 200 ≤ rule → IsUnbroken (BreaksLineRule b)
  lines_hold (of_lines g) high = absurd (omega (arith, high, line_rule_below b rule at g))
  lines_hold (of_records zones held z g) high = held
  lines_hold (of_references sheet held z g) high = held.0
  lines_hold (of_topology plan held z g) high = held.0.0
  lines_hold (of_objects plan held z g) high = held.0.0.0

  -- a rule in front of those of records is one of lines
  pub line_broken : Breaks s b rule at → rule < 200 → BreaksLineRule b rule at
  line_broken (of_lines g) low = g
  line_broken (of_records zones held z g) low = absurd (omega (arith, low, group_above g.group rule g.breaks))
  line_broken (of_references sheet held z g) low = absurd (omega (arith, low, reference_above s sheet.list rule at g))
  line_broken (of_topology plan held z g) low = absurd (omega (arith, low, topology_above plan rule at g))
  line_broken (of_objects plan held z g) low = absurd (omega (arith, low, object_above plan rule at g))

module _ (s : Classes) (b : List ℕ) (broken : List BrokenRule) (all : AreAllBroken (Breaks s b) broken) where
  -- where the first rule isn't one of lines, no line is broken
  pub lines_hold_at : (it : BrokenRule) → Some it ≡ slice_get broken 0 → 200 ≤ it.rule → IsUnbroken (BreaksLineRule b)
  lines_hold_at it is high = go broken all is
    where
      go : (list : List BrokenRule) → AreAllBroken (Breaks s b) list → Some it ≡ slice_get list 0 → IsUnbroken (BreaksLineRule b)
      go [] h e = cc
      go (x ∷ xs) h e =
          let same : it ≡ x = cc in
          lines_hold s b it.rule it.at (subst (λ (y : BrokenRule). Breaks s b y.rule y.at) (sym same) (h.each 0 x (omega arith))) high

  -- where the first rule is one of lines, so are all
  pub first_of_lines : (it : BrokenRule) → Some it ≡ slice_get broken 0 → it.rule < 200 → (k : ℕ) (d : BrokenRule) → k < length broken
      → 200 ≤ (get_or broken k d).rule → ⊥
  first_of_lines it is low k d lt high = go broken all is (lines_hold s b (get_or broken k d).rule (get_or broken k d).at (all.each k d lt) high)
    where
      go : (list : List BrokenRule) → AreAllBroken (Breaks s b) list → Some it ≡ slice_get list 0 → IsUnbroken (BreaksLineRule b) → ⊥
      go [] h e holds = cc
      go (x ∷ xs) h e holds =
          let same : it ≡ x = cc in
          holds it.rule it.at (line_broken s b it.rule it.at (subst (λ (y : BrokenRule). Breaks s b y.rule y.at) (sym same) (h.each 0 x (omega arith))) low)

-- a list without a first element has none
pub none_first : (list : List BrokenRule) (k : ℕ) → None ≡ slice_get list 0 → k < length list → ⊥
none_first [] k e lt = omega (arith, lt)
none_first (x ∷ xs) k e lt = cc
