use Rattle.std.proofs.Common.{◌≡◌, ℕ, Bool, true, false, Option, Some, None, not, MatchOption, refl}
use Rattle.std.specs.Prelude.{◌↔◌, IsTrue, is_some}
use Rattle.edi_line.specs.ZoneData.{entries}
use Rattle.edi_line.specs.Zones.{groups_of}
use Rattle.edi_explain.specs.KindClasses.{codes_of}
use Rattle.edi_plan.specs.EarlierLinks.{IsLeast}
use Rattle.edi_explain.proofs.KindRows.{behind_all}
use Rattle.edi_explain.proofs.kind_lines.has_none.Goals as goal

none_of : (o : Option ℕ) (b : Bool) (P Q : ℕ → Type 0) → is_some o ≡ not b → MatchOption o ((k : ℕ) → ¬ (P k)) (IsLeast P) → ((n : ℕ) → Q n → P n) → ((n : ℕ) → P n → Q n)
    → IsTrue b ↔ ((n : ℕ) → ¬ (Q n))
none_of None true P Q e h to from = (λ t n q. h n (to n q), λ none. refl)
none_of (Some k) false P Q e h to from = (λ t. absurd cc, λ none. absurd (none k (from k h.is)))
none_of None false P Q e h to from = absurd cc
none_of (Some k) true P Q e h to from = absurd cc

pub returns : goal.returns
returns c =
    none_of c.class_behind.result c.is_none.result _ _ c.is_none.ensures c.class_behind.ensures
    (behind_all (groups_of (entries c.args.zones.now)) (codes_of c.args.codes.now) c.args.role) (λ n h. h.1)
