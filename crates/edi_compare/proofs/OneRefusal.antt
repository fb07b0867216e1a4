-- A sheet has one refusal.
use Rattle.std.proofs.Common.{◌≡◌, ℕ, ◌≤◌, ◌<◌, ◌⊎◌, inl, inr, List, ap, ◌∙◌, arith}
use Rattle.edi_line.specs.Refusal.{IsLeastBroken}
use Rattle.edi_schema.specs.Classes.{Classes}
use Rattle.edi_compare.specs.Refused.{IsProper, IsRefusal}
use Rattle.edi_compare.specs.Rules.{Breaks, IsAccepted}
use Rattle.edi_compare.specs.declared.fault.Fault.{Fault}
use Rattle.edi_compare.specs.declared.fault.Fault.TheVariants.{Memory, Line, Entry}

-- the least broken rule is one
least_is_one : (broken : ℕ → ℕ → Type 0) (rule at rule' at' : ℕ) → IsLeastBroken broken rule at → IsLeastBroken broken rule' at' → (rule ≡ rule') × (at ≡ at')
least_is_one broken rule at rule' at' h g = go (h.least rule' at' g.is) (g.least rule at h.is)
  where
    go : (at < at') ⊎ ((at ≡ at') × (rule ≤ rule')) → (at' < at) ⊎ ((at' ≡ at) × (rule' ≤ rule)) → (rule ≡ rule') × (at ≡ at')
    go (inl p) (inl q) = (omega (arith, p, q), omega (arith, p, q))
    go (inl p) (inr q) = (omega (arith, p, q.0), omega (arith, p, q.0))
    go (inr p) (inl q) = (omega (arith, p.0, q), omega (arith, p.0, q))
    go (inr p) (inr q) = (omega (arith, p.1, q.1), p.0)

pub one_refusal : (s : Classes) (b : List ℕ) (fault other : Fault) → IsProper fault → IsProper other → IsRefusal s b fault → IsRefusal s b other → fault ≡ other
one_refusal s b (Memory e) other p q h g = absurd p
one_refusal s b (Line rule at) (Memory e) p q h g = absurd q
one_refusal s b (Line rule at) (Line rule' at') p q h g =
    let same = least_is_one (Breaks s b) rule at rule' at' h.1 g.1 in ap (λ r. Line r at) same.0 ∙ ap (λ n. Line rule' n) same.1
one_refusal s b (Line rule at) (Entry rule' at') p q h g =
    let same = least_is_one (Breaks s b) rule at rule' at' h.1 g.1 in absurd (omega (arith, same.0, h.0, g.0))
one_refusal s b (Entry rule at) (Memory e) p q h g = absurd q
one_refusal s b (Entry rule at) (Line rule' at') p q h g =
    let same = least_is_one (Breaks s b) rule at rule' at' h.1 g.1 in absurd (omega (arith, same.0, h.0, g.0))
one_refusal s b (Entry rule at) (Entry rule' at') p q h g =
    let same = least_is_one (Breaks s b) rule at rule' at' h.1 g.1 in ap (λ r. Entry r at) same.0 ∙ ap (λ n. Entry rule' n) same.1

pub no_refusal : (s : Classes) (b : List ℕ) (fault : Fault) → IsAccepted s b → IsProper fault → ¬ (IsRefusal s b fault)
no_refusal s b (Memory e) accepted p h = p
no_refusal s b (Line rule at) accepted p h = accepted rule at h.1.is
no_refusal s b (Entry rule at) accepted p h = accepted rule at h.1.is
