use Rattle.std.proofs.Common.{◌≡◌, ◌≢◌, ◌⊎◌, ◌∙◌, ℕ, Bool, true, false, List, refl, sym, ap, inl, inr}
use Rattle.std.specs.Str.{bytes_eq}
use Rattle.std.proofs.lemmas.Bool.{false≢true}
use Rattle.std.proofs.lemmas.Slice.Eq.{bytes_eq-Decides}
use Rattle.sha2.specs.Sha256.{sha256}
use Rattle.edi_answers.proofs.known.digests_tell_plans.Goals as goal

-- two files are one or not
one_or_not : (c d : List ℕ) (b : Bool) → bytes_eq c d ≡ b → (c ≡ d) ⊎ (c ≢ d)
one_or_not c d true is = inl ((bytes_eq-Decides c d).0 is)
one_or_not c d false is = inr (λ e. absurd (false≢true (sym is ∙ (bytes_eq-Decides c d).1 e)))

pub returns-clause-one_plan : goal.returns-clause-one_plan
returns-clause-one_plan c = λ s a b x y good h k same.
    h.2 ∙ (ap sha256 ((c.equal_exactly_if_same.ensures s a b h.0 k.0 good h.1.accepted k.1.accepted h.1.canonical h.1.same k.1.canonical k.1.same).1 same) ∙ sym k.2)

pub returns-clause-one_digest : goal.returns-clause-one_digest
returns-clause-one_digest c = λ s a b x y good h k is. elim (one_or_not h.0 k.0 (bytes_eq h.0 k.0) refl) [
  | inl e ↦ inl ((c.equal_exactly_if_same.ensures s a b h.0 k.0 good h.1.accepted k.1.accepted h.1.canonical h.1.same k.1.canonical k.1.same).0 e)
  | inr n ↦ inr (h.0, k.0, h.1, k.1, n, sym h.2 ∙ (is ∙ k.2))
]
