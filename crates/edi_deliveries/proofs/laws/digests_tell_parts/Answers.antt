use Rattle.std.proofs.Common.{◌∙◌, refl, sym, ap, inl, inr}
use Rattle.std.specs.Str.{bytes_eq}
use Rattle.sha2.specs.Sha256.{sha256}
use Rattle.edi_deliveries.specs.Digests.{OneDigestSameParts, SamePartsOneDigest, of_bytes, of_schema, of_sheet}
use Rattle.edi_deliveries.proofs.LastLines.{one_or_not}
use Rattle.edi_deliveries.proofs.laws.digests_tell_parts.Goals as goal

pub returns-clause-one_digest : goal.returns-clause-one_digest
returns-clause-one_digest c = go
  where
    go : SamePartsOneDigest
    go (of_schema s) (of_schema t) x y kind h k same =
        h.2 ∙ (ap sha256 (h.1 ∙ (c.one_answer_one_text.ensures s t kind.0 kind.1 kind.2 same ∙ sym k.1)) ∙ sym k.2)
    go (of_sheet s a) (of_sheet t b) x y kind h k same =
        c.digests_tell_plans.ensures.one_plan s a b x y kind.0 (h.0, h.1, h.2) (k.0, (kind.1.form b k.0).1 k.1, k.2) same
    go (of_bytes a) (of_bytes b) x y kind h k same = h.2 ∙ (ap sha256 (h.1 ∙ (same ∙ sym k.1)) ∙ sym k.2)
    go (of_schema s) (of_sheet t b) x y kind h k same = absurd kind
    go (of_schema s) (of_bytes b) x y kind h k same = absurd kind
    go (of_sheet s a) (of_schema t) x y kind h k same = absurd kind
    go (of_sheet s a) (of_bytes b) x y kind h k same = absurd kind
    go (of_bytes a) (of_schema t) x y kind h k same = absurd kind
    go (of_bytes a) (of_sheet t b) x y kind h k same = absurd kind

pub returns-clause-one_meaning : goal.returns-clause-one_meaning
returns-clause-one_meaning c = go
  where
    go : OneDigestSameParts
    go (of_schema s) (of_schema t) x y kind h k is = elim (one_or_not h.0 k.0 (bytes_eq h.0 k.0) refl) [
      | inl e ↦ inl (c.one_text_one_answer.ensures s t kind.0 kind.1 (sym h.1 ∙ (e ∙ k.1)))
      | inr n ↦ inr (h.0, k.0, h.1, k.1, n, sym h.2 ∙ (is ∙ k.2))
    ]
    go (of_sheet s a) (of_sheet t b) x y kind h k is =
        elim (c.digests_tell_plans.ensures.one_digest s a b x y kind.0 (h.0, h.1, h.2) (k.0, (kind.1.form b k.0).1 k.1, k.2) is) [
          | inl same ↦ inl same
          | inr two ↦ inr (two.0, two.1, two.2, (kind.1.form b two.1).0 two.3, two.4, two.5)
        ]
    go (of_bytes a) (of_bytes b) x y kind h k is = elim (one_or_not h.0 k.0 (bytes_eq h.0 k.0) refl) [
      | inl e ↦ inl (sym h.1 ∙ (e ∙ k.1))
      | inr n ↦ inr (h.0, k.0, h.1, k.1, n, sym h.2 ∙ (is ∙ k.2))
    ]
    go (of_schema s) (of_sheet t b) x y kind h k is = absurd kind
    go (of_schema s) (of_bytes b) x y kind h k is = absurd kind
    go (of_sheet s a) (of_schema t) x y kind h k is = absurd kind
    go (of_sheet s a) (of_bytes b) x y kind h k is = absurd kind
    go (of_bytes a) (of_schema t) x y kind h k is = absurd kind
    go (of_bytes a) (of_sheet t b) x y kind h k is = absurd kind
