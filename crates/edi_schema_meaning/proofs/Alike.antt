-- Two schemas with one text answer alike.
use Rattle.std.proofs.Common.{◌≡◌, ℕ, List, sym, ◌∙◌, subst}
use Rattle.edi_schema.specs.Classes.{Classes, IsSchema}
use Rattle.edi_plan.specs.Plans.{PlanData}
use Rattle.edi_compare.specs.Pairings.{PairingCarries}
use Rattle.edi_compare.specs.Rules.{IsAccepted}
use Rattle.edi_compare.specs.Verdicts.{IsVerdict}
use Rattle.edi_compare.specs.declared.pairing.Pairing.{Pairing}
use Rattle.edi_compare.specs.declared.pairing.Verdict.{Verdict}
use Rattle.edi_compare.specs.declared.pairing.Verdict.TheVariants.{Same, Different}
use Rattle.edi_schema_text.proofs.Meaning.{meaning}
use Rattle.edi_schema_text.proofs.Tell.{text_told}
use Rattle.edi_schema_meaning.proofs.Carried.{carried_back, carried_in}
use Rattle.edi_schema_meaning.proofs.Embed.{back_again, embed, partner_placed, unembed}
use Rattle.edi_schema_meaning.proofs.Forms.{accepted_back, accepted_in, canonical_back, canonical_in, form_back, form_in, held_again, held_back, held_in, linked_back, linked_in, state_back, state_in}
use Rattle.edi_schema_meaning.proofs.Phases.{refusal}
use Rattle.edi_schema_meaning.proofs.Renamed.{length_renamed, renamed}
use Rattle.edi_schema_meaning.specs.Answers.{AnswerAlike}
use Rattle.edi_schema_meaning.specs.Laws.{OneTextOneAnswer}

module _ (s : Classes) (keeps : IsSchema s) where
  pairing_in : (p q : PlanData) (pairing : Pairing) → PairingCarries (meaning s) p q pairing → PairingCarries s (renamed (embed s) p) (renamed (embed s) q) pairing
  pairing_in p q pairing h = record {
    all_paired = h.all_paired ∙ sym (length_renamed (embed s) p);
    all_directed = h.all_directed ∙ sym (length_renamed (embed s) p);
    carries = carried_in s (meaning s) (embed s) (unembed s) (back_again s) (partner_placed s keeps) _ _ p q h.carries;
  }

  pairing_back : (p q : PlanData) (pairing : Pairing) → PairingCarries s (renamed (embed s) p) (renamed (embed s) q) pairing → PairingCarries (meaning s) p q pairing
  pairing_back p q pairing h = record {
    all_paired = h.all_paired ∙ length_renamed (embed s) p;
    all_directed = h.all_directed ∙ length_renamed (embed s) p;
    carries = carried_back s (meaning s) (embed s) (unembed s) (back_again s) (partner_placed s keeps) _ _ p q h.carries;
  }

  verdict_in : (a b : List ℕ) (v : Verdict) → IsAccepted (meaning s) a → IsAccepted (meaning s) b → IsVerdict (meaning s) a b v → IsVerdict s a b v
  verdict_in a b (Same pairing) ha hb h = (renamed (embed s) h.0, renamed (embed s) h.1, held_in s a ha h.0 h.2, held_in s b hb h.1 h.3, pairing_in h.0 h.1 pairing h.4)
  verdict_in a b (Different line) ha hb h =
      let more = h.1 in (
        λ same. h.0 (state_back s keeps a b (accepted_in s a ha) (accepted_in s b hb) same),
        (more.0, more.1, canonical_in s keeps more.0 more.2, canonical_in s keeps more.1 more.3, state_in s keeps a more.0 ha more.2.accepted more.4, state_in s keeps b more.1 hb more.3.accepted more.5, more.6),
      )

  verdict_back : (a b : List ℕ) (v : Verdict) → IsAccepted s a → IsAccepted s b → IsVerdict s a b v → IsVerdict (meaning s) a b v
  verdict_back a b (Same pairing) ha hb h =
      let p = renamed (unembed s) h.0 in
      let q = renamed (unembed s) h.1 in
      let again : PairingCarries s (renamed (embed s) p) (renamed (embed s) q) pairing =
      subst (λ x. PairingCarries s x (renamed (embed s) q) pairing) (sym (held_again s a ha h.0 h.2)) (subst (λ x. PairingCarries s h.0 x pairing) (sym (held_again s b hb h.1 h.3)) h.4) in
      (p, q, held_back s a ha h.0 h.2, held_back s b hb h.1 h.3, pairing_back p q pairing again)
  verdict_back a b (Different line) ha hb h =
      let more = h.1 in (
        λ same. h.0 (state_in s keeps a b (accepted_back s a ha) (accepted_back s b hb) same),
        (more.0, more.1, canonical_back s keeps more.0 more.2, canonical_back s keeps more.1 more.3, state_back s keeps a more.0 ha more.2.accepted more.4, state_back s keeps b more.1 hb more.3.accepted more.5, more.6),
      )

  -- a schema answers as what it means
  as_meaning : AnswerAlike s (meaning s)
  as_meaning = record {
    accepted = λ b. (accepted_back s b, accepted_in s b);
    refused = λ b fault. (refusal s (meaning s) (unembed s) (embed s) (linked_back s) (linked_in s) b fault, refusal (meaning s) s (embed s) (unembed s) (linked_in s) (linked_back s) b fault);
    form = λ b c. (form_back s keeps b c, form_in s keeps b c);
    same = λ a b ha hb. (state_back s keeps a b ha hb, state_in s keeps a b (accepted_back s a ha) (accepted_back s b hb));
    verdict = λ a b v ha hb. (verdict_back a b v ha hb, verdict_in a b v (accepted_back s a ha) (accepted_back s b hb));
  }

-- two that answer as a third answer alike
through : (s u t : Classes) → AnswerAlike s u → AnswerAlike t u → AnswerAlike s t
through s u t h g = record {
  accepted = λ b. (λ x. (g.accepted b).1 ((h.accepted b).0 x), λ x. (h.accepted b).1 ((g.accepted b).0 x));
  refused = λ b fault. (λ x. (g.refused b fault).1 ((h.refused b fault).0 x), λ x. (h.refused b fault).1 ((g.refused b fault).0 x));
  form = λ b c. (λ x. (g.form b c).1 ((h.form b c).0 x), λ x. (h.form b c).1 ((g.form b c).0 x));
  same = λ a b ha hb.
      let ta = (g.accepted a).1 ((h.accepted a).0 ha) in
      let tb = (g.accepted b).1 ((h.accepted b).0 hb) in
      (λ x. (g.same a b ta tb).1 ((h.same a b ha hb).0 x), λ x. (h.same a b ha hb).1 ((g.same a b ta tb).0 x));
  verdict = λ a b v ha hb.
      let ta = (g.accepted a).1 ((h.accepted a).0 ha) in
      let tb = (g.accepted b).1 ((h.accepted b).0 hb) in
      (λ x. (g.verdict a b v ta tb).1 ((h.verdict a b v ha hb).0 x), λ x. (h.verdict a b v ha hb).1 ((g.verdict a b v ta tb).0 x));
}

pub one_answer : OneTextOneAnswer
one_answer s t hs ht e =
    let same : meaning s ≡ meaning t = text_told s t hs ht e in
    through s (meaning s) t (as_meaning s hs) (subst (AnswerAlike t) (sym same) (as_meaning t ht))
