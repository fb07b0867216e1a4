-- Every answer to a sheet is that under what the schema means.
use Rattle.std.proofs.Common.{◌≡◌, ℕ, List, sym, ap, ◌∙◌, subst}
use Rattle.edi_schema.specs.Classes.{Classes, IsSchema}
use Rattle.edi_plan.specs.Plans.{PlanData}
use Rattle.edi_rank.proofs.SameLaws.{same_refl}
use Rattle.edi_rank.specs.InOrder.{IsInOrder}
use Rattle.edi_rank.specs.Same.{Same}
use Rattle.edi_write.proofs.WrittenPrinted.{attribute_classes}
use Rattle.edi_write.specs.Layout.{layout}
use Rattle.edi_compare.specs.Canonical.{IsCanonical}
use Rattle.edi_compare.specs.Headline.{IsFormOf}
use Rattle.edi_compare.specs.PlanOfFile.{IsPlanOfFile, StateSame}
use Rattle.edi_compare.specs.Rules.{IsAccepted}
use Rattle.edi_schema_text.proofs.Meaning.{meaning}
use Rattle.edi_schema_meaning.proofs.Carried.{same_back, same_in}
use Rattle.edi_schema_meaning.proofs.Embed.{back_again, embed, partner_placed, same_order, unembed}
use Rattle.edi_schema_meaning.proofs.Keyed.{in_order_back, in_order_in}
use Rattle.edi_schema_meaning.proofs.LaidOut.{layout_same}
use Rattle.edi_schema_meaning.proofs.Phases.{IsLinked, accepted, plan_held, references_held}
use Rattle.edi_schema_meaning.proofs.References.{attributed, nameable}
use Rattle.edi_schema_meaning.proofs.Renamed.{renamed}
use Rattle.edi_schema_meaning.proofs.Stated.{names_back, names_in, plan_again, plan_back, plan_in}

module _ (s : Classes) where
  pub linked_in : IsLinked (meaning s) s (embed s)
  linked_in = record { names = names_in s; plans = plan_in s }

  pub linked_back : IsLinked s (meaning s) (unembed s)
  linked_back = record { names = names_back s; plans = plan_back s }

  pub accepted_in : (b : List ℕ) → IsAccepted (meaning s) b → IsAccepted s b
  accepted_in b h = accepted (meaning s) s (embed s) (unembed s) linked_in linked_back b h

  pub accepted_back : (b : List ℕ) → IsAccepted s b → IsAccepted (meaning s) b
  accepted_back b h = accepted s (meaning s) (unembed s) (embed s) linked_back linked_in b h

  pub held_in : (b : List ℕ) → IsAccepted (meaning s) b → (p : PlanData) → IsPlanOfFile (meaning s) b p → IsPlanOfFile s b (renamed (embed s) p)
  held_in b h p plan = plan_held (meaning s) s (embed s) (unembed s) linked_in linked_back b (references_held (meaning s) b h) p plan

  pub held_back : (b : List ℕ) → IsAccepted s b → (p : PlanData) → IsPlanOfFile s b p → IsPlanOfFile (meaning s) b (renamed (unembed s) p)
  held_back b h p plan = plan_held s (meaning s) (unembed s) (embed s) linked_back linked_in b (references_held s b h) p plan

  pub held_again : (b : List ℕ) → IsAccepted s b → (p : PlanData) → IsPlanOfFile s b p → renamed (embed s) (renamed (unembed s) p) ≡ p
  held_again b h p plan =
      plan_again s plan.0 p (nameable b plan.0 plan.1) (attributed s plan.0.list ((references_held s b h).1 plan.0 plan.1)) plan.2

  laid_out : (b : List ℕ) → IsAccepted (meaning s) b → (p : PlanData) → IsPlanOfFile (meaning s) b p → layout s (renamed (embed s) p) ≡ layout (meaning s) p
  laid_out b h p plan =
      layout_same s p (attribute_classes (meaning s) plan.0 p p ((references_held (meaning s) b h).1 plan.0 plan.1) plan.2 (same_refl (meaning s) p))

  module _ (keeps : IsSchema s) where
    -- ---- the same plan

    pub state_in : (a b : List ℕ) → IsAccepted (meaning s) a → IsAccepted (meaning s) b → StateSame (meaning s) a b → StateSame s a b
    state_in a b ha hb h =
        (renamed (embed s) h.0, renamed (embed s) h.1, held_in a ha h.0 h.2, held_in b hb h.1 h.3, same_in s (meaning s) (embed s) (unembed s) (back_again s) (partner_placed s keeps) h.0 h.1 h.4)

    pub state_back : (a b : List ℕ) → IsAccepted s a → IsAccepted s b → StateSame s a b → StateSame (meaning s) a b
    state_back a b ha hb h =
        let p = renamed (unembed s) h.0 in
        let q = renamed (unembed s) h.1 in
        let again : Same s (renamed (embed s) p) (renamed (embed s) q) =
        subst (λ x. Same s x (renamed (embed s) q)) (sym (held_again a ha h.0 h.2)) (subst (Same s h.0) (sym (held_again b hb h.1 h.3)) h.4) in
        (p, q, held_back a ha h.0 h.2, held_back b hb h.1 h.3, same_back s (meaning s) (embed s) (unembed s) (back_again s) (partner_placed s keeps) p q again)

    -- ---- canonical files

    pub canonical_in : (c : List ℕ) → IsCanonical (meaning s) c → IsCanonical s c
    canonical_in c h = record {
      plan = renamed (embed s) h.plan;
      bytes = h.bytes;
      accepted = accepted_in c h.accepted;
      states = held_in c h.accepted h.plan h.states;
      laid_out = h.laid_out ∙ sym (laid_out c h.accepted h.plan h.states);
      in_order = in_order_in (embed s) (same_order s) h.plan h.in_order;
    }

    pub canonical_back : (c : List ℕ) → IsCanonical s c → IsCanonical (meaning s) c
    canonical_back c h =
        let p = renamed (unembed s) h.plan in
        let again : renamed (embed s) p ≡ h.plan = held_again c h.accepted h.plan h.states in
        let there : IsAccepted (meaning s) c = accepted_back c h.accepted in
        let states : IsPlanOfFile (meaning s) c p = held_back c h.accepted h.plan h.states in
        record {
          plan = p;
          bytes = h.bytes;
          accepted = there;
          states = states;
          laid_out = h.laid_out ∙ (ap (layout s) (sym again) ∙ laid_out c there p states);
          in_order = in_order_back (embed s) (same_order s) p (subst IsInOrder (sym again) h.in_order);
        }

    pub form_in : (b c : List ℕ) → IsFormOf (meaning s) b c → IsFormOf s b c
    form_in b c h = record {
      accepted = accepted_in b h.accepted;
      canonical = canonical_in c h.canonical;
      same = state_in b c h.accepted h.canonical.accepted h.same;
      only = λ d is.
          let there : IsCanonical (meaning s) d = canonical_back d is in
          let one = h.only d there in
          (λ same. one.0 (state_back b d (accepted_in b h.accepted) is.accepted same), λ e. state_in b d h.accepted there.accepted (one.1 e));
    }

    pub form_back : (b c : List ℕ) → IsFormOf s b c → IsFormOf (meaning s) b c
    form_back b c h = record {
      accepted = accepted_back b h.accepted;
      canonical = canonical_back c h.canonical;
      same = state_back b c h.accepted h.canonical.accepted h.same;
      only = λ d is.
          let there : IsCanonical s d = canonical_in d is in
          let one = h.only d there in
          (λ same. one.0 (state_in b d (accepted_back b h.accepted) is.accepted same), λ e. state_back b d h.accepted there.accepted (one.1 e));
    }
