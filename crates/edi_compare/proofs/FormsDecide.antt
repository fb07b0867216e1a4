-- The form of a sheet decides sameness.
use Rattle.std.proofs.Common.{ℕ, List, sym}
use Rattle.edi_schema.specs.Classes.{Classes, IsSchema}
use Rattle.edi_rank.proofs.SameLaws.{same_refl}
use Rattle.edi_compare.specs.Canonical.{IsCanonical}
use Rattle.edi_compare.specs.Headline.{IsFormOf}
use Rattle.edi_compare.specs.PlanOfFile.{StateSame}
use Rattle.edi_compare.specs.Sameness.{DecidesSameness}
use Rattle.edi_compare.proofs.FormsThere.{form_there}
use Rattle.edi_compare.proofs.Headline.{decide, equal_if_same}
use Rattle.edi_compare.proofs.Reading.{reading_is_one}

module _ (s : Classes) (keeps : IsSchema s) where
  itself : (c : List ℕ) → IsCanonical s c → StateSame s c c
  itself c canonical = (canonical.plan, canonical.plan, canonical.states, canonical.states, same_refl s canonical.plan)

  its_own : (c : List ℕ) → IsCanonical s c → IsFormOf s c c
  its_own c canonical = record {
    accepted = canonical.accepted;
    canonical = canonical;
    same = itself c canonical;
    only = decide reading_is_one s keeps c c canonical.accepted canonical (itself c canonical);
  }

  pub forms_decide : DecidesSameness s (IsFormOf s)
  forms_decide = record {
    there = λ b names bytes short accepted. form_there s keeps names b bytes short accepted;
    accepted = λ b c f. f.accepted;
    sound = λ b c f. f.canonical.accepted;
    same = λ b c f. f.same;
    one = λ b c d f g. sym ((f.only d g.canonical).0 g.same);
    decides = λ a b c d f g. equal_if_same reading_is_one s keeps a b c d f.accepted g.accepted f.canonical f.same g.canonical g.same;
    own = λ b c f. its_own c f.canonical;
  }
