use Rattle.std.proofs.Common.{List, ℕ, Option, Some, None, MatchOption, subst}
use Rattle.edi_schema.specs.Classes.{Classes}
use Rattle.edi_plan.specs.Plans.{PlanData}
use Rattle.edi_rank.specs.Same.{Same}
use Rattle.edi_compare.specs.Pairings.{PairingCarries}
use Rattle.edi_compare.specs.PlanOfFile.{IsPlanOfFile, StateSame}
use Rattle.edi_compare.specs.declared.pairing.Pairing.{Pairing}
use Rattle.edi_compare.proofs.Phases.{one_plan}
use Rattle.uses.specs.Callers.{SomePairing}
use Rattle.uses.proofs.sheets.checked_pairing.Goals as goal

-- a file has one plan, so what is known of the plans is known of the files
of_files : (s : Classes) (a b : List ℕ) (p q : PlanData) → IsPlanOfFile s a p → IsPlanOfFile s b q → (found : Option Pairing)
    → MatchOption found (¬ (Same s p q)) (PairingCarries s p q) → MatchOption found (¬ (StateSame s a b)) (SomePairing s a b)
of_files s a b p q plan other (Some pairing) carries = (p, q, plan, other, carries)
of_files s a b p q plan other None not = λ same.
    not (subst (λ r. Same s r q) (one_plan s a same.0 p same.2 plan) (subst (λ r. Same s same.0 r) (one_plan s b same.1 q same.3 other) same.4))

pub returns-in-Ok-pairing_of_accepted-clause-pairing : goal.returns-in-Ok-pairing_of_accepted-clause-pairing
returns-in-Ok-pairing_of_accepted-clause-pairing c =
    of_files c.args.schema.now c.args.first.now c.args.second.now c.in-Ok.accepted c.in-Ok-accept.accepted c.in-Ok.ensures.plan c.in-Ok-accept.ensures.plan c.in-Ok-pairing_of_accepted.found c.in-Ok-pairing_of_accepted.ensures
