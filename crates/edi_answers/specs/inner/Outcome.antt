-- The outcomes of runs over two sheets.
use Rattle.std.specs.Prelude.{ℕ, Option, Some, None}
use Rattle.std.proofs.Common.{Result, Ok, Err}
use Rattle.edi_compare.specs.declared.pairing.Verdict.{Verdict}
use Rattle.edi_compare.specs.declared.pairing.Verdict.TheVariants as verdict
use Rattle.edi_compare.specs.declared.fault.RunFault.{RunFault}
use Rattle.edi_pairing.specs.declared.fault.VerifyRunFault.{VerifyRunFault}
use Rattle.edi_pairing.specs.declared.fault.VerifyRunFault.TheVariants as verifying
use Rattle.edi_pairing.specs.declared.verified.Verified.{Verified}
use Rattle.edi_pairing.specs.declared.verified.Verified.TheVariants.{Carries, Fails}
use Rattle.edi_outcome.specs.declared.outcome.Outcome.{Outcome}
use Rattle.edi_outcome.specs.declared.outcome.Outcome.TheVariants.{Same, Different, Pairs, Unpaired, WrongPairing, Fault}

-- what a comparison came to
abbrev pub outcome_for : Result Verdict RunFault → Outcome
outcome_for (Ok (verdict.Same pairing)) = Same
outcome_for (Ok (verdict.Different line)) = Different line
outcome_for (Err fault) = Fault fault

-- what a comparison to a pairing's file came to, of which the line is known where the plans are not the same
abbrev pub paired_outcome : Result (Option ℕ) RunFault → Outcome
paired_outcome (Ok None) = Same
paired_outcome (Ok (Some line)) = Different line
paired_outcome (Err fault) = Fault fault

-- what the check of a pairing's file came to
abbrev pub verified_outcome : Result Verified VerifyRunFault → Outcome
verified_outcome (Ok Carries) = Pairs
verified_outcome (Ok (Fails why)) = Unpaired why
verified_outcome (Err (verifying.Run fault)) = Fault fault
verified_outcome (Err (verifying.Pairing at why)) = WrongPairing at why
