-- Answers under two schemas.
use Rattle.std.specs.Prelude.{◌↔◌, ℕ, List}
use Rattle.edi_schema.specs.Classes.{Classes}
use Rattle.edi_compare.specs.Headline.{IsFormOf}
use Rattle.edi_compare.specs.PlanOfFile.{StateSame}
use Rattle.edi_compare.specs.Refused.{IsRefusal}
use Rattle.edi_compare.specs.Rules.{IsAccepted}
use Rattle.edi_compare.specs.Verdicts.{IsVerdict}
use Rattle.edi_compare.specs.declared.fault.Fault.{Fault}
use Rattle.edi_compare.specs.declared.pairing.Verdict.{Verdict}

-- Two schemas answer alike: they accept the same files, refuse each other file by one rule at one place, and give
-- each one canonical file; two files that they accept state the same plan under the one exactly if under the other,
-- with the same pairings or the same first line that differs.
pub record AnswerAlike (s t : Classes) : Type 0 where
  pub accepted : (b : List ℕ) → IsAccepted s b ↔ IsAccepted t b
  pub refused : (b : List ℕ) (fault : Fault) → IsRefusal s b fault ↔ IsRefusal t b fault
  pub form : (b c : List ℕ) → IsFormOf s b c ↔ IsFormOf t b c
  pub same : (a b : List ℕ) → IsAccepted s a → IsAccepted s b → StateSame s a b ↔ StateSame t a b
  pub verdict : (a b : List ℕ) (v : Verdict) → IsAccepted s a → IsAccepted s b → IsVerdict s a b v ↔ IsVerdict t a b v
