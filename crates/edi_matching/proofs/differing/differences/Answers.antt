use Rattle.std.proofs.Common.{◌∙◌, subst, Option, MatchOption}
use Rattle.edi_plan.specs.Whole.{IsWholePlan}
use Rattle.edi_rank.specs.Same.{Same}
use Rattle.edi_compare.specs.Pairings.{PairingCarries}
use Rattle.edi_compare.specs.declared.pairing.Pairing.{Pairing}
use Rattle.edi_matching.proofs.PartnersHold.{pairing_known, different_known}
use Rattle.edi_matching.proofs.differing.differences.Goals as goal

pub returns-in-Some : goal.returns-in-Some
returns-in-Some c =
    let s = c.args.schema.now in
    let p = c.args.first.now in
    let q = c.args.second.now in
    let carries = subst (λ (o : Option Pairing). MatchOption o (¬ (Same s p q)) (PairingCarries s p q)) c.in-Some.is c.in_ok-pairing.ensures in
    let contents = pairing_known s p q c.in-Some.pairing (subst IsWholePlan (c.plan.ensures.plan ∙ c.sound.ensures) c.keeps.ensures.whole) carries c.whole_matching.result c.whole_matching.ensures in
    record { holds = contents.0; total = contents.1; partners = contents.2; faces = contents.3; links = contents.4 }

pub returns-in-None-clause-total : goal.returns-in-None-clause-total
returns-in-None-clause-total c =
    let s = c.args.schema.now in
    let p = c.args.first.now in
    let q = c.args.second.now in
    let none = subst (λ (o : Option Pairing). MatchOption o (¬ (Same s p q)) (PairingCarries s p q)) c.in-None.is c.in_ok-pairing.ensures in
    different_known s p q none c.different_matching.result c.different_matching.ensures.holds
