use Rattle.std.proofs.Common.{subst, MatchOption, IfSome}
use Rattle.edi_compare.specs.Pairings.{PairingCarries}
use Rattle.edi_compare.specs.Uncarried.{IsUncarriedBy}
use Rattle.edi_pairing.proofs.VerifyLemmas.{unpaired_by}
use Rattle.edi_pairing.proofs.verifying.judge.Goals as goal

pub returns-in_ok-why-in-Some : goal.returns-in_ok-why-in-Some
returns-in_ok-why-in-Some c =
    let s = c.args.schema.now in
    let p = c.args.first.now.accepted in
    let q = c.args.second.now.accepted in
    let pairing = c.args.pairing.now in (
      subst (λ why. MatchOption why (PairingCarries s p q pairing) (λ _. ¬ (PairingCarries s p q pairing))) c.in-Some.is c.in_ok-why.ensures.none,
      unpaired_by s p q c.args.first.now.names c.args.second.now.names pairing c.in_ok-why-in-Some.why c.in-Some.why
          (subst (λ why. IfSome why (IsUncarriedBy s p q pairing)) c.in-Some.is c.in_ok-why.ensures.first) c.in_ok-why-in-Some.ensures,
    )
