use Rattle.std.proofs.Common.{◌≡◌, subst, sym}
use Rattle.edi_matching.specs.Differences.{MatchesBeside}
use Rattle.edi_matching.specs.Matchings.{MatchingHolds}
use Rattle.edi_matching.specs.declared.matching.Matching.{Matching}
use Rattle.edi_matching.specs.inner.Links.{matching_so}
use Rattle.edi_matching.specs.inner.Proposals.{ProposedMatching}
use Rattle.edi_matching.proofs.faces.with_faces.Goals as goal

pub with_faces-requires-clause-holds : goal.with_faces-requires-clause-holds
with_faces-requires-clause-holds c =
    subst (λ (m : ProposedMatching). MatchingHolds m.classes m.plan m.other (matching_so m m.to)) (sym c.of-proposed.ensures) c.requires.holds

pub returns-clause-faces : goal.returns-clause-faces
returns-clause-faces c =
    let after : Matching = record { to = c.in_ok-to.to.items; turned = c.args.matching.turned } in
    let same : after ≡ record { to = c.from_vec.result; turned = c.into_turned.result } =
    λ i. record { to = sym c.from_vec.ensures i; turned = sym c.into_turned.ensures i } in
    subst (MatchesBeside c.args.role c.args.schema.now c.args.first.now c.args.second.now) same
    (subst (λ (m : ProposedMatching). MatchesBeside c.args.role m.classes m.plan m.other (matching_so m c.in_ok-to.to.items)) c.of-proposed.ensures c.in_ok-to.ensures.faces)
