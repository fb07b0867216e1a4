use Rattle.std.proofs.Common.{◌≡◌, subst, sym}
use Rattle.edi_record.specs.declared.record.Kind.TheVariants.{Lnk}
use Rattle.edi_matching.specs.Differences.{MatchesLinks}
use Rattle.edi_matching.specs.Matchings.{MatchingHolds}
use Rattle.edi_matching.specs.declared.matching.Matching.{Matching}
use Rattle.edi_matching.specs.inner.Links.{AddsOnly, matching_so}
use Rattle.edi_matching.specs.inner.Proposals.{ProposedMatching}
use Rattle.edi_matching.proofs.links.with_all_links.Goals as goal

pub with_links-requires-clause-holds : goal.with_links-requires-clause-holds
with_links-requires-clause-holds c =
    subst (λ (m : ProposedMatching). MatchingHolds m.classes m.plan m.other (matching_so m m.to)) (sym c.of-proposed.ensures) c.requires.holds

pub returns-clause-links : goal.returns-clause-links
returns-clause-links c =
    let after : Matching = record { to = c.in_ok-to.to.items; turned = c.args.matching.turned } in
    let same : after ≡ record { to = c.from_vec.result; turned = c.into_turned.result } =
    λ i. record { to = sym c.from_vec.ensures i; turned = sym c.into_turned.ensures i } in
    subst (MatchesLinks c.args.schema.now c.args.first.now c.args.second.now) same
    (subst (λ (m : ProposedMatching). MatchesLinks m.classes m.plan m.other (matching_so m c.in_ok-to.to.items)) c.of-proposed.ensures c.in_ok-to.ensures.links)

pub returns-clause-adds : goal.returns-clause-adds
returns-clause-adds c =
    let after : Matching = record { to = c.in_ok-to.to.items; turned = c.args.matching.turned } in
    let same : after ≡ record { to = c.from_vec.result; turned = c.into_turned.result } =
    λ i. record { to = sym c.from_vec.ensures i; turned = sym c.into_turned.ensures i } in
    subst (AddsOnly Lnk c.args.first.now c.args.matching) same
    (subst (λ (m : ProposedMatching). AddsOnly Lnk m.plan (matching_so m m.to) (matching_so m c.in_ok-to.to.items)) c.of-proposed.ensures c.in_ok-to.ensures.adds)
