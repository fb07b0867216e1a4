use Rattle.std.proofs.Common.{subst, length, get_or}
use Rattle.edi_record.specs.declared.record.Kind.TheVariants.{Lnk}
use Rattle.edi_plan.specs.Places.{places_of}
use Rattle.edi_topo.specs.Ranking.{IsTie, IsRanking}
use Rattle.edi_rank.specs.inner.Layers.{LinkSource, placed_link_key, placed_link_cmp}
use Rattle.edi_rank.specs.inner.PlacedLinks.{placed_cmp}
use Rattle.edi_rank.proofs.LinksApart.{placed_order, no_link_ties}
use Rattle.edi_rank.proofs.Rankings.{ranking_by, tie_by}
use Rattle.edi_rank.proofs.labels.link_ranks.Goals as goal

pub returns-in-Ok : goal.returns-in-Ok
returns-in-Ok c =
    let p = c.args.plan.now in
    let l : LinkSource = record { plan = p; classes = c.args.schema.now; turned = c.args.turned.now; numbers = c.args.numbers.now } in
    ranking_by placed_cmp placed_link_cmp placed_order (λ m. placed_link_key l (get_or (places_of Lnk p) m 0)) (length (places_of Lnk p)) c.in-Ok.ranks
    (subst (λ (l : LinkSource). IsRanking placed_cmp (λ m. placed_link_key l (get_or (places_of Lnk l.plan) m 0)) (length (places_of Lnk l.plan)) c.in-Ok.ranks) c.of-layer.ensures c.in-Ok.ensures.numbers)

pub unreachable-requires : goal.unreachable-requires
unreachable-requires c =
    let l = c.of-layer.result in
    no_link_ties l c.in-Err-Tie.field-0-0
    (tie_by placed_cmp placed_link_cmp placed_order (λ m. placed_link_key l (get_or (places_of Lnk l.plan) m 0)) (length (places_of Lnk l.plan)) c.in-Err-Tie.field-0-0
    (subst (λ f. IsTie placed_cmp (λ m. placed_link_key l (get_or (places_of Lnk l.plan) m 0)) (length (places_of Lnk l.plan)) f) c.in-Err-Tie.field-0-is c.in-Err-Tie.ensures.tie)).0
