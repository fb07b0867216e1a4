-- No two links tie, since their places are in their keys.
use Rattle.std.proofs.Common.{◌≡◌, ℕ, length, get_or, ap, arith, nat_cmp}
use Rattle.std.specs.Cmp.{IsTotalOrder}
use Rattle.std.specs.Ordering.{ordering_then}
use Rattle.std.proofs.lemmas.Cmp.{then_total, on_total, nat_cmp_total}
use Rattle.std.proofs.lemmas.Map.Lookups.{exact_unsigned}
use Rattle.edi_line.proofs.Truths.{then_tied}
use Rattle.edi_record.specs.declared.record.Kind.TheVariants.{Lnk}
use Rattle.edi_plan.specs.Places.{places_of}
use Rattle.edi_plan.proofs.PlaceLemmas.{places_rise}
use Rattle.edi_topo.specs.Ranking.{Ties}
use Rattle.edi_rank.specs.inner.Layers.{LinkSource, placed_link_key, placed_link_cmp}
use Rattle.edi_rank.specs.inner.PlacedLinks.{placed_cmp}
use Rattle.edi_rank.specs.declared.keys.LinkKey.{LinkKey}
use Rattle.edi_rank.proofs.KeyOrders.{link_order}
use Rattle.edi_rank.proofs.Orders.{link_key_total}

pub placed_order : (a b : LinkKey × ℕ) → placed_cmp a b ≡ placed_link_cmp a b
placed_order a b = ap (λ o. ordering_then o (nat_cmp a.1 b.1)) (link_order a.0 b.0)

pub placed_total : IsTotalOrder placed_link_cmp
placed_total = then_total (on_total (λ (a : LinkKey × ℕ). a.0) link_key_total) (on_total (λ (a : LinkKey × ℕ). a.1) nat_cmp_total)

pub no_link_ties : (l : LinkSource) (m : ℕ) → ¬ (Ties placed_link_cmp (λ n. placed_link_key l (get_or (places_of Lnk l.plan) n 0)) (length (places_of Lnk l.plan)) m)
no_link_ties l m tie =
    let same = exact_unsigned (get_or (places_of Lnk l.plan) tie.1.0 0) (get_or (places_of Lnk l.plan) m 0) (then_tied _ _ tie.1.2) in
    omega (arith, same, places_rise Lnk l.plan tie.1.0 m tie.1.1 tie.0)
